-- The image after the first steps of a plan: what was written of it, and what it means.
use Rattle.ubi_writing.proofs.Prelude.{◌≡◌, ℕ, ◌/◌, ◌<◌, ◌≤◌, List, length, take, arith, ap, sym, subst, ◌∙◌, Option, fold, if◌then◌else◌, concat, take_all, IsGeometry, Sizes, AllWithin, blocks_after, after_text, step_done, Step, blocks-cut, length-cut, Image, IsWholeImage, IsWholeSize, eraseblocks, image_of, Agreed, Source, blocks_of, StreamError, AcceptsBlocks, Meant, First, NotAll, IsWroteError, Wanted, Wrote, error_as, wrote_as, CutAccepts, IsCutAfter, cut_text, steps_done, nat_lt, None}
use Rattle.std.specs.Prelude.{Some}
use Rattle.ubi_scan.specs.declared.errors.StreamError.TheVariants as stream

-- where the eraseblocks that the steps leave are accepted, so are the bytes
pub cut_accepts : (image : Image) (steps : List Step) (k turn : ℕ) (old new : Meant) → IsWholeImage image → IsCutAfter image steps k
    → AcceptsBlocks image.sizes (blocks_after image.sizes (eraseblocks image) steps k) (if nat_lt k turn then old else new)
    → CutAccepts image steps turn old new k
cut_accepts image steps k turn old new whole cut accepted = record {
  whole = record { some = rw cut.same whole.some; cut = rw cut.same whole.cut; fits = rw cut.same whole.fits };
  accepted = subst (λ bs. AcceptsBlocks image.sizes bs (if nat_lt k turn then old else new)) (sym cut.done) accepted;
}

-- no more steps are done than there are
pub few_done : (steps : List Step) (stop : Option ℕ) → steps_done steps stop ≤ length steps
few_done steps (Some k) = omega arith
few_done steps None = omega arith

-- the bytes of an image after the first k steps are those after these alone
module _ (s : Sizes) (steps : List Step) (k : ℕ) where
  alone : (image text : List ℕ) → cut_text s steps k image text → after_text s (take k steps) image text
  alone image text is =
      let firsts = take k steps in
      is ∙ ap (λ (xs : List Step). concat (fold (step_done s) (blocks_of s image) xs)) (sym (take_all (length firsts) firsts (omega arith)))

  -- so what was written of these is of those
  pub wrote_firsts : (known : Source) (agrees : Agreed) (a b : Option (List ℕ)) (many : ℕ → ℕ → Type 0) (n : ℕ)
      → Wrote agrees a b (after_text s (take k steps)) many 0 n → Wrote agrees a b (cut_text s steps k) many 0 n
  wrote_firsts known agrees a b many n w = wrote_as known agrees a b (after_text s (take k steps)) (cut_text s steps k) many 0 n alone w

  pub failed_firsts : (known : Source) (agrees : Agreed) (a b : Option (List ℕ)) (e : StreamError)
      → IsWroteError s known agrees a b (after_text s (take k steps)) 0 e → IsWroteError s known agrees a b (cut_text s steps k) 0 e
  failed_firsts known agrees a b e w = error_as known agrees s a b (after_text s (take k steps)) (cut_text s steps k) 0 e alone w

-- the bytes of an image after steps that work within its eraseblocks are cut into what these leave
module _ (s : Sizes) (g : IsGeometry s) (bytes : List ℕ) (size : ℕ) (whole : IsWholeSize s size) (sized : length bytes ≡ size)
    (steps : List Step) (within : AllWithin s (size / s.peb_size) steps) (k : ℕ) where
  pub is_cut : IsCutAfter (image_of s bytes) steps k
  is_cut =
      let some : 0 < s.page = omega (arith, g.page_from) in
      let here : IsWholeSize s (length bytes) = subst (IsWholeSize s) (sym sized) whole in
      let inside : AllWithin s (length bytes / s.peb_size) steps = subst (λ n. AllWithin s (n / s.peb_size) steps) (sym sized) within in
      record { same = length-cut s some bytes here steps inside k; done = blocks-cut s some bytes here steps inside k }

-- a read that failed left the first of the bytes written
pub part_read : (s : Sizes) (known : Source) (agrees : Agreed) (a b : Option (List ℕ)) (wanted : Wanted) (e : StreamError) (p n : ℕ)
    → e ≡ stream.Read p n → IsWroteError s known agrees a b wanted 0 e → (m : ℕ) × Wrote agrees a b wanted First 0 m
part_read s known agrees a b wanted e p n is h = (n, (subst (IsWroteError s known agrees a b wanted 0) is h).1)

-- so did a write that failed, and not all of them
pub part_written : (s : Sizes) (known : Source) (agrees : Agreed) (a b : Option (List ℕ)) (wanted : Wanted) (e : StreamError) (n : ℕ)
    → e ≡ stream.Write n → IsWroteError s known agrees a b wanted 0 e → (m : ℕ) × Wrote agrees a b wanted NotAll 0 m
part_written s known agrees a b wanted e n is h = (n, subst (IsWroteError s known agrees a b wanted 0) is h)
