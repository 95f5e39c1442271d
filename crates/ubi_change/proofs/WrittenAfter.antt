-- What is written of an image after the steps, eraseblock by eraseblock.
use Rattle.ubi_change.proofs.Prelude.{◌≡◌, ℕ, ◌+◌, ◌<◌, List, [], ◌∷◌, ◌++◌, append-nil, length, take, drop, slice_range, ap, sym, ◌∙◌, arith, length-set, Option, fold, concat, take_all, take_more, concat-append, Sizes, block, Agreed, IsSource, Source, blocks_in, blocks_of, StreamError, count_blocks, First, IsWroteError, NotAll, Wanted, Wrote, Appends-nil, AllWithin, refl, part_is, error_where, wrote_where, Splits, error_behind, error_front, wrote_as, wrote_more, wrote_none, blocks_after, after_text, step_done, target, block_after, block_cut, block_text, front_text, Step}
use Rattle.ubi_volume.specs.Wrote.{All}
use Rattle.std.proofs.Common.{take-append-drop}
use Rattle.ubi_change.proofs.OnBlock.{block_done}
use Rattle.ubi_change.proofs.CutBlocks.{cut_sized}
use Rattle.ubi_change.proofs.WholeReads.{block_whole}

-- an eraseblock that was read whole
pub whole_read : (s : Sizes) (k : Source) (agrees : Agreed) → IsSource k agrees → (bytes : List ℕ) → agrees bytes → (p n : ℕ) (out : List ℕ)
    → p < blocks_in s k → n ≡ s.peb_size → out ≡ slice_range (block (blocks_of s bytes) p) 0 (0 + n) → out ≡ block (blocks_of s bytes) p
whole_read s k agrees is bytes holds p n out inside size read =
    let b = block (blocks_of s bytes) p in
    read ∙ part_is b 0 n ∙ take_all n b (let long = block_whole s k agrees is bytes holds p inside in omega (arith, long, size))

-- nothing is written of an eraseblock for which steps can't be made
pub nothing_written : (s : Sizes) (k : Source) (agrees : Agreed) → IsSource k agrees → 0 < s.page → 0 < s.peb_size → (n p : ℕ) (steps : List Step)
    → AllWithin s n steps → p < blocks_in s k → (a : Option (List ℕ)) (done : ℕ) → Wrote agrees a a (block_text s p steps) NotAll done done
nothing_written s k agrees is paged sized n p steps within inside a done = record {
  bytes = [];
  got = Appends-nil a;
  count = omega arith;
  held = λ bytes holds text same.
      (let long = ap length same
      ∙ cut_sized s paged n p steps within (block (blocks_of s bytes) p) (block_whole s k agrees is bytes holds p inside) in
      (omega (arith, long, sized), refl));
}

-- nor of one that can't be read
pub nothing_of_unread : (agrees : Agreed) (a : Option (List ℕ)) (wanted : Wanted) (done : ℕ) → Wrote agrees a a wanted First done done
nothing_of_unread agrees a wanted done =
    record { bytes = []; got = Appends-nil a; count = omega arith; held = λ bytes holds text same. (omega arith, refl) }

length-done : (s : Sizes) (bs : List (List ℕ)) (steps : List Step) → length (fold (step_done s) bs steps) ≡ length bs
length-done s bs [] = omega arith
length-done s bs (x ∷ xs) = length-done s (step_done s bs x) xs ∙ length-set bs (target x) (block_after s (block bs (target x)) x)

module _ (s : Sizes) (n : ℕ) (steps : List Step) where
  abbrev left : List ℕ → List (List ℕ)
  left image = blocks_after s (blocks_of s image) steps (length steps)

  left-is : (image : List ℕ) → left image ≡ fold (step_done s) (blocks_of s image) steps
  left-is image = ap (fold (step_done s) (blocks_of s image)) (take_all (length steps) steps (omega arith))

  -- one eraseblock more
  one_more : (p : ℕ) → p < n → Splits (front_text s n (p + 1) steps) (front_text s n p steps) (block_text s p steps)
  one_more p inside image text h =
      let xs = left image in
      let bs = blocks_of s image in
      let within : p < length bs = omega (arith, h.0) in
      let long : length xs ≡ length bs = ap length (left-is image) ∙ length-done s bs steps in
      let last : block xs p ≡ block_cut s p steps (block bs p) = ap (λ ys. block ys p) (left-is image) ∙ block_done s p bs steps within in (
        concat (take p xs),
        block xs p,
        h.1 ∙ ap concat (take_more xs p [] (omega (arith, long))) ∙ concat-append (take p xs) (block xs p ∷ [])
            ∙ ap (λ ys. concat (take p xs) ++ ys) (append-nil (block xs p)),
        (h.0, λ i. concat (take p xs)),
        last,
      )

  -- and all that follow
  the_rest : (p : ℕ) → Splits (front_text s n n steps) (front_text s n p steps) (λ image text. text ≡ concat (drop p (left image)))
  the_rest p image text h =
      let xs = left image in
      let bs = blocks_of s image in
      let long : length xs ≡ n = ap length (left-is image) ∙ length-done s bs steps ∙ h.0 in (
        concat (take p xs),
        concat (drop p xs),
        h.1 ∙ ap concat (take_all n xs (omega (arith, long)) ∙ sym (take-append-drop p xs)) ∙ concat-append (take p xs) (drop p xs),
        (h.0, λ i. concat (take p xs)),
        (λ i. concat (drop p xs)),
      )

  module _ (k : Source) (agrees : Agreed) where
    pub wrote_first : (a : Option (List ℕ)) → Wrote agrees a a (front_text s n 0 steps) All 0 0
    wrote_first a = wrote_as k agrees a a (λ image text. text ≡ []) (front_text s n 0 steps) All 0 0 (λ image text h. h.1) (wrote_none k agrees a 0)

    pub wrote_next : (p : ℕ) → p < n → (a b c : Option (List ℕ)) (m d : ℕ) → Wrote agrees a b (front_text s n p steps) All 0 m
        → Wrote agrees b c (block_text s p steps) All m d → Wrote agrees a c (front_text s n (p + 1) steps) All 0 d
    wrote_next p inside a b c m d = wrote_more k agrees a b c (front_text s n (p + 1) steps) (front_text s n p steps) (block_text s p steps) 0 m d (one_more p inside)

    module _ (is : IsSource k agrees) (count : n ≡ blocks_in s k) where
      sized : (image text : List ℕ) → agrees image → after_text s steps image text → front_text s n n steps image text
      sized image text holds h =
          let long : length (blocks_of s image) ≡ n = count_blocks s k agrees image is holds ∙ sym count in (
            long,
            h ∙ ap concat (sym (take_all n (left image) (omega (arith, long, ap length (left-is image), length-done s (blocks_of s image) steps)))),
          )

      pub wrote_last : (a b : Option (List ℕ)) (d : ℕ) → Wrote agrees a b (front_text s n n steps) All 0 d → Wrote agrees a b (after_text s steps) All 0 d
      wrote_last a b d = wrote_where agrees agrees (λ image holds. holds) a b (front_text s n n steps) (after_text s steps) All 0 d sized

      pub failed_at : (p : ℕ) → p < n → (a b c : Option (List ℕ)) (m : ℕ) (e : StreamError) → Wrote agrees a b (front_text s n p steps) All 0 m
          → IsWroteError s k agrees b c (block_text s p steps) m e → IsWroteError s k agrees a c (after_text s steps) 0 e
      failed_at p inside a b c m e before h =
          error_where agrees agrees (λ image holds. holds) s k a c (front_text s n n steps) (after_text s steps) 0 e sized
          (error_front k agrees s a c (front_text s n n steps) (front_text s n (p + 1) steps) (λ image text. text ≡ concat (drop (p + 1) (left image))) 0 e
          (the_rest (p + 1))
          (error_behind k agrees s a b c (front_text s n (p + 1) steps) (front_text s n p steps) (block_text s p steps) 0 m e (one_more p inside) before h))
