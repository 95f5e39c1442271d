-- The law: the plan of an attached image, with no cause against it, survives every cut, and touches nothing that is avoided.
use Rattle.ubi_change.proofs.Prelude.{◌≡◌, ◌≢◌, ◌*◌, ◌/◌, ◌<◌, ◌⊎◌, ◌∷◌, [], List, ap, arith, get_or, get_or-set_other, get_or-set_same, inl, inr, length, length-set, refl, subst, suc, sym, take, true, zero, ◌∙◌, ℕ, concat, cases_eq, set, first_chunks, div-mul-add, eqb-true, ltb-true, IsGeometry, Sizes, below_same_or_above, Image, IsWholeImage, block, eraseblocks, of_blocks, first_chunks-concat, length-concat, length-first_chunks, length-blank, AcceptsBlocks, AttachValue, avoiding, changed, turn, AllFit, fits, only_clears, page_of, PlanSurvives, left, plan_of, blocks_after, block_after, step_done, target, Step, if◌then◌else◌}
use Rattle.std.proofs.Common.{◌==◌, ◌&&◌, nat_lt}
use Rattle.std.proofs.Math.Nat as nat
use Rattle.ubi_change.specs.declared.step.Step.TheVariants as step
use Rattle.ubi_change.proofs.Attached.{survives_all}
use Rattle.ubi_change.proofs.AttachedImage.{whole}
use Rattle.ubi_change.proofs.PlanFits.{length-done, plan_fits}
use Rattle.ubi_change.proofs.Premises.{left_of, right_of}
use Rattle.ubi_change.proofs.Stepped.{length-written}
use Rattle.ubi_change.proofs.AvoidedKept.{plan_avoids}
use Rattle.ubi_change.proofs.PlanPremises.{IsShown, shown_avoiding}
use Rattle.ubi_change.proofs.Attached.{Changing}

-- ---- the same, of bytes

module _ (s : Sizes) (g : IsGeometry s) where
  -- each eraseblock has its size
  abbrev AreSized : List (List ℕ) → Type 0
  AreSized bs = (i : ℕ) → i < length bs → length (get_or bs i []) ≡ s.peb_size

  program_within : (bs : List (List ℕ)) (p page : ℕ) (bytes : List ℕ) → fits s bs (step.Program p page bytes) ≡ true
      → (p < length bs) × (page < s.peb_size / s.page) × (length bytes ≡ s.page)
  program_within bs p page bytes fit =
      let first = nat_lt p (length bs) && nat_lt page (s.peb_size / s.page) in
      let all = left_of (first && (length bytes == s.page)) (only_clears (page_of s (block bs p) page) bytes) fit in
      let two = left_of first (length bytes == s.page) all in (
        ltb-true _ _ (left_of (nat_lt p (length bs)) (nat_lt page (s.peb_size / s.page)) two),
        ltb-true _ _ (right_of (nat_lt p (length bs)) (nat_lt page (s.peb_size / s.page)) two),
        eqb-true _ _ (right_of first (length bytes == s.page) all),
      )

  sized_after : (bs : List (List ℕ)) (next : Step) → AreSized bs → fits s bs next ≡ true
      → length (block_after s (block bs (target next)) next) ≡ s.peb_size
  sized_after bs (step.Erase p) sized fit = length-blank s.peb_size
  sized_after bs (step.Program p page bytes) sized fit =
      let is = program_within bs p page bytes fit in
      let whole : length (block bs p) ≡ s.peb_size = sized p is.0 in
      let inside : page < length (block bs p) / s.page = rw whole is.1 in
      length-written s.page page bytes (block bs p) (omega (arith, g.page_from)) is.2 inside ∙ whole

  sized_next : (bs : List (List ℕ)) (next : Step) → AreSized bs → fits s bs next ≡ true → AreSized (step_done s bs next)
  sized_next bs next sized fit i l = by_case (below_same_or_above i (target next))
    where
      x : List ℕ
      x = block_after s (block bs (target next)) next

      inside : i < length bs
      inside = let n = length-set bs (target next) x in omega arith

      other : i ≢ target next → length (get_or (step_done s bs next) i []) ≡ s.peb_size
      other apart = ap length (get_or-set_other bs (target next) i x [] apart) ∙ sized i inside

      by_case : (i < target next) ⊎ (i ≡ target next) ⊎ (target next < i)
          → length (get_or (step_done s bs next) i []) ≡ s.peb_size
      by_case (inl low) = other (omega arith)
      by_case (inr (inl same)) =
          ap (λ (k : ℕ). length (get_or (step_done s bs next) k [])) same
          ∙ ap length (get_or-set_same bs (target next) x [] (subst (λ (k : ℕ). k < length bs) same inside))
          ∙ sized_after bs next sized fit
      by_case (inr (inr high)) = other (omega arith)

  sized_cut : (bs : List (List ℕ)) (steps : List Step) (k : ℕ) → AreSized bs → AllFit s bs steps
      → AreSized (blocks_after s bs steps k)
  sized_cut bs [] zero sized fit = sized
  sized_cut bs [] (suc k) sized fit = sized
  sized_cut bs (x ∷ xs) zero sized fit = sized
  sized_cut bs (x ∷ xs) (suc k) sized fit =
      sized_cut (step_done s bs x) xs k (sized_next bs x sized (fit 0 x refl)) (λ i next at. fit (suc i) next at)

-- the image that is left is whole, and cut into the eraseblocks that are left
module _ (image : Image) (g : IsGeometry image.sizes) (a : AttachValue) (att : IsShown image a) (steps : List Step)
    (fit : of_blocks AllFit image steps) (k : ℕ) where
  abbrev size : ℕ
  size = image.sizes.peb_size

  abbrev cs : List (List ℕ)
  cs = of_blocks blocks_after image steps k

  some : 0 < size
  some = omega (arith, g.page_from, g.peb_from)

  sized : (i : ℕ) → i < length cs → length (get_or cs i []) ≡ size
  sized = sized_cut image.sizes g (eraseblocks image) steps k (whole image g a att) fit

  many : length (concat cs) ≡ length image.bytes
  many =
      let count = length-concat size cs sized in
      let kept : length cs ≡ length (eraseblocks image) = length-done image.sizes (eraseblocks image) (take k steps) in
      let blocks = length-first_chunks size (length image.bytes / size) image.bytes in
      let parts = nat.div-add-mod (length image.bytes) size in
      let none = att.accepted.whole.cut in
      count ∙ ap (λ n. n * size) (kept ∙ blocks) ∙ omega arith

  -- an eraseblock may hold other bytes
  module _ (p : ℕ) (t : List ℕ) (whole_block : length t ≡ size) where
    abbrev zs : List (List ℕ)
    zs = set cs p t

    sized_torn : (i : ℕ) → i < length zs → length (get_or zs i []) ≡ size
    sized_torn i l = elim (cases_eq i p) [
      | inl same ↦
          let inside : p < length cs = (let n = length-set cs p t in omega arith) in
          ap (λ (k : ℕ). length (get_or zs k [])) same ∙ ap length (get_or-set_same cs p t [] inside) ∙ whole_block
      | inr other ↦
          ap length (get_or-set_other cs p i t [] other) ∙ sized i (let n = length-set cs p t in omega arith)
    ]

    many_torn : length (concat zs) ≡ length image.bytes
    many_torn =
        length-concat size zs sized_torn ∙ ap (λ n. n * size) (length-set cs p t) ∙ sym (length-concat size cs sized) ∙ many

    pub torn_whole : IsWholeImage (record image { bytes = concat zs })
    torn_whole =
        let whole = att.accepted.whole in
        record { some = rw many_torn whole.some; cut = rw many_torn whole.cut; fits = rw many_torn whole.fits }

    pub torn_cut : eraseblocks (record image { bytes = concat zs }) ≡ zs
    torn_cut =
        let count : length (concat zs) / size ≡ length zs =
        ap (λ n. n / size) (length-concat size zs sized_torn ∙ omega arith) ∙ div-mul-add (length zs) size 0 some in
        ap (λ n. first_chunks size n (concat zs)) count ∙ first_chunks-concat size zs sized_torn

  pub left_whole : IsWholeImage (left image steps k)
  left_whole =
      let whole = att.accepted.whole in
      record { some = rw many whole.some; cut = rw many whole.cut; fits = rw many whole.fits }

  pub left_cut : eraseblocks (left image steps k) ≡ of_blocks blocks_after image steps k
  left_cut =
      let count : length (concat cs) / size ≡ length cs =
      ap (λ n. n / size) (length-concat size cs sized ∙ omega arith) ∙ div-mul-add (length cs) size 0 some in
      ap (λ n. first_chunks size n (concat cs)) count ∙ first_chunks-concat size cs sized

pub plan_survives_law : PlanSurvives
plan_survives_law image av from id lnum new v g of_image blank there allowed =
    let a = avoiding av from in
    let att = shown_avoiding image av from of_image in
    let change : Changing = record {
      image = image;
      g = g;
      a = a;
      att = att;
      id = id;
      lnum = lnum;
      new = new;
      v = v;
      there = there;
      allowed = allowed;
    } in
    let steps = of_blocks plan_of image a v.entry id lnum new in
    let cuts = survives_all change in (
      plan_avoids image av from of_image blank g id lnum new v there allowed,
      cuts,
      λ bytes.
          let fit : of_blocks AllFit image steps = plan_fits change bytes in
          λ k few. record {
            whole = left_whole image g a att steps fit k;
            accepted = subst (λ bs. AcceptsBlocks image.sizes bs (if nat_lt k (turn image.sizes steps new) then from.meaning
                else changed from.meaning id lnum new)) (sym (left_cut image g a att steps fit k)) (cuts.each k few);
          },
    )
