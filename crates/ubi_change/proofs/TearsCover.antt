-- What may be left of a step.
use Rattle.ubi_change.proofs.Prelude.{◌≡◌, ℕ, ◌<◌, ◌≤◌, inl, inr, true, List, [], ◌∷◌, take, refl, ap, ap₂, sym, ◌∙◌, arith, bit_and, eqb-true, ◌==◌, ec_reading, AreBytes, bytes-take, ec_is_of, Sizes, ec, block_after, only_clears, Step, All-head, All-tail, MayBeLeft, NoChance, OnlyClears, TearsCover, and_parts}
use Rattle.std.specs.List.{All}
use Rattle.std.proofs.lemmas.Nat as nat
use Rattle.ubi_media.specs.declared.ec.EcRead.TheVariants as ec_read
use Rattle.ubi_change.specs.declared.step.Step.TheVariants as step
use Rattle.ubi_change.proofs.Fits.{clears_same}
use Rattle.ubi_change.proofs.TornBlocks.{clears_take}
use Rattle.ubi_change.proofs.Written.{ec-blank}

module _ (s : Sizes) (b c : List ℕ) where
  none_yet : NoChance s b c b
  none_yet = record {
    ec_valid = λ h e. inl e;
    ec_fault = λ f e. inl e;
    vid_valid = λ h e. inl e;
    vid_fault = λ f e. inl e;
    copied = λ h e flag right. inl (e, refl);
  }

  all_done : NoChance s b c c
  all_done = record {
    ec_valid = λ h e. inr e;
    ec_fault = λ f e. inr e;
    vid_valid = λ h e. inr e;
    vid_fault = λ f e. inr e;
    copied = λ h e flag right. inr (e, refl);
  }

-- where all bits are set, an erase sets none
full : (xs ys : List ℕ) → All (λ y. y ≡ 255) ys → AreBytes xs → only_clears xs ys ≡ true → xs ≡ ys
full [] [] a b e = refl
full [] (y ∷ ys) a b e = absurd (cc)
full (x ∷ xs) [] a b e = absurd (cc)
full (x ∷ xs) (y ∷ ys) a b e =
    let all : y ≡ 255 = All-head (λ y. y ≡ 255) y ys a in
    let kept : bit_and x y ≡ y = eqb-true (bit_and x y) y (and_parts (bit_and x y == y) (only_clears xs ys) e).0 in
    let most : bit_and x y ≤ x = nat.and_le_l x y in
    let few : x < 256 = b.0 in
    let here : x ≡ y = omega arith in
    ap₂ (λ u v. u ∷ v) here
    (full xs ys (All-tail (λ y. y ≡ 255) y ys a) b.1 (and_parts (bit_and x y == y) (only_clears xs ys) e).1)

sets_only : (s : Sizes) (b t : List ℕ) → AreBytes t → only_clears t b ≡ true → ec s b ≡ ec_read.Blank
    → ec s t ≡ ec_read.Blank
sets_only s b t bytes e blank =
    let is = ec_is_of s (take 64 b) ec_read.Blank (sym blank) in
    ap (ec_reading s) (full (take 64 t) (take 64 b) is.1 (bytes-take 64 t bytes) (clears_take 64 t b e)) ∙ blank

pub tears_cover : TearsCover
tears_cover s g b = (steps, λ p t bytes e blank some. sets_only s b t bytes e blank)
  where
    steps : (next : Step) → OnlyClears s b next
        → (MayBeLeft s b next b × NoChance s b (block_after s b next) b)
        × (MayBeLeft s b next (block_after s b next) × NoChance s b (block_after s b next) (block_after s b next))
    steps (step.Erase p) k = (
      ((λ e some. e), none_yet s b (block_after s b (step.Erase p))),
      ((λ e some. ec-blank s g), all_done s b (block_after s b (step.Erase p))),
    )
    steps (step.Program p page bytes) k = (
      ((clears_same b, k), none_yet s b (block_after s b (step.Program p page bytes))),
      ((k, clears_same (block_after s b (step.Program p page bytes))), all_done s b (block_after s b (step.Program p page bytes))),
    )
