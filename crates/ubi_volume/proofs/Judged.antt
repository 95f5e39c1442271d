-- The first bytes of a file, up to one more than the device has, decide what it means, or why it is refused.
use Rattle.ubi_volume.proofs.Prelude.{◌≡◌, ℕ, ◌+◌, ◌*◌, ◌<◌, inl, inr, List, length, sym, subst, arith, take_all, Sizes, Refusal, within_or_past, Image, seen_of, Accepts, Refuses, JudgedAlone, Meant}
use Rattle.std.proofs.lemmas.List.{length-take-le}
use Rattle.ubi_media.specs.declared.refusal.Refusal.TheVariants as refusal

abbrev image : Sizes → List ℕ → Image
image s bytes = record { sizes = s; bytes = bytes }

-- bytes that are more than the device has are refused for that, and for nothing else
only_too_many : (s : Sizes) (xs ys : List ℕ) (c : Refusal) → s.pebs * s.peb_size < length xs
    → s.pebs * s.peb_size < length ys
    → Refuses (image s xs) c → Refuses (image s ys) c
only_too_many s xs ys refusal.TooMany a b (inl h) = inl b
only_too_many s xs ys refusal.Length a b (inl h) = (let few = h.0 in absurd (omega arith))
only_too_many s xs ys _ a b (inl h) = absurd h
only_too_many s xs ys c a b (inr h) = (let few = h.0.fits in absurd (omega arith))

never_accepted : (s : Sizes) (xs : List ℕ) (m : Meant) → s.pebs * s.peb_size < length xs → Accepts (image s xs) m → ⊥
never_accepted s xs m a h = let few = h.whole.fits in omega arith

pub judged_alone : JudgedAlone
judged_alone s bytes =
    let most = s.pebs * s.peb_size in
    elim (within_or_past (length bytes) most) [
      | inl few ↦
          let same : seen_of s bytes ≡ bytes = take_all (most + 1) bytes (omega arith) in (
            λ m. (
              λ h. subst (λ xs. Accepts (image s xs) m) same h,
              λ h. subst (λ xs. Accepts (image s xs) m) (sym same) h,
            ),
            λ c. (
              λ h. subst (λ xs. Refuses (image s xs) c) same h,
              λ h. subst (λ xs. Refuses (image s xs) c) (sym same) h,
            ),
          )
      | inr many ↦
          let len : length (seen_of s bytes) ≡ most + 1 = length-take-le (most + 1) bytes (omega arith) in
          let cut : most < length (seen_of s bytes) = omega arith in (
            λ m. (λ h. absurd (never_accepted s _ m cut h), λ h. absurd (never_accepted s bytes m many h)),
            λ c. (λ h. only_too_many s _ bytes c cut many h, λ h. only_too_many s bytes _ c many cut h),
          )
    ]
