-- In each file something is found, or it is refused for a cause.
use Rattle.ubi_detect.proofs.Prelude.{◌≡◌, ℕ, ◌-◌, ◌≤◌, ◌⊎◌, Bool, true, false, List, [], ◌∷◌, length, inl, inr, refl, ap, sym, ◌∙◌, arith, within_or_past, AreDetected, IsFound, IsUndetected, IsWholeGroup, NonePlain, DetectedOrRefused, IsImage, heads_of, key_count, most_keys, end_of_last, has_no_page, told, is_sure, Detected, Undetected, Group, Head}
use Rattle.ubi_detect.specs.declared.detect.Undetected.TheVariants as cause
use Rattle.ubi_detect.proofs.PlainOrNot.{surely_or_not}
use Rattle.ubi_detect.proofs.SaidGroups.{not_sure, too_many}
use Rattle.ubi_detect.proofs.SomeGroups.{image_or_none}

module _ (bytes : List ℕ) where
  abbrev Answer : Type 0
  Answer = ((found : List Detected) × AreDetected bytes found) ⊎ ((c : Undetected) × IsUndetected bytes c)

  by_page : (g : Group) → IsFound bytes g → told bytes g ≡ [] → (b : Bool) → has_no_page g ≡ b → Answer
  by_page g found none true e = inr (cause.Page g.size g.key.offsets, (g, found, none, e, refl, refl))
  by_page g found none false e = inr (cause.OutOfBand g.size, (g, found, none, e, refl))

  by_told : (g : Group) → IsFound bytes g → (ds : List Detected) → told bytes g ≡ ds → Answer
  by_told g found [] e = by_page g found e (has_no_page g) refl
  by_told g found (d ∷ ds) e =
      inl (d ∷ ds, record { group = g; is = found; are = sym e; some = λ f. let n = ap length f in omega (arith, n) })

  by_sure : (g : Group) → IsWholeGroup bytes g → (b : Bool) → is_sure bytes g ≡ b → Answer
  by_sure g whole true e = by_told g (inr (whole, e)) (told bytes g) refl
  by_sure g whole false e = inr (cause.NoSize, not_sure bytes g whole e)

  by_image : NonePlain bytes → key_count bytes ≤ most_keys → (j : ℕ) (g : Group) → IsImage (heads_of bytes) j g → Answer
  by_image none few j g image = elim (within_or_past (end_of_last g) (length bytes)) [
    | inl whole ↦ by_sure g (record { none = none; few = few; index = j; image = image; whole = whole }) (is_sure bytes g) refl
    | inr past ↦ inr (cause.Length g.size (length bytes - g.last), (none, few, (j, g, image, past, refl, refl)))
  ]

  by_heads : NonePlain bytes → ((j : ℕ) (g : Group) → IsImage (heads_of bytes) j g → ⊥) → (hs : List Head) → heads_of bytes ≡ hs → Answer
  by_heads none images [] e = inr (cause.NoHeader, e)
  by_heads none images (h ∷ hs) e =
      inr (cause.NoSize, ((λ f. let n = ap length (sym e ∙ f) in omega (arith, n)), none, inr (inl images)))

  answer : Answer
  answer = elim (surely_or_not bytes) [
    | inl plain ↦ by_told plain.0 (inl plain.1) (told bytes plain.0) refl
    | inr none ↦ elim (within_or_past (key_count bytes) most_keys) [
      | inl few ↦ elim (image_or_none bytes) [
        | inl image ↦ by_image none few image.1 image.0 image.2
        | inr images ↦ by_heads none images (heads_of bytes) refl
      ]
      | inr many ↦ inr (cause.NoSize, too_many bytes none many)
    ]
  ]

pub detected_or_refused : DetectedOrRefused
detected_or_refused bytes = answer bytes
