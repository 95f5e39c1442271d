-- A file in which something is found isn't refused; and a file is refused for at most one cause.
use Rattle.ubi_detect.proofs.Prelude.{◌≡◌, ◌≢◌, ℕ, ◌-◌, ◌<◌, ◌≤◌, List, [], length, inl, inr, refl, ap, sym, ◌∙◌, arith, IsFalse, true≢false, below_same_or_above, AreDetected, IsFound, IsUndetected, IsWholeGroup, NonePlain, DetectedOrNot, OneUndetected, IsImage, heads_of, key_count, most_keys, end_of_last, has_no_page, told, is_sure, Detected, Undetected, Group}
use Rattle.ubi_detect.specs.declared.detect.Undetected.TheVariants as cause
use Rattle.ubi_detect.proofs.OneImage.{one_found, same_group, same_whole}
use Rattle.ubi_detect.proofs.SaidGroups.{image_heads}
use Rattle.ubi_detect.proofs.PlainHeads.{plain_heads}

-- the place of a cause in the order in which they are tried
abbrev rank : Undetected → ℕ
rank cause.NoHeader = 1
rank (cause.Length q rest) = 2
rank cause.NoSize = 3
rank (cause.OutOfBand q) = 4
rank (cause.Page q o) = 5

rank_last : (d : Undetected) → rank d ≤ 5
rank_last cause.NoHeader = omega arith
rank_last (cause.Length q rest) = omega arith
rank_last cause.NoSize = omega arith
rank_last (cause.OutOfBand q) = omega arith
rank_last (cause.Page q o) = omega arith

module _ (bytes : List ℕ) where
  abbrev Is : Undetected → Type 0
  Is c = IsUndetected bytes c

  found_heads : (g : Group) → IsFound bytes g → heads_of bytes ≢ []
  found_heads g (inl one) = plain_heads bytes g one.plain
  found_heads g (inr one) = image_heads (heads_of bytes) one.0.index g one.0.image

  -- an image whose last eraseblock isn't all there isn't whole, nor found
  not_whole : (j : ℕ) (f g : Group) → IsImage (heads_of bytes) j f → length bytes < end_of_last f → IsWholeGroup bytes g → ⊥
  not_whole j f g one less two =
      let e = ap end_of_last (same_group (heads_of bytes) j two.index f g one two.image) in
      let w = two.whole in omega (arith, e, less, w)

  not_found : (j : ℕ) (f g : Group) → NonePlain bytes → IsImage (heads_of bytes) j f → length bytes < end_of_last f → IsFound bytes g → ⊥
  not_found j f g none one less (inl two) = none g two
  not_found j f g none one less (inr two) = not_whole j f g one less two.0

  -- nor is one that isn't sure
  not_sure : (f g : Group) → NonePlain bytes → IsWholeGroup bytes f → IsFalse (is_sure bytes f) → IsFound bytes g → ⊥
  not_sure f g none one fails (inl two) = none g two
  not_sure f g none one fails (inr two) =
      true≢false (sym two.1 ∙ sym (ap (is_sure bytes) (same_whole bytes f g one two.0)) ∙ fails)

  not_any : (g : Group) → NonePlain bytes → ((j : ℕ) (f : Group) → IsImage (heads_of bytes) j f → ⊥) → IsFound bytes g → ⊥
  not_any g none images (inl two) = none g two
  not_any g none images (inr two) = images two.0.index g two.0.image

  -- nor one of a file with too many keys
  not_many : (g : Group) → NonePlain bytes → most_keys < key_count bytes → IsFound bytes g → ⊥
  not_many g none many (inl two) = none g two
  not_many g none many (inr two) = let few = two.0.few in omega (arith, few, many)

  -- a cause that is tried behind the sizes has a group that is found
  group_of : (d : Undetected) → 3 < rank d → Is d → (g : Group) × IsFound bytes g
  group_of (cause.OutOfBand q) h (g, found, none, some, size) = (g, found)
  group_of (cause.Page q o) h (g, found, none, nil, size, is) = (g, found)
  group_of d h a = absurd (omega (arith, h))

  some_header : (d : Undetected) → 1 < rank d → Is d → heads_of bytes ≢ []
  some_header (cause.Length q rest) h (none, few, (j, g, is, less, size, left)) = image_heads (heads_of bytes) j g is
  some_header cause.NoSize h a = a.0
  some_header (cause.OutOfBand q) h (g, found, none, some, size) = found_heads g found
  some_header (cause.Page q o) h (g, found, none, nil, size, is) = found_heads g found
  some_header d h a = absurd (omega (arith, h))

  same_page : (f g : Group) → IsFound bytes f → IsFound bytes g → has_no_page f ≡ has_no_page g
  same_page f g one two = ap has_no_page (one_found bytes f g one two)

  apart : (c d : Undetected) → rank c < rank d → Is c → Is d → ⊥
  apart cause.NoHeader d h a b = some_header d h b a
  apart (cause.Length q rest) cause.NoSize h (none, few, (j, g, is, less, size, left)) (some, plain, inl many) = absurd (omega (arith, few, many))
  apart (cause.Length q rest) cause.NoSize h (none, few, (j, g, is, less, size, left)) (some, plain, inr (inl images)) = images j g is
  apart (cause.Length q rest) cause.NoSize h (none, few, (j, g, is, less, size, left)) (some, plain, inr (inr (f, two, fails))) =
      not_whole j g f is less two
  apart (cause.Length q rest) (cause.OutOfBand r) h (none, few, (j, g, is, less, size, left)) (f, found, nil, some, length') =
      not_found j g f none is less found
  apart (cause.Length q rest) (cause.Page r o) h (none, few, (j, g, is, less, size, left)) (f, found, nil, no_page, length', are) =
      not_found j g f none is less found
  apart cause.NoSize d h (some, none, inl many) b = let s = group_of d h b in not_many s.0 none many s.1
  apart cause.NoSize d h (some, none, inr (inl images)) b = let s = group_of d h b in not_any s.0 none images s.1
  apart cause.NoSize d h (some, none, inr (inr (g, one, fails))) b = let s = group_of d h b in not_sure g s.0 none one fails s.1
  apart (cause.OutOfBand q) (cause.Page r o) h (f, one, none, some, size) (g, two, nil, no_page, length', is) =
      true≢false (sym no_page ∙ sym (same_page f g one two) ∙ some)
  apart (cause.Page q o) d h a b = absurd (omega (arith, h, rank_last d))
  apart c d h a b = absurd (omega (arith, h))

  same : (c d : Undetected) → rank c ≡ rank d → Is c → Is d → c ≡ d
  same cause.NoHeader cause.NoHeader e a b = refl
  same cause.NoSize cause.NoSize e a b = refl
  same (cause.Length q rest) (cause.Length r over) e (none, few, (i, f, one, less, size, left)) (plain, two_few, (j, g, two, past, length', more)) =
      let s = same_group (heads_of bytes) i j f g one two in
      let sizes : q ≡ r = size ∙ ap (λ x. x.size) s ∙ sym length' in
      let rests : rest ≡ over = left ∙ ap (λ x. length bytes - x.last) s ∙ sym more in
      ap (λ k. cause.Length k rest) sizes ∙ ap (cause.Length r) rests
  same (cause.OutOfBand q) (cause.OutOfBand r) e (f, one, none, some, size) (g, two, nil, any, length') =
      ap cause.OutOfBand (size ∙ ap (λ x. x.size) (one_found bytes f g one two) ∙ sym length')
  same (cause.Page q o) (cause.Page r p) e (f, one, none, no_page, size, is) (g, two, nil, void, length', are) =
      let s = one_found bytes f g one two in
      ap (λ k. cause.Page k o) (size ∙ ap (λ x. x.size) s ∙ sym length') ∙ ap (cause.Page r) (is ∙ ap (λ x. x.key.offsets) s ∙ sym are)
  same c d e a b = absurd (omega (arith, e))

  -- what is told rules each cause out
  not_both : (found : List Detected) (c : Undetected) → AreDetected bytes found → Is c → ⊥
  not_both found cause.NoHeader are e = found_heads are.group are.is e
  not_both found (cause.Length q rest) are (none, few, (j, g, one, less, size, left)) = not_found j g are.group none one less are.is
  not_both found cause.NoSize are (some, none, inl many) = not_many are.group none many are.is
  not_both found cause.NoSize are (some, none, inr (inl images)) = not_any are.group none images are.is
  not_both found cause.NoSize are (some, none, inr (inr (g, one, fails))) = not_sure g are.group none one fails are.is
  not_both found (cause.OutOfBand q) are (g, one, none, some, size) =
      are.some (are.are ∙ ap (told bytes) (one_found bytes are.group g are.is one) ∙ none)
  not_both found (cause.Page q o) are (g, one, none, nil, size, is) =
      are.some (are.are ∙ ap (told bytes) (one_found bytes are.group g are.is one) ∙ none)

pub one_undetected : OneUndetected
one_undetected bytes c d a b = elim (below_same_or_above (rank c) (rank d)) [
  | inl h ↦ absurd (apart bytes c d h a b)
  | inr w ↦ elim w [ inl e ↦ same bytes c d e a b | inr h ↦ absurd (apart bytes d c h b a) ]
]

pub detected_or_not : DetectedOrNot
detected_or_not bytes found c are is = not_both bytes found c are is
