-- A file holds at most one image, and what is found in it is one list or one cause.
use Rattle.ubi_detect.proofs.Prelude.{◌≡◌, ℕ, List, inl, inr, ap, sym, ◌∙◌, arith, slice_index_or, IsWholeGroup, OneDetection, OneFound, OneImage, TwoHeaders, IsImage, no_key, first_place, heads_of, keys_of, last_place, places, told, Group, Head}
use Rattle.ubi_detect.proofs.BestGroup.{same_count, same_size}
use Rattle.ubi_detect.proofs.OnePlain.{one_plain, same_groups}

module _ (heads : List Head) (i j : ℕ) (f g : Group) (one : IsImage heads i f) (two : IsImage heads j g) where
  same_index : i ≡ j
  same_index = elim (one.most j g two.says) [
    | inl less ↦ elim (two.most i f one.says) [
      | inl more ↦ absurd (omega (arith, less, more))
      | inr same ↦ absurd (let e = same.0 in omega (arith, less, e))
    ]
    | inr first ↦ elim (two.most i f one.says) [
      | inl more ↦ absurd (let e = first.0 in omega (arith, more, e))
      | inr second ↦ (let e = first.1 in let h = second.1 in omega (arith, e, h))
    ]
  ]

  same_key : f.key ≡ g.key
  same_key = one.says.key ∙ ap (λ k. slice_index_or (keys_of heads) k no_key) same_index ∙ sym two.says.key

  pub same_group : f ≡ g
  same_group =
      let a = one.says.group in
      let b = two.says.group in
      same_groups f g same_key (a.first ∙ ap (λ k. first_place (places heads k)) same_key ∙ sym b.first)
      (a.last ∙ ap (λ k. last_place (places heads k)) same_key ∙ sym b.last) (same_count heads f g a b same_key)
      (same_size heads f g a b same_key)

pub one_image : OneImage
one_image heads i j f g one two = (same_index heads i j f g one two, same_group heads i j f g one two)

pub same_whole : (bytes : List ℕ) (f g : Group) → IsWholeGroup bytes f → IsWholeGroup bytes g → f ≡ g
same_whole bytes f g one two = same_group (heads_of bytes) one.index two.index f g one.image two.image

pub one_found : OneFound
one_found bytes f g (inl one) (inl two) = one_plain bytes f g one.plain two.plain
one_found bytes f g (inl one) (inr two) = absurd (two.0.none f one)
one_found bytes f g (inr one) (inl two) = absurd (one.0.none g two)
one_found bytes f g (inr one) (inr two) = same_whole bytes f g one.0 two.0

pub two_headers : TwoHeaders
two_headers bytes g (inl one) = one.plain.two
two_headers bytes g (inr one) = one.0.image.says.two

pub one_detection : OneDetection
one_detection bytes found other one two =
    one.are ∙ ap (told bytes) (one_found bytes one.group two.group one.is two.is) ∙ sym two.are
