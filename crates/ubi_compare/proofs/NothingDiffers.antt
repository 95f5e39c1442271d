-- There is no difference between two meanings exactly if they are the same.
use Rattle.ubi_compare.proofs.Prelude.{◌≡◌, ℕ, ◌≤◌, inl, inr, [], refl, sym, ◌∙◌, subst, arith, ◌==◌, cases_lt, nat_cmp_total, unsigned_Decides, nat_cmp-IsAntisymmetric, IfSome, None, Option, Some, Sizes, slots, IsMeaning, IsVolume, Meant, Volume, differences, unless, volume_differences, NothingDiffers}
use Rattle.std.specs.FinMap as finite
use Rattle.ubi_compare.proofs.NoDifferences.{both_none, none_both, none_told, none_unless, told_none, unless_none}
use Rattle.ubi_compare.proofs.Contents.{one_slot, slot_itself}
use Rattle.ubi_compare.specs.declared.difference.Difference.TheVariants as difference

-- a slot beyond those of the device has no volume
empty_slot : (s : Sizes) (id : ℕ) (o : Option Volume) → slots s ≤ id → IfSome o (IsVolume s id) → o ≡ None
empty_slot s id None beyond is = refl
empty_slot s id (Some v) beyond is = let slot = is.slot in absurd (omega arith)

module _ (m n : Meant) (left : IsMeaning m) (right : IsMeaning n) (sizes : m.sizes ≡ n.sizes) where
  there : (id : ℕ) → IfSome (finite.get n.volumes id) (IsVolume m.sizes id)
  there id = subst (λ (s : Sizes). IfSome (finite.get n.volumes id) (IsVolume s id)) (sym sizes) (right.each id)

  same_slot : (id : ℕ) → differences m n ≡ [] → finite.get m.volumes id ≡ finite.get n.volumes id
  same_slot id none = elim (cases_lt id (slots m.sizes)) [
    | inl inside ↦ one_slot m.sizes id (finite.get m.volumes id) (finite.get n.volumes id) (left.each id) (there id)
        (none_told (λ i. volume_differences m.sizes i (finite.get m.volumes i) (finite.get n.volumes i)) 0 (slots m.sizes)
        (both_none (unless (m.image_seq == n.image_seq) (difference.ImageSeq m.image_seq n.image_seq)) _ none).1
        id (omega arith) (omega arith))
    | inr beyond ↦ empty_slot m.sizes id (finite.get m.volumes id) beyond (left.each id)
        ∙ sym (empty_slot m.sizes id (finite.get n.volumes id) beyond (there id))
  ]

  same_seq : differences m n ≡ [] → m.image_seq ≡ n.image_seq
  same_seq none = (unsigned_Decides m.image_seq n.image_seq).0
      (unless_none _ _ (both_none (unless (m.image_seq == n.image_seq) (difference.ImageSeq m.image_seq n.image_seq)) _ none).0)

  pub same_meanings : differences m n ≡ [] → m ≡ n
  same_meanings none =
      let seq = same_seq none in
      let volumes = finite.same_map nat_cmp_total nat_cmp-IsAntisymmetric m.volumes n.volumes (λ id. same_slot id none) in
      λ i. record { sizes = sizes i; image_seq = seq i; volumes = volumes i }

pub itself : (m : Meant) → differences m m ≡ []
itself m =
    none_both _ _ (none_unless _ _ ((unsigned_Decides m.image_seq m.image_seq).1 refl))
    (told_none (λ i. volume_differences m.sizes i (finite.get m.volumes i) (finite.get m.volumes i)) 0 (slots m.sizes)
    (λ id low high. slot_itself m.sizes id (finite.get m.volumes id)))

pub nothing_differs : NothingDiffers
nothing_differs m n left right sizes =
    let means_same : differences m n ≡ [] → m ≡ n = same_meanings m n left right sizes in
    (means_same, λ same. subst (λ (x : Meant). differences m x ≡ []) same (itself m))
