-- LEBs whose numbers and lengths a test allows.
use Rattle.ubi_volume.proofs.Prelude.{◌≡◌, ℕ, ◌<◌, Bool, Decides, List, length, get_or, refl, ap, sym, ◌∙◌, subst, ◌↔◌, IfSome, IsTrue, None, Option, Some, Decides-and, Decides-by_and, Decides-ltb, BTreeMap, nat_cmp_total, unsigned_Decides, FinMap, nat_cmp-IsAntisymmetric, list_all, nat_cmp, entries_tree, find_at, place_of, leb_fits}
use Rattle.std.specs.Prelude.{All}
use Rattle.std.specs.BTreeMap as tree
use Rattle.std.specs.FinMap as finite

module _ (reserved size : ℕ) where
  abbrev Within : ℕ × List ℕ → Type 0
  Within e = (e.0 < reserved) × (length e.1 ≡ size)

  within : (e : ℕ × List ℕ) → Decides (leb_fits reserved size e) (Within e)
  within e = Decides-and _ _ (Decides-ltb e.0 reserved) (unsigned_Decides (length e.1) size)

  all_within : (es : List (ℕ × List ℕ)) → Decides (list_all (leb_fits reserved size) es) (All Within es)
  all_within es = Decides-by_and (leb_fits reserved size) Within (list_all (leb_fits reserved size)) within refl
      (λ _ _. refl) es

  pub each_within : (lebs : FinMap nat_cmp (List ℕ)) → IsTrue (list_all (leb_fits reserved size) (finite.entries lebs))
      ↔ ((lnum : ℕ) → IfSome (finite.get lebs lnum) (λ text. (lnum < reserved) × (length text ≡ size)))
  each_within lebs = (
    λ t lnum. by_text t lnum (finite.get lebs lnum) refl,
    λ h. (all_within es).1 (λ k d l.
        let e = get_or es k d in
        subst (λ (o : Option (List ℕ)). IfSome o (λ text. (e.0 < reserved) × (length text ≡ size)))
        (finite.get-entries lebs e.0 ∙ find_at nat_cmp_total es k d (finite.entries_sorted lebs) l) (h e.0)),
  )
    where
      es : List (ℕ × List ℕ)
      es = finite.entries lebs

      by_text : IsTrue (list_all (leb_fits reserved size) (finite.entries lebs)) → (lnum : ℕ) (o : Option (List ℕ))
          → finite.get lebs lnum ≡ o
          → IfSome o (λ text. (lnum < reserved) × (length text ≡ size))
      by_text t lnum None e = tt
      by_text t lnum (Some text) e =
          let at = place_of nat_cmp_total nat_cmp-IsAntisymmetric lnum text (lnum, text) (finite.entries lebs)
          (sym (finite.get-entries lebs lnum) ∙ e) in
          subst Within at.2 ((all_within (finite.entries lebs)).0 t at.0 (lnum, text) at.1)

  pub tree_within : (m : BTreeMap ℕ (List ℕ)) → tree.IsOrdered nat_cmp m → (b : Bool)
      → b ≡ list_all (leb_fits reserved size) m.entries
      → IsTrue b
      ↔ ((lnum : ℕ) → IfSome (finite.get (finite.from_entries {R = nat_cmp} m.entries) lnum)
      (λ text. (lnum < reserved) × (length text ≡ size)))
  tree_within m ordered b e =
      let same : list_all (leb_fits reserved size) (finite.entries (finite.from_entries {R = nat_cmp} m.entries)) ≡ b =
      ap (list_all (leb_fits reserved size)) (entries_tree nat_cmp_total nat_cmp-IsAntisymmetric m ordered) ∙ sym e in
      let h = each_within (finite.from_entries m.entries) in
      (λ t. h.0 (same ∙ t), λ k. sym same ∙ h.1 k)
