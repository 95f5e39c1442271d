-- Edits that only give volumes other names write no volume, and what they leave reserves as much.
use Rattle.ubi_change.proofs.Prelude.{◌≡◌, ◌≢◌, ℕ, ◌+◌, inl, inr, Bool, true, false, cond, List, [], ◌∷◌, refl, ap, sym, ◌∙◌, None, Option, Some, option_map, option_map_or, nat_cmp_total, nat_cmp, sum_by, cases_eq, AllByRecursion, VolumeRecord, Records, space, with_name, same_test, apart_test, at_itself, at_other, revalued_is, sum_revalued, all_records_left, with_changed, news_of, parts_of, Edit, IsRename}
use Rattle.std.proofs.Common.{◌==◌}
use Rattle.std.specs.FinMap as finite
use Rattle.ubi_change.specs.declared.edit.Edit.TheVariants as edit

-- no volume is written
pub no_news : (es : List Edit) → AllByRecursion IsRename es → news_of es ≡ []
no_news [] h = refl
no_news (edit.Rename id name ∷ es) h = no_news es h.1
no_news (edit.Resize id n ∷ es) h = absurd h.0
no_news (edit.Remove id ∷ es) h = absurd h.0
no_news (edit.Replace id v ∷ es) h = absurd h.0
no_news (edit.Create v ∷ es) h = absurd h.0

pub no_parts_of : (js : List ℕ) → parts_of js [] ≡ []
no_parts_of [] = refl
no_parts_of (j ∷ js) = refl

-- as much is reserved by records, one of which has another name
module _ (t : Records) (id : ℕ) (name : List ℕ) (r : VolumeRecord) (was : finite.get t.of id ≡ Some r) where
  abbrev record_at : ℕ → VolumeRecord → VolumeRecord
  record_at i q = cond (i == id) (with_name q name) q

  here : finite.get (finite.insert t.of id (with_name r name)) id ≡ Some (with_name r name)
  here = finite.get-insert nat_cmp_total t.of id (with_name r name) id
      ∙ ap (λ b. cond b (Some (with_name r name)) (finite.get t.of id)) (same_test id)

  there : (i : ℕ) → i ≢ id → finite.get (finite.insert t.of id (with_name r name)) i ≡ finite.get t.of i
  there i e = finite.get-insert nat_cmp_total t.of id (with_name r name) i
      ∙ ap (λ b. cond b (Some (with_name r name)) (finite.get t.of i)) (apart_test i id e)

  others_stay : (i : ℕ) → i ≢ id → (o : Option VolumeRecord) → option_map (record_at i) o ≡ o
  others_stay i e None = refl
  others_stay i e (Some q) = ap (λ b. Some (cond b (with_name q name) q)) (at_other i id e)

  records_at : (i : ℕ) → finite.get (finite.insert t.of id (with_name r name)) i ≡ option_map (record_at i) (finite.get t.of i)
  records_at i = elim (cases_eq i id) [
    | inl e ↦
        ap (finite.get (finite.insert t.of id (with_name r name))) e ∙ here
        ∙ sym (ap (option_map (record_at id)) was ∙ ap (λ b. Some (cond b (with_name r name) r)) (at_itself id))
        ∙ ap (λ (k : ℕ). option_map (record_at k) (finite.get t.of k)) (sym e)
    | inr e ↦ there i e ∙ sym (others_stay i e (finite.get t.of i))
  ]

  reserved_one : (b : Bool) (q : VolumeRecord) → (cond b (with_name q name) q).reserved ≡ q.reserved
  reserved_one true q = refl
  reserved_one false q = refl

  pub reserved_same : sum_by (λ (q : VolumeRecord). q.reserved) (finite.values (finite.insert t.of id (with_name r name)))
      ≡ sum_by (λ (q : VolumeRecord). q.reserved) (finite.values t.of)
  reserved_same =
      ap (λ (z : finite.FinMap nat_cmp VolumeRecord). sum_by (λ (q : VolumeRecord). q.reserved) (finite.values z))
      (sym (revalued_is record_at t.of (finite.insert t.of id (with_name r name)) records_at))
      ∙ sum_revalued record_at t.of (λ (q : VolumeRecord). q.reserved) (λ (q : VolumeRecord). q.reserved)
      (λ i q. reserved_one (i == id) q)

space_named : (t : Records) (id : ℕ) (name : List ℕ) → space (with_changed t id (λ r. with_name r name)) ≡ space t
space_named t id name = by (finite.get t.of id) refl
  where
    by : (o : Option VolumeRecord) → finite.get t.of id ≡ o
        → space (option_map_or (λ r. record t { of = finite.insert t.of id (with_name r name) }) o t) ≡ space t
    by None e = refl
    by (Some r) e = ap (λ n. 2 + n) (reserved_same t id name r e)

pub space_left : (t : Records) (es : List Edit) → AllByRecursion IsRename es → space (all_records_left t es) ≡ space t
space_left t [] h = refl
space_left t (edit.Rename id name ∷ es) h = space_left (with_changed t id (λ r. with_name r name)) es h.1 ∙ space_named t id name
space_left t (edit.Resize id n ∷ es) h = absurd h.0
space_left t (edit.Remove id ∷ es) h = absurd h.0
space_left t (edit.Replace id v ∷ es) h = absurd h.0
space_left t (edit.Create v ∷ es) h = absurd h.0
