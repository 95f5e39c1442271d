-- The records that edits leave, step by step.
use Rattle.ubi_change.proofs.Prelude.{◌≡◌, ℕ, ◌++◌, ◌+◌, Bool, List, [], ◌∷◌, refl, ap, sym, subst, None, Option, Some, AllByRecursion, IfSome, all_append, cons_option, option_map_or, get, insert, Sizes, VolumeRecord, Records, filter_map-append, fault_of, first_edit_fault, records_left, with_changed, writing_fault, new_of, news_of, NewVolume, EditFault, Edit}
use Rattle.ubi_change.specs.declared.edit.Edit.TheVariants as edit

-- the sizes stay
changed_sizes : (t : Records) (id : ℕ) (f : VolumeRecord → VolumeRecord) → (with_changed t id f).sizes ≡ t.sizes
changed_sizes t id f = by (get t.of id)
  where
    by : (o : Option VolumeRecord) → (option_map_or (λ r. record t { of = insert t.of id (f r) }) o t).sizes ≡ t.sizes
    by None = refl
    by (Some r) = refl

pub left_sizes : (t : Records) (e : Edit) → (records_left t e).sizes ≡ t.sizes
left_sizes t (edit.Rename id name) = changed_sizes t id _
left_sizes t (edit.Resize id n) = changed_sizes t id _
left_sizes t (edit.Remove id) = refl
left_sizes t (edit.Replace id v) = refl
left_sizes t (edit.Create v) = refl

-- one more edit that writes soundly, or writes nothing
pub more_sound : (s : Sizes) (es : List Edit) (e : Edit) → AllByRecursion (λ v. writing_fault s v ≡ None) (news_of es)
    → IfSome (new_of e) (λ v. writing_fault s v ≡ None) → AllByRecursion (λ v. writing_fault s v ≡ None) (news_of (es ++ e ∷ []))
more_sound s es e before one =
    subst (AllByRecursion (λ v. writing_fault s v ≡ None)) (sym (filter_map-append new_of es (e ∷ [])))
    (all_append (λ v. writing_fault s v ≡ None) (news_of es) (news_of (e ∷ [])) before (by (new_of e) one))
  where
    by : (o : Option NewVolume) → IfSome o (λ v. writing_fault s v ≡ None)
        → AllByRecursion (λ v. writing_fault s v ≡ None) (cons_option o [])
    by None h = tt
    by (Some v) h = (h, tt)

module _ (s : Sizes) (used : ℕ → ℕ → Bool) (whole : Edit → Bool) (i : ℕ) (t : Records) (e : Edit) (es : List Edit) where
  -- an edit without a fault is passed
  pub passed_edit : fault_of s used (whole e) t e ≡ None
      → first_edit_fault s used whole i t (e ∷ es) ≡ first_edit_fault s used whole (i + 1) (records_left t e) es
  passed_edit none =
      ap (λ (o : Option EditFault). option_map_or (λ f. Some (i, f)) o (first_edit_fault s used whole (i + 1) (records_left t e) es)) none
