-- The records of the meaning that edits make are those that the edits make of its records.
use Rattle.ubi_change.proofs.Prelude.{◌≡◌, ℕ, Bool, true, false, cond, not, List, [], ◌∷◌, map, refl, arith, ap, ap₂, sym, ◌∙◌, None, Option, Some, option_map, option_map_or, ◌==◌, filter, find, is_some, nat_lt, eq_by_cmp, nat_cmp, nat_cmp_total, nat_cmp-IsAntisymmetric, FinMap, range_with_len, slots, Sizes, VolumeRecord, member, Records, records_of, record_of, Meant, VolumeMap, Volume, VidHeader, volume_named, fresh, is_fresh, is_of, left_by, left_by_all, placed, volume_sized, with_volume, written, edited_in, nat_tests, all_records_left, is_at_least, is_hidden, is_taken, records_left, with_changed, with_size, all_asked, asked, news_of, part_in, volume_of, edited_parts, edited_records, free_slots, is_free, parts_of, records_with, Edit, NewVolume, with_record, without_record, with_name}
use Rattle.std.proofs.Common.{◌&&◌, ◌||◌}
use Rattle.std.specs.FinMap as finite
use Rattle.ubi_change.specs.declared.edit.Edit.TheVariants as edit

-- the records of volumes beside those of a meaning
module _ (m : Meant) where
  abbrev R : VolumeMap → Records
  R vs = records_of (record m { volumes = vs })

  at : (vs : VolumeMap) (q : ℕ) → finite.get (R vs).of q ≡ option_map (λ (v : Volume). v.entry) (finite.get vs q)
  at vs q = record_of (record m { volumes = vs }) q

  same_records : (vs : VolumeMap) (of : FinMap nat_cmp VolumeRecord)
      → ((q : ℕ) → option_map (λ (v : Volume). v.entry) (finite.get vs q) ≡ finite.get of q)
      → R vs ≡ record { sizes = m.sizes; of = of }
  same_records vs of h =
      ap {B = Records} (λ (x : FinMap nat_cmp VolumeRecord). record { sizes = m.sizes; of = x })
      (finite.same_map nat_cmp_total nat_cmp-IsAntisymmetric _ _ (λ q. at vs q ∙ h q))

  pub inserted : (vs : VolumeMap) (id : ℕ) (v : Volume) → R (finite.insert vs id v) ≡ with_record (R vs) id v.entry
  inserted vs id v = same_records (finite.insert vs id v) (finite.insert (R vs).of id v.entry) (λ q.
      ap (option_map (λ (v : Volume). v.entry)) (finite.get-insert nat_cmp_total vs id v q)
      ∙ by (eq_by_cmp nat_cmp q id) (finite.get vs q)
      ∙ ap (cond (eq_by_cmp nat_cmp q id) (Some v.entry)) (sym (at vs q))
      ∙ sym (finite.get-insert nat_cmp_total (R vs).of id v.entry q))
    where
      by : (b : Bool) (o : Option Volume) → option_map (λ (v : Volume). v.entry) (cond b (Some v) o)
          ≡ cond b (Some v.entry) (option_map (λ (v : Volume). v.entry) o)
      by true o = refl
      by false o = refl

  pub removed : (vs : VolumeMap) (id : ℕ) → R (finite.remove vs id) ≡ without_record (R vs) id
  removed vs id = same_records (finite.remove vs id) (finite.remove (R vs).of id) (λ q.
      ap (option_map (λ (v : Volume). v.entry)) (finite.get-remove nat_cmp_total vs id q)
      ∙ by (eq_by_cmp nat_cmp q id) (finite.get vs q)
      ∙ ap (cond (eq_by_cmp nat_cmp q id) None) (sym (at vs q))
      ∙ sym (finite.get-remove nat_cmp_total (R vs).of id q))
    where
      by : (b : Bool) (o : Option Volume) → option_map (λ (v : Volume). v.entry) (cond b None o)
          ≡ cond b None (option_map (λ (v : Volume). v.entry) o)
      by true o = refl
      by false o = refl

  changed : (vs : VolumeMap) (id : ℕ) (f : Volume → Volume) (g : VolumeRecord → VolumeRecord)
      → ((v : Volume) → (f v).entry ≡ g v.entry) → R (with_volume vs id f) ≡ with_changed (R vs) id g
  changed vs id f g same =
      by (finite.get vs id)
      ∙ ap (λ (o : Option VolumeRecord). option_map_or (λ r. with_record (R vs) id (g r)) o (R vs)) (sym (at vs id))
    where
      by : (o : Option Volume) → R (option_map_or (λ v. finite.insert vs id (f v)) o vs)
          ≡ option_map_or (λ r. with_record (R vs) id (g r)) (option_map (λ (v : Volume). v.entry) o) (R vs)
      by None = refl
      by (Some v) = inserted vs id (f v) ∙ ap (with_record (R vs) id) (same v)

  module _ (s : Sizes) (contents : List ℕ) where
    pub left_one : (vs : VolumeMap) (e : Edit) → R (left_by vs (asked s contents e)) ≡ records_left (R vs) e
    left_one vs (edit.Rename id name) = changed vs id (λ v. volume_named v name) (λ r. with_name r name) (λ v. refl)
    left_one vs (edit.Resize id n) = changed vs id (λ v. volume_sized v n) (λ r. with_size r n) (λ v. refl)
    left_one vs (edit.Remove id) = removed vs id
    left_one vs (edit.Replace id v) = removed vs id
    left_one vs (edit.Create v) = refl

    pub left_are : (vs : VolumeMap) (es : List Edit) → R (left_by_all vs (all_asked s contents es)) ≡ all_records_left (R vs) es
    left_are vs [] = refl
    left_are vs (e ∷ es) = left_are (left_by vs (asked s contents e)) es ∙ ap (λ (t : Records). all_records_left t es) (left_one vs e)

    pub placed_are : (vs : VolumeMap) (js : List ℕ) (news : List NewVolume)
        → R (placed vs js (map (volume_of s contents) news)) ≡ records_with (R vs) (parts_of js news)
    placed_are vs [] news = refl
    placed_are vs (j ∷ js) [] = refl
    placed_are vs (j ∷ js) (v ∷ news) =
        inserted (placed vs js (map (volume_of s contents) news)) j (volume_of s contents v)
        ∙ ap (λ (t : Records). with_record t j (part_in v j).entry) (placed_are vs js news)

-- the volumes that are written are those of the new volumes
pub written_are : (s : Sizes) (contents : List ℕ) (es : List Edit)
    → written (all_asked s contents es) ≡ map (volume_of s contents) (news_of es)
written_are s contents [] = refl
written_are s contents (edit.Rename id name ∷ es) = written_are s contents es
written_are s contents (edit.Resize id n ∷ es) = written_are s contents es
written_are s contents (edit.Remove id ∷ es) = written_are s contents es
written_are s contents (edit.Replace id v ∷ es) = ap (λ vs. volume_of s contents v ∷ vs) (written_are s contents es)
written_are s contents (edit.Create v ∷ es) = ap (λ vs. volume_of s contents v ∷ vs) (written_are s contents es)

module _ (s : Sizes) (bs : List (List ℕ)) (ends : List ℕ) where
  and_true : (b : Bool) → (b && true) ≡ b
  and_true true = refl
  and_true false = refl

  -- a volume has a member where it has one at or above 0
  of_any : (vol : ℕ) (b : List ℕ) → is_at_least s vol 0 b ≡ is_of s bs vol b
  of_any vol b = by (member s b)
    where
      by : (o : Option VidHeader) → option_map_or (λ h. (h.vol_id == vol) && not (nat_lt h.lnum 0)) o false
          ≡ option_map_or (λ h. h.vol_id == vol) o false
      by None = refl
      by (Some h) = (let none : nat_lt h.lnum 0 ≡ false = grind (arith, nat_tests) in
          ap (λ b. (h.vol_id == vol) && not b) none ∙ and_true (h.vol_id == vol))

  free_is : (m : Meant) (j : ℕ) → is_fresh s bs ends m j ≡ is_free (is_taken s bs ends) (records_of m) j
  free_is m j = ap₂ (λ (a b : Bool). not a && not (b || is_hidden ends j 0))
      (there (finite.get m.volumes j) ∙ ap is_some (sym (record_of m j)))
      (ap (λ (p : List ℕ → Bool). is_some (find p bs)) (λ i b. sym (of_any j b) i))
    where
      there : (o : Option Volume) → is_some o ≡ is_some (option_map (λ (v : Volume). v.entry) o)
      there None = refl
      there (Some v) = refl

  pub fresh_are : (m : Meant) → m.sizes ≡ s → fresh s bs ends m ≡ free_slots (is_taken s bs ends) (records_of m)
  fresh_are m sizes = ap₂ (λ (p : ℕ → Bool) (n : ℕ). filter p (range_with_len 0 n)) (λ i j. free_is m j i) (ap slots (sym sizes))

  -- so the records of the edited meaning are those that the edits make
  pub edited_are : (m : Meant) → m.sizes ≡ s → (contents : List ℕ) (es : List Edit)
      → records_of (edited_in s bs ends m (all_asked s contents es)) ≡ edited_records (is_taken s bs ends) (records_of m) es
  edited_are m sizes contents es =
      ap₂ (λ (js : List ℕ) (vs : List Volume). R m (placed (left_by_all m.volumes (all_asked s contents es)) js vs))
      (fresh_are m sizes) (written_are s contents es)
      ∙ placed_are m s contents (left_by_all m.volumes (all_asked s contents es)) (free_slots (is_taken s bs ends) (records_of m)) (news_of es)
      ∙ ap (λ (t : Records). records_with t (edited_parts (is_taken s bs ends) (records_of m) es)) (left_are m s contents m.volumes es)
