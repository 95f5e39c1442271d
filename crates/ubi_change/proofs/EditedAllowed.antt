-- With no cause against it, what edits make is a meaning.
use Rattle.ubi_change.proofs.Prelude.{◌≡◌, ℕ, ◌+◌, ◌*◌, ◌<◌, ◌≤◌, inl, Bool, true, false, cond, List, [], ◌∷◌, length, map, refl, arith, ap, sym, ◌∙◌, subst, empty, get-empty, get-insert, nat_cmp, nat_cmp_total, eq_by_cmp, same_Some, None, Option, Some, IfSome, option_map, option_map_or, AllByRecursion, Sizes, slots, rec_fault, usable, VolumeRecord, Records, records_of, record_of, AcceptsBlocks, Fits, IsMeaning, IsVolume, Meant, Volume, left_by_all, placed, edited_in, written, fresh, MayBeSized, sum_by, drop, length-take, content_fits, content_of, text_of, usable_some, AreRecords, space, fits_without_blank, keeps_no_blank, space_of, KeepsNoBlank, fault_of, first_edit_fault, is_taken, reads_whole, records_left, writing_fault, all_asked, news_of, part_in, volume_of, edited_records, Edit, NewVolume, EditFault}
use Rattle.std.specs.FinMap as finite
use Rattle.ubi_change.specs.declared.edit.Edit.TheVariants as edit
use Rattle.ubi_change.specs.declared.errors.EditFault.TheVariants as fault
use Rattle.ubi_change.proofs.EditedMeaning.{left_are, placed_none, placed_there}
use Rattle.ubi_change.proofs.EditedRecords.{edited_are, written_are}
use Rattle.ubi_change.proofs.EditsSized.{edits_sized, first_is_none}
use Rattle.ubi_change.proofs.LeftFits.{left_volume}
use Rattle.ubi_change.proofs.PlacedParts.{fits_entry, sound_entry}

-- a volume holds its contents, and keeps no LEB that is 0xFF throughout
abbrev HoldsSo : Sizes → Volume → Type 0
HoldsSo s v = Fits s v.entry v.content × KeepsNoBlank s v.entry v.content

on_none : (o : Option VolumeRecord) (f : VolumeRecord → Option EditFault) → option_map_or f o (Some fault.NoVolume) ≡ None
    → (r : VolumeRecord) × (f r ≡ None)
on_none None f e = absurd (cc)
on_none (Some r) f e = (r, e)

-- each new volume is written soundly
module _ (s : Sizes) (used : ℕ → ℕ → Bool) (whole : Edit → Bool) where
  pub news_sound : (i : ℕ) (t : Records) (es : List Edit) → first_edit_fault s used whole i t es ≡ None
      → AllByRecursion (λ v. writing_fault s v ≡ None) (news_of es)
  news_sound i t [] none = tt
  news_sound i t (e ∷ es) none =
      let two = first_is_none s used whole i t e es none in one e two.0 (news_sound (i + 1) (records_left t e) es two.1)
    where
      one : (e : Edit) → fault_of s used (whole e) t e ≡ None → AllByRecursion (λ v. writing_fault s v ≡ None) (news_of es)
          → AllByRecursion (λ v. writing_fault s v ≡ None) (news_of (e ∷ es))
      one (edit.Rename id name) f rest = rest
      one (edit.Resize id n) f rest = rest
      one (edit.Remove id) f rest = rest
      one (edit.Replace id v) f rest = ((on_none (finite.get t.of id) (λ r. writing_fault s v) f).1, rest)
      one (edit.Create v) f rest = (f, rest)

-- so it holds its contents
module _ (s : Sizes) (contents : List ℕ) (v : NewVolume) (none : writing_fault s v ≡ None) where
  abbrev entry : VolumeRecord
  entry = (part_in v 0).entry

  sound : rec_fault s entry ≡ None
  sound = sound_entry s v none

  few : v.len ≤ entry.reserved * usable s entry
  few = fits_entry s v none

  short : length (text_of contents (part_in v 0)) ≤ entry.reserved * usable s entry
  short = (let l = length-take v.len (drop v.start contents) in omega (arith, l, few))

  pub new_holds : HoldsSo s (volume_of s contents v)
  new_holds =
      let c = content_of entry.kind (usable s entry) (text_of contents (part_in v 0)) in (
        fits_without_blank s entry c
            (content_fits s entry (usable_some s entry sound) (text_of contents (part_in v 0)) entry.kind refl refl short),
        keeps_no_blank s entry c,
      )

news_hold : (s : Sizes) (contents : List ℕ) (vs : List NewVolume) → AllByRecursion (λ v. writing_fault s v ≡ None) vs
    → AllByRecursion (HoldsSo s) (map (volume_of s contents) vs)
news_hold s contents [] all = tt
news_hold s contents (v ∷ vs) all = (new_holds s contents v all.0, news_hold s contents vs all.1)

-- what holds of each volume holds of the one that is placed in a slot
placed_holds : (P : Volume → Type 0) (js : List ℕ) (new : List Volume) → AllByRecursion P new → (id : ℕ) (v : Volume)
    → finite.get (placed empty js new) id ≡ Some v → P v
placed_holds P [] new p id v e = let k : finite.get (placed empty [] new) id ≡ None = get-empty nat_cmp id in absurd (cc)
placed_holds P (j ∷ js) [] p id v e = let k : finite.get (placed empty (j ∷ js) []) id ≡ None = get-empty nat_cmp id in absurd (cc)
placed_holds P (j ∷ js) (x ∷ new) p id v e =
    by_test (eq_by_cmp nat_cmp id j) (sym (get-insert nat_cmp_total (placed empty js new) j x id) ∙ e)
    (λ h. placed_holds P js new p.1 id v h)
  where
    by_test : (b : Bool) → cond b (Some x) (finite.get (placed empty js new) id) ≡ Some v
        → (finite.get (placed empty js new) id ≡ Some v → P v) → P v
    by_test true h rest = subst P (same_Some x v h) p.0
    by_test false h rest = rest h

module _ (s : Sizes) (bs : List (List ℕ)) (ends : List ℕ) (m : Meant) (acc : AcceptsBlocks s bs m) (contents : List ℕ) (es : List Edit)
    (faultless : first_edit_fault s (is_taken s bs ends) (reads_whole m) 0 (records_of m) es ≡ None)
    (records : AreRecords (edited_records (is_taken s bs ends) (records_of m) es)) where
  abbrev n : Meant
  n = edited_in s bs ends m (all_asked s contents es)

  sizes : m.sizes ≡ s
  sizes = acc.means.sizes

  are : AreRecords (records_of n)
  are = subst AreRecords (sym (edited_are s bs ends m sizes contents es)) records

  at : (id : ℕ) (w : Volume) → finite.get n.volumes id ≡ Some w → finite.get (records_of n).of id ≡ Some w.entry
  at id w e = record_of n id ∙ ap (option_map (λ (v : Volume). v.entry)) e

  holds : AllByRecursion (HoldsSo s) (written (all_asked s contents es))
  holds = subst (AllByRecursion (HoldsSo s)) (sym (written_are s contents es))
      (news_hold s contents (news_of es) (news_sound s (is_taken s bs ends) (reads_whole m) 0 (records_of m) es faultless))

  same_so : (i : ℕ) (v w : Volume) → v ≡ w → (w.content ≡ v.content) × MayBeSized s bs ends i v w
  same_so i v w e = (ap (λ (x : Volume). x.content) (sym e), inl (ap (λ (x : Volume). x.entry.reserved) (sym e)))

  volume_now : (id : ℕ) (w : Volume) → finite.get n.volumes id ≡ Some w → IsVolume s id w
  volume_now id w e = by (finite.get (placed empty (fresh s bs ends m) (written (all_asked s contents es))) id) refl
    where
      slot : id < slots s
      slot = subst (λ (z : Sizes). id < slots z) sizes (are.slot id w.entry (at id w e))

      sound : rec_fault s w.entry ≡ None
      sound = subst (λ (z : Sizes). rec_fault z w.entry ≡ None) sizes (are.sound id w.entry (at id w e))

      by : (o : Option Volume) → finite.get (placed empty (fresh s bs ends m) (written (all_asked s contents es))) id ≡ o
          → IsVolume s id w
      by (Some v) k =
          let there = placed_there (left_by_all m.volumes (all_asked s contents es)) (fresh s bs ends m) (written (all_asked s contents es)) id v k in
          let same : v ≡ w = same_Some v w (sym there ∙ e) in
          let h = subst (HoldsSo s) same (placed_holds (HoldsSo s) (fresh s bs ends m) (written (all_asked s contents es)) holds id v k) in
          record { slot = slot; sound = sound; fits = h.0; kept = h.1 }
      by None k =
          let left : finite.get (left_by_all m.volumes (all_asked s contents es)) id ≡ Some w =
          sym (placed_none (left_by_all m.volumes (all_asked s contents es)) (fresh s bs ends m) (written (all_asked s contents es)) id k) ∙ e in
          let old = left_are m.volumes (all_asked s contents es) id w left in
          let sized = edits_sized s bs ends m contents m.volumes 0 es faultless (λ i v w was is. same_so i v w (same_Some v w (sym was ∙ is))) id old.0 w old.1 left in
          left_volume s bs ends m acc id old.0 w old.1 old.2 sized.1 slot sound

  -- what the edits make is a meaning, if there is space for it
  pub edited_meaning : space (records_of n) ≤ s.pebs → IsMeaning n
  edited_meaning fits = record {
    image_seq = acc.means.meaning.image_seq;
    each = λ id. by id (finite.get n.volumes id) refl;
    names = λ i j v w e f same. are.apart i j v.entry w.entry (at i v e) (at j w f) same;
    space = (let sum = space_of n in subst (λ (z : Sizes). 2 + sum_by (λ (v : Volume). v.entry.reserved) (finite.values n.volumes) ≤ z.pebs) (sym sizes) (omega (arith, sum, fits)));
  } where
    by : (id : ℕ) (o : Option Volume) → finite.get n.volumes id ≡ o → IfSome o (IsVolume n.sizes id)
    by id None e = tt
    by id (Some w) e = subst (λ (z : Sizes). IsVolume z id w) (sym sizes) (volume_now id w e)
