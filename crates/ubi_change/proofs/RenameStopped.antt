-- What stops an edit that is a rename stops the rename, and nothing does before.
use Rattle.ubi_change.proofs.Prelude.{◌≡◌, ◌≢◌, inl, inr, ℕ, ◌+◌, ◌<◌, ◌≤◌, Bool, true, false, cond, not, List, [], ◌∷◌, length, refl, ap, sym, ◌∙◌, subst, arith, None, Option, Some, option_map, option_map_or, then_some, cases_eq, at_itself, at_other, same_Some, held_entry, Sizes, Image, IsWholeSize, image_of, eraseblocks, of_blocks, Agreed, Source, WhereHeld, IsAttached, ReadBlank, IsRenameError, IsUpdateError, StopsIfRenames, rename_error, UpdateError, is_name, VolumeRecord, Records, twice, records_of, record_of, AttachValue, Meant, IsMeaning, Volume, volume_named, avoiding, Avoided, touchable, renamed, renamed_pages, table_pages, weak_pages, HasName, IsFirstCause, RenameStands, rename_rank, takeable, commit_needs, Laid, asked_records, update_rank, UpdateStands, IsUpdateCause, UpdateRefusal, RenameRefusal, EditFault, no_some, rename_cause}
use Rattle.std.proofs.Common.{◌==◌}
use Rattle.std.specs.FinMap as finite
use Rattle.ubi_change.specs.declared.edit.Edit.TheVariants as asking
use Rattle.ubi_change.specs.declared.errors.EditFault.TheVariants as fault
use Rattle.ubi_change.specs.declared.errors.UpdateError.TheVariants as error
use Rattle.ubi_change.specs.declared.errors.UpdateRefusal.TheVariants as update
use Rattle.ubi_change.specs.declared.errors.RenameRefusal.TheVariants as refusal
use Rattle.ubi_change.proofs.EditedRecords.{edited_are}
use Rattle.ubi_change.proofs.NamedTwice.{once_in, twice_in}
use Rattle.ubi_change.proofs.RenameCommits.{edited-is, laid-none, one}
use Rattle.ubi_change.proofs.RenamedMeaning.{renamed_here, renamed_there}

-- an option that is mapped is there if it is
mapped : {X Y : Type 0} (f : X → Y) (o : Option X) (y : Y) → option_map f o ≡ Some y → (x : X) × (o ≡ Some x) × (f x ≡ y)
mapped f None y e = absurd (cc)
mapped f (Some x) y e = (x, refl, same_Some (f x) y e)

-- the place of a cause among those of edits
abbrev place : RenameRefusal → ℕ
place refusal.NoVolume = 1
place refusal.BadName = 1
place (refusal.SameName slot) = 2
place refusal.NeedsRepair = 6
place (refusal.WeakCheck k) = 7
place refusal.Exhausted = 8
place refusal.NoFree = 9
place _ = 0

module _ (image : Image) (av : Avoided) (id : ℕ) (name contents : List ℕ) (c : UpdateRefusal)
    (is : IsUpdateCause image av contents (asking.Rename id name ∷ []) c) where
  abbrev s : Sizes
  s = image.sizes

  abbrev bs : List (List ℕ)
  bs = eraseblocks image

  -- the image as the plan sees it
  abbrev a : AttachValue
  a = avoiding av is.from

  abbrev ends : List ℕ
  ends = av.ends

  abbrev m : Meant
  m = is.from.meaning

  meaning : IsMeaning m
  meaning = is.attached.accepted.accepted.means.meaning

  abbrev n : Meant
  n = renamed m id name

  -- the records that the edit makes are those of the renamed meaning
  asked : asked_records s bs ends a (asking.Rename id name ∷ []) ≡ records_of n
  asked = sym (edited_are s bs ends m is.attached.accepted.accepted.means.sizes contents (asking.Rename id name ∷ []))
      ∙ ap records_of (edited-is s bs ends m id name)

  needs : commit_needs s bs ends a (one s bs ends m id name) ≡ 2
  needs = ap (λ (ls : List Laid). length ls + 2) (laid-none s bs ends m id name)

  abbrev Stands : UpdateRefusal → Type 0
  Stands d = UpdateStands s bs ends a contents (touchable av is.from.states) (asking.Rename id name ∷ []) d

  -- why the edit isn't made
  abbrev fault_by : Option VolumeRecord → Bool → Option (ℕ × EditFault)
  fault_by o b = option_map_or (λ f. Some (0, f)) (option_map_or (λ r. then_some (not b) fault.BadName) o (Some fault.NoVolume)) None

  recorded : (o : Option Volume) → finite.get m.volumes id ≡ o → finite.get (records_of m).of id ≡ option_map (λ (v : Volume). v.entry) o
  recorded o e = record_of m id ∙ ap (option_map (λ (v : Volume). v.entry)) e

  fault_is : (o : Option Volume) (b : Bool) → finite.get m.volumes id ≡ o → is_name name ≡ b
      → fault_by (finite.get (records_of m).of id) (is_name name) ≡ fault_by (option_map (λ (v : Volume). v.entry) o) b
  fault_is o b e f =
      ap (λ (o : Option VolumeRecord). fault_by o (is_name name)) (recorded o e)
      ∙ ap (fault_by (option_map (λ (v : Volume). v.entry) o)) f

  no_volume : finite.get m.volumes id ≡ None → Stands (update.Edit 0 fault.NoVolume)
  no_volume e = ap (λ (o : Option VolumeRecord). fault_by o (is_name name)) (recorded None e)

  bad_name : (v : Volume) → finite.get m.volumes id ≡ Some v → is_name name ≡ false → Stands (update.Edit 0 fault.BadName)
  bad_name v e f = fault_is (Some v) false e f

  -- the edit is made once the causes of its kind are passed
  there : ((f : EditFault) → Stands (update.Edit 0 f) → ⊥) → (v : Volume) × (finite.get m.volumes id ≡ Some v)
  there none = by (finite.get m.volumes id) refl
    where
      by : (o : Option Volume) → finite.get m.volumes id ≡ o → (v : Volume) × (finite.get m.volumes id ≡ Some v)
      by None e = absurd (none fault.NoVolume (no_volume e))
      by (Some v) e = (v, e)

  named : ((f : EditFault) → Stands (update.Edit 0 f) → ⊥) → is_name name ≡ true
  named none = by (is_name name) refl
    where
      by : (b : Bool) → is_name name ≡ b → b ≡ true
      by true e = refl
      by false e = (let v = there none in absurd (none fault.BadName (bad_name v.0 v.1 e)))

  -- the volumes of the renamed meaning have their names
  entry_at : (v : Volume) → finite.get m.volumes id ≡ Some v
      → finite.get (records_of n).of id ≡ Some (volume_named v name).entry
  entry_at v e = record_of n id ∙ ap (option_map (λ (v : Volume). v.entry)) (renamed_here m id name v e)

  entry_beside : (v : Volume) → finite.get m.volumes id ≡ Some v → (i : ℕ) → i ≢ id
      → finite.get (records_of n).of i ≡ option_map (λ (v : Volume). v.entry) (finite.get m.volumes i)
  entry_beside v e i apart = record_of n i ∙ ap (option_map (λ (v : Volume). v.entry)) (renamed_there m id name v e i apart)

  free : (v : Volume) → finite.get m.volumes id ≡ Some v → ((i j : ℕ) → Stands (update.SameName i j) → ⊥)
      → (slot : ℕ) → HasName a id name slot → ⊥
  free v e none slot h =
      once_in (records_of n).of (by (twice (finite.entries (records_of n).of)) refl) slot id h.1.entry (volume_named v name).entry
      (entry_beside v e slot h.0 ∙ ap (option_map (λ (v : Volume). v.entry)) h.2) (entry_at v e) h.0 h.3
    where
      by : (o : Option (ℕ × ℕ)) → twice (finite.entries (records_of n).of) ≡ o → o ≡ None
      by None e = refl
      by (Some q) e = absurd (none q.0 q.1 (ap (λ (t : Records). twice (finite.entries t.of)) asked ∙ e))

  -- of two volumes of one name one is the renamed, and the other had the name before
  other : (v : Volume) → finite.get m.volumes id ≡ Some v → (i j : ℕ) → Stands (update.SameName i j)
      → HasName a id name (cond (i == id) j i)
  other v e i j stands =
      let two = twice_in (records_of n).of i j (ap (λ (t : Records). twice (finite.entries t.of)) (sym asked) ∙ stands) in
      let first : finite.get (records_of n).of i ≡ Some two.first.1 =
      ap (finite.get (records_of n).of) (sym two.i_is) ∙ held_entry (records_of n).of two.first two.held in
      let next : finite.get (records_of n).of j ≡ Some two.next.1 =
      ap (finite.get (records_of n).of) (sym two.j_is) ∙ held_entry (records_of n).of two.next two.there in
      let less : i < j = subst (λ k. k < j) two.i_is (subst (λ k. two.first.0 < k) two.j_is two.less) in
      elim (cases_eq i id) [
        | inl same ↦ subst (HasName a id name) (sym (ap (λ b. cond b j i) (ap (λ k. k == id) same ∙ at_itself id)))
            (has j two.next.1 (λ k. omega (arith, less, same, k)) next
            (sym two.same ∙ ap (λ (r : VolumeRecord). r.name) (same_Some two.first.1 (volume_named v name).entry
            (sym first ∙ ap (finite.get (records_of n).of) same ∙ entry_at v e))))
        | inr apart ↦ subst (HasName a id name) (sym (ap (λ b. cond b j i) (at_other i id apart)))
            (elim (cases_eq j id) [
              | inl same ↦ has i two.first.1 apart first
                  (two.same ∙ ap (λ (r : VolumeRecord). r.name) (same_Some two.next.1 (volume_named v name).entry
                  (sym next ∙ ap (finite.get (records_of n).of) same ∙ entry_at v e)))
              | inr beside ↦ (let x = was i two.first.1 apart first in let y = was j two.next.1 beside next in
                  let equal = meaning.names i j x.0 y.0 x.1 y.1
                  (ap (λ (r : VolumeRecord). r.name) x.2 ∙ two.same ∙ ap (λ (r : VolumeRecord). r.name) (sym y.2)) in
                  absurd (omega (arith, less, equal)))
            ])
      ]
    where
      was : (k : ℕ) (r : VolumeRecord) → k ≢ id → finite.get (records_of n).of k ≡ Some r
          → (w : Volume) × (finite.get m.volumes k ≡ Some w) × (w.entry ≡ r)
      was k r apart f = mapped (λ (v : Volume). v.entry) (finite.get m.volumes k) r (sym (entry_beside v e k apart) ∙ f)

      has : (k : ℕ) (r : VolumeRecord) → k ≢ id → finite.get (records_of n).of k ≡ Some r → r.name ≡ name → HasName a id name k
      has k r apart f same =
          let w = was k r apart f in (apart, w.0, w.1, ap (λ (r : VolumeRecord). r.name) w.2 ∙ same)

  weak : (k : ℕ) → weak_pages s (renamed_pages s m id name) ≡ Some k → Stands (update.WeakCheck k)
  weak k e = ap (λ (t : Records). weak_pages s (table_pages s t)) asked ∙ e

  -- what comes before doesn't stand
  module _ (later : 1 < update_rank c) where
    no_edit : (f : EditFault) → Stands (update.Edit 0 f) → ⊥
    no_edit f = is.first (update.Edit 0 f) later

    before : (d : RenameRefusal) → place d < update_rank c → RenameStands s bs a id name d → ⊥
    before refusal.NoVolume l h = no_some (there no_edit).0 (sym h ∙ (there no_edit).1)
    before refusal.BadName l h = (let e = named no_edit in let f = h in absurd (cc))
    before (refusal.SameName slot) l h =
        free (there no_edit).0 (there no_edit).1 (λ i j. is.first (update.SameName i j) l) slot h
    before refusal.NeedsRepair l h = is.first update.NeedsRepair l h
    before (refusal.WeakCheck k) l h = is.first (update.WeakCheck k) l (weak k h)
    before refusal.Exhausted l h = is.first update.Exhausted l (omega (arith, h, needs))
    before refusal.NoFree l h =
        is.first (update.NoFree (commit_needs s bs ends a (one s bs ends m id name)) (length (takeable s bs a.states))) l
        (refl, refl, omega (arith, h, needs))
    before (refusal.Attach x) l h = h
    before refusal.Memory l h = h

-- the places keep the order
place_most : (d : RenameRefusal) → place d ≤ rename_rank d + 2
place_most refusal.NoVolume = omega arith
place_most refusal.BadName = omega arith
place_most (refusal.SameName slot) = omega arith
place_most refusal.NeedsRepair = omega arith
place_most (refusal.WeakCheck k) = omega arith
place_most refusal.Exhausted = omega arith
place_most refusal.NoFree = omega arith
place_most (refusal.Attach x) = omega arith
place_most refusal.Memory = omega arith

place_first : (d : RenameRefusal) → rename_rank d < 3 → place d < 2
place_first refusal.NoVolume l = omega arith
place_first refusal.BadName l = omega arith
place_first (refusal.SameName slot) l = absurd (omega arith)
place_first refusal.NeedsRepair l = absurd (omega arith)
place_first (refusal.WeakCheck k) l = absurd (omega arith)
place_first refusal.Exhausted l = absurd (omega arith)
place_first refusal.NoFree l = absurd (omega arith)
place_first (refusal.Attach x) l = omega arith
place_first refusal.Memory l = omega arith

module _ (image : Image) (av : Avoided) (id : ℕ) (name contents : List ℕ) where
  abbrev Asked : UpdateRefusal → Type 0
  Asked c = IsUpdateCause image av contents (asking.Rename id name ∷ []) c

  abbrev First : (c : UpdateRefusal) → Asked c → RenameRefusal → Type 0
  First c is d = of_blocks IsFirstCause image (avoiding av is.from) id name d

  -- the edit isn't made
  none_first : (a : AttachValue) (d : RenameRefusal) → rename_rank d < 1 → of_blocks RenameStands image a id name d → ⊥
  none_first a refusal.NoVolume l h = absurd (omega arith)
  none_first a refusal.BadName l h = absurd (omega arith)
  none_first a (refusal.SameName slot) l h = absurd (omega arith)
  none_first a refusal.NeedsRepair l h = absurd (omega arith)
  none_first a (refusal.WeakCheck k) l h = absurd (omega arith)
  none_first a refusal.Exhausted l h = absurd (omega arith)
  none_first a refusal.NoFree l h = absurd (omega arith)
  none_first a (refusal.Attach x) l h = h
  none_first a refusal.Memory l h = h

  one_first : (a : AttachValue) (v : Volume) → finite.get a.meaning.volumes id ≡ Some v → (d : RenameRefusal) → rename_rank d < 2
      → of_blocks RenameStands image a id name d → ⊥
  one_first a v there refusal.NoVolume l h = no_some v (sym h ∙ there)
  one_first a v there refusal.BadName l h = absurd (omega arith)
  one_first a v there (refusal.SameName slot) l h = absurd (omega arith)
  one_first a v there refusal.NeedsRepair l h = absurd (omega arith)
  one_first a v there (refusal.WeakCheck k) l h = absurd (omega arith)
  one_first a v there refusal.Exhausted l h = absurd (omega arith)
  one_first a v there refusal.NoFree l h = absurd (omega arith)
  one_first a v there (refusal.Attach x) l h = h
  one_first a v there refusal.Memory l h = h

  fault_same : (i j : ℕ) (f g : EditFault) → ◌≡◌ {A = Option (ℕ × EditFault)} (Some (i, f)) (Some (j, g)) → f ≡ g
  fault_same i j f g e = ap (λ (q : ℕ × EditFault). q.1) (same_Some (i, f) (j, g) e)

  edit_first : (i : ℕ) (f : EditFault) (is : Asked (update.Edit i f)) → First (update.Edit i f) is (rename_cause id (update.Edit i f))
  edit_first i f is = by (finite.get is.from.meaning.volumes id) (is_name name) refl refl
    where
      by : (o : Option Volume) (b : Bool) → finite.get is.from.meaning.volumes id ≡ o → is_name name ≡ b
          → First (update.Edit i f) is (rename_cause id (update.Edit i f))
      by None b e k = subst (λ (g : EditFault). First (update.Edit i f) is (rename_cause id (update.Edit i g)))
          (fault_same 0 i fault.NoVolume f (sym (fault_is image av id name contents (update.Edit i f) is None b e k) ∙ is.stands))
          (record { stands = e; first = none_first (avoiding av is.from) })
      by (Some v) true e k = absurd (no_some (i, f) (sym (fault_is image av id name contents (update.Edit i f) is (Some v) true e k) ∙ is.stands))
      by (Some v) false e k = subst (λ (g : EditFault). First (update.Edit i f) is (rename_cause id (update.Edit i g)))
          (fault_same 0 i fault.BadName f (sym (fault_is image av id name contents (update.Edit i f) is (Some v) false e k) ∙ is.stands))
          (record { stands = k; first = one_first (avoiding av is.from) v e })

  -- two volumes would have one name
  same_first : (i j : ℕ) (is : Asked (update.SameName i j)) → First (update.SameName i j) is (rename_cause id (update.SameName i j))
  same_first i j is =
      let c = update.SameName i j in
      let v = there image av id name contents c is (no_edit image av id name contents c is (omega arith)) in
      record {
        stands = other image av id name contents c is v.0 v.1 i j is.stands;
        first = λ d l h. before image av id name contents c is (omega arith) d (place_first d l) h;
      }

  -- what comes later
  later_first : (c : UpdateRefusal) (is : Asked c) (d : RenameRefusal) → update_rank c ≡ rename_rank d + 2 → 1 < update_rank c
      → of_blocks RenameStands image (avoiding av is.from) id name d → First c is d
  later_first c is d same later stands = record {
    stands = stands;
    first = λ e l h. before image av id name contents c is later e (let most = place_most e in omega (arith, most, l, same)) h;
  }

  repair_first : (is : Asked update.NeedsRepair) → First update.NeedsRepair is refusal.NeedsRepair
  repair_first is = later_first update.NeedsRepair is refusal.NeedsRepair refl (omega arith) is.stands

  weak_first : (k : ℕ) (is : Asked (update.WeakCheck k)) → First (update.WeakCheck k) is (refusal.WeakCheck k)
  weak_first k is = later_first (update.WeakCheck k) is (refusal.WeakCheck k) refl (omega arith)
      (ap (λ (t : Records). weak_pages image.sizes (table_pages image.sizes t)) (sym (asked image av id name contents (update.WeakCheck k) is))
      ∙ is.stands)

  exhausted_first : (is : Asked update.Exhausted) → First update.Exhausted is refusal.Exhausted
  exhausted_first is = later_first update.Exhausted is refusal.Exhausted refl (omega arith)
      (let h = is.stands in omega (arith, h, needs image av id name contents update.Exhausted is))

  free_first : (n k : ℕ) (is : Asked (update.NoFree n k)) → First (update.NoFree n k) is refusal.NoFree
  free_first n k is = later_first (update.NoFree n k) is refusal.NoFree refl (omega arith)
      (let h = is.stands in let x = h.0 in let y = h.1 in let z = h.2 in
      omega (arith, x, y, z, needs image av id name contents (update.NoFree n k) is))

-- so it is for whatever a source may hold
module _ (s : Sizes) (k : Source) (agrees : Agreed) (size at : ℕ) (agreed : Agreed) (av : Avoided) (id : ℕ) (name : List ℕ)
    (held : agreed []) where
  abbrev Causes : UpdateRefusal → Type 0
  Causes c = IsWholeSize s k.size
      × WhereHeld agrees (λ bytes. WhereHeld agreed (λ contents. IsUpdateCause (image_of s bytes) av contents (asking.Rename id name ∷ []) c))

  told : (c : UpdateRefusal) (d : RenameRefusal)
      → ((image : Image) (is : IsUpdateCause image av [] (asking.Rename id name ∷ []) c)
      → of_blocks IsFirstCause image (avoiding av is.from) id name d)
      → Causes c
      → IsWholeSize s k.size × WhereHeld agrees (λ bytes. of_blocks ReadBlank (image_of s bytes) av
      × ((a : AttachValue) × IsAttached (image_of s bytes) a × of_blocks IsFirstCause (image_of s bytes) (avoiding av a) id name d))
  told c d first h = (
    h.0,
    λ bytes holds.
        (let is = h.1 bytes holds [] held in (is.blank, (is.from, is.attached, first (image_of s bytes) is))),
  )

  pub stopped_is : (e : UpdateError) → StopsIfRenames (asking.Rename id name ∷ []) e → IsUpdateError s k agrees size at agreed av (asking.Rename id name ∷ []) e
      → IsRenameError s k agrees av id name (rename_error id e)
  stopped_is (error.Beyond i) stops h = tt
  stopped_is (error.Contents slot) stops h = tt
  stopped_is (error.Read p) stops h = h
  stopped_is (error.NotBlank p) stops h = h
  stopped_is (error.Refused update.Memory) stops h = tt
  stopped_is (error.Refused (update.Attach x)) stops h = h
  stopped_is (error.Refused (update.Edit i fault.NoVolume)) stops h =
      told (update.Edit i fault.NoVolume) refusal.NoVolume (λ image is. edit_first image av id name [] i fault.NoVolume is) h
  stopped_is (error.Refused (update.Edit i fault.BadName)) stops h =
      told (update.Edit i fault.BadName) refusal.BadName (λ image is. edit_first image av id name [] i fault.BadName is) h
  stopped_is (error.Refused (update.Edit i (fault.Record f))) stops h = absurd (stops (tt, tt))
  stopped_is (error.Refused (update.Edit i fault.TooLarge)) stops h = absurd (stops (tt, tt))
  stopped_is (error.Refused (update.Edit i fault.NotWhole)) stops h = absurd (stops (tt, tt))
  stopped_is (error.Refused (update.Edit i fault.InUse)) stops h = absurd (stops (tt, tt))
  stopped_is (error.Refused (update.SameName i j)) stops h =
      told (update.SameName i j) (refusal.SameName (cond (i == id) j i)) (λ image is. same_first image av id name [] i j is) h
  stopped_is (error.Refused (update.NoSlot i j)) stops h = absurd (stops (tt, tt))
  stopped_is (error.Refused (update.NoSpace i j)) stops h = absurd (stops (tt, tt))
  stopped_is (error.Refused (update.Autoresize i j)) stops h = absurd (stops (tt, tt))
  stopped_is (error.Refused update.NeedsRepair) stops h =
      told update.NeedsRepair refusal.NeedsRepair (λ image is. repair_first image av id name [] is) h
  stopped_is (error.Refused (update.WeakCheck n)) stops h =
      told (update.WeakCheck n) (refusal.WeakCheck n) (λ image is. weak_first image av id name [] n is) h
  stopped_is (error.Refused update.Exhausted) stops h =
      told update.Exhausted refusal.Exhausted (λ image is. exhausted_first image av id name [] is) h
  stopped_is (error.Refused (update.NoFree n m)) stops h =
      told (update.NoFree n m) refusal.NoFree (λ image is. free_first image av id name [] n m is) h
