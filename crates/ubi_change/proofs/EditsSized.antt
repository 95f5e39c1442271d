-- With no fault, the edits' volumes are there, and each that gets another size reads whole and has no member in between.
use Rattle.ubi_change.proofs.Prelude.{◌≡◌, ℕ, ◌+◌, ◌<◌, ◌≤◌, ◌⊎◌, inl, inr, Bool, true, false, cond, not, min, List, [], ◌∷◌, map, refl, arith, ap, sym, ◌∙◌, subst, nat_tests, None, Option, Some, IfSome, option_map, option_map_or, ◌==◌, cases_eq, nat_cmp_total, eq_by_cmp, nat_cmp, same_Some, same_test, apart_test, AllByRecursion, Sizes, usable, VolKind, VolumeRecord, Records, records_of, record_of, Meant, VolumeMap, Volume, Content, IsWhole, MayBeSized, volume_named, cases_lt, left_by, left_by_all, volume_sized, with_volume, content_of, text_of, without_blank, AllThere, fault_of, fault_on, first_edit_fault, is_hidden, is_taken, is_used, reads_whole, records_left, sizing_fault, edits_volume, all_asked, asked, part_in, volume_of, Edit, NewVolume, EditFault}
use Rattle.std.proofs.Common.{◌&&◌, ◌||◌}
use Rattle.std.specs.FinMap as finite
use Rattle.ubi_volume.specs.declared.content.Content.TheVariants as content
use Rattle.ubi_media.specs.declared.vid.VolKind.TheVariants as kind
use Rattle.ubi_change.specs.EditFaults.{is_whole}
use Rattle.ubi_change.specs.declared.edit.Edit.TheVariants as edit
use Rattle.ubi_change.specs.declared.errors.EditFault.TheVariants as fault
use Rattle.ubi_change.proofs.EditedRecords.{left_one}
use Rattle.ubi_change.proofs.PlacedParts.{first_none, later_none, passed_test}
use Rattle.ubi_change.proofs.UsedByWinners.{unused_none}

-- the records of volumes beside those of a meaning
abbrev R : Meant → VolumeMap → Records
R m vs = records_of (record m { volumes = vs })

-- with no fault on a volume it is there, and what its record says isn't one
on_there : (m : Meant) (vs : VolumeMap) (id : ℕ) (f : VolumeRecord → Option EditFault) → fault_on (R m vs) id f ≡ None
    → (v : Volume) × (finite.get vs id ≡ Some v) × (f v.entry ≡ None)
on_there m vs id f none = by (finite.get vs id) refl
    (sym (ap (λ (o : Option VolumeRecord). option_map_or f o (Some fault.NoVolume)) (record_of (record m { volumes = vs }) id)) ∙ none)
  where
    by : (o : Option Volume) → finite.get vs id ≡ o
        → option_map_or f (option_map (λ (v : Volume). v.entry) o) (Some fault.NoVolume) ≡ None
        → (v : Volume) × (finite.get vs id ≡ Some v) × (f v.entry ≡ None)
    by None e n = absurd (cc)
    by (Some v) e n = (v, e, n)

-- the first edit has no fault, and neither has the rest
pub first_is_none : (s : Sizes) (used : ℕ → ℕ → Bool) (whole : Edit → Bool) (i : ℕ) (t : Records) (e : Edit) (es : List Edit)
    → first_edit_fault s used whole i t (e ∷ es) ≡ None
    → (fault_of s used (whole e) t e ≡ None) × (first_edit_fault s used whole (i + 1) (records_left t e) es ≡ None)
first_is_none s used whole i t e es none = by (fault_of s used (whole e) t e) refl none
  where
    by : (o : Option EditFault) → fault_of s used (whole e) t e ≡ o
        → option_map_or (λ f. Some (i, f)) o (first_edit_fault s used whole (i + 1) (records_left t e) es) ≡ None
        → (fault_of s used (whole e) t e ≡ None) × (first_edit_fault s used whole (i + 1) (records_left t e) es ≡ None)
    by None f n = (f, n)
    by (Some x) f n = absurd (cc)

-- volumes that are those of a meaning but for names and sizes, which may be so
abbrev pub SizedSo : Sizes → List (List ℕ) → List ℕ → VolumeMap → VolumeMap → Type 0
SizedSo s bs ends ms vs = (id : ℕ) (v w : Volume) → finite.get ms id ≡ Some v → finite.get vs id ≡ Some w
    → (w.content ≡ v.content) × MayBeSized s bs ends id v w

whole_is : (c : Content) → is_whole c ≡ true → IsWhole c
whole_is content.Updating e = absurd (cc)
whole_is content.Damaged e = absurd (cc)
whole_is (content.Static text) e = tt
whole_is (content.Dynamic lebs) e = tt

module _ (s : Sizes) (bs : List (List ℕ)) (ends : List ℕ) (m : Meant) where
  -- a size on the way
  sized_again : (id : ℕ) (v x w : Volume) → MayBeSized s bs ends id v x → MayBeSized s bs ends id x w → (x.content ≡ v.content)
      → MayBeSized s bs ends id v w
  sized_again id v x w (inl e) (inl f) same = inl (f ∙ e)
  sized_again id v x w (inl e) (inr k) same =
      inr (subst IsWhole same k.0, (λ lnum above. k.1 lnum (omega (arith, above, e))), (let h = k.2 in omega (arith, h, e)))
  sized_again id v x w (inr k) (inl f) same = inr (
    k.0,
    (λ lnum above. k.1 lnum (omega (arith, above, f))),
    (let h = k.2 in omega (arith, h, f)),
  )
  sized_again id v x w (inr k) (inr l) same = inr (
    k.0,
    (λ lnum above. elim (below lnum w.entry.reserved) [
      | inl under ↦ k.1 lnum (omega (arith, above, under))
      | inr over ↦ l.1 lnum (omega (arith, over))
    ]),
    (let h = k.2 in let i = l.2 in omega (arith, h, i)),
  )
    where
      below : (a b : ℕ) → (a < b) ⊎ (b ≤ a)
      below a b = cases_lt a b

  -- a volume is changed
  with_sized : (vs : VolumeMap) (id : ℕ) (f : Volume → Volume)
      → ((v x : Volume) → finite.get m.volumes id ≡ Some v → finite.get vs id ≡ Some x → (x.content ≡ v.content)
      → ((f x).content ≡ x.content) × MayBeSized s bs ends id x (f x))
      → SizedSo s bs ends m.volumes vs → SizedSo s bs ends m.volumes (with_volume vs id f)
  with_sized vs id f new old = by (finite.get vs id) refl
    where
      by : (o : Option Volume) → finite.get vs id ≡ o
          → SizedSo s bs ends m.volumes (option_map_or (λ v. finite.insert vs id (f v)) o vs)
      by None e = old
      by (Some x) e = λ i v w was is. elim (cases_eq i id) [
        | inl same ↦
            let now : finite.get (finite.insert vs id (f x)) i ≡ Some (f x) =
            finite.get-insert nat_cmp_total vs id (f x) i
            ∙ ap (λ b. cond b (Some (f x)) (finite.get vs i)) (ap (λ (k : ℕ). eq_by_cmp nat_cmp k id) same ∙ same_test id) in
            let here : f x ≡ w = same_Some (f x) w (sym now ∙ is) in
            let at : finite.get m.volumes id ≡ Some v = ap (finite.get m.volumes) (sym same) ∙ was in
            let before = old id v x at e in
            let more = new v x at e before.0 in
            subst (λ (y : Volume). (y.content ≡ v.content) × MayBeSized s bs ends i v y) here (
              more.0 ∙ before.0,
              subst (λ (k : ℕ). MayBeSized s bs ends k v (f x)) (sym same) (sized_again id v x (f x) before.1 more.1 before.0),
            )
        | inr other ↦
            let same : finite.get (finite.insert vs id (f x)) i ≡ finite.get vs i =
            finite.get-insert nat_cmp_total vs id (f x) i
            ∙ ap (λ b. cond b (Some (f x)) (finite.get vs i)) (apart_test i id other) in
            old i v w was (sym same ∙ is)
      ]

  without_sized : (vs : VolumeMap) (id : ℕ) → SizedSo s bs ends m.volumes vs → SizedSo s bs ends m.volumes (finite.remove vs id)
  without_sized vs id old i v w was is = by (eq_by_cmp nat_cmp i id) (sym (finite.get-remove nat_cmp_total vs id i) ∙ is)
    where
      by : (b : Bool) → cond b None (finite.get vs i) ≡ Some w → (w.content ≡ v.content) × MayBeSized s bs ends i v w
      by true e = absurd (cc)
      by false e = old i v w was e

  -- a volume that gets another size may get it
  resize_may : (id n : ℕ) (v x : Volume) → finite.get m.volumes id ≡ Some v → (x.content ≡ v.content)
      → sizing_fault (is_taken s bs ends) (reads_whole m (edit.Resize id n)) id x.entry n ≡ None → MayBeSized s bs ends id x (volume_sized x n)
  resize_may id n v x was same none = by (n == x.entry.reserved) refl
    where
      whole : reads_whole m (edit.Resize id n) ≡ is_whole x.content
      whole = ap (λ (o : Option Volume). option_map_or (λ v. is_whole v.content) o true) was ∙ ap is_whole (sym same)

      kept : (c : Bool) → not (n == x.entry.reserved) && c ≡ false → (n == x.entry.reserved) ≡ false → c ≡ false
      kept c e f = sym (ap (λ b. not b && c) f) ∙ e

      neither : (a b : Bool) → a || b ≡ false → (a ≡ false) × (b ≡ false)
      neither true b e = absurd (cc)
      neither false b e = (refl, e)

      not_false : (c : Bool) → not c ≡ false → c ≡ true
      not_false true e = refl
      not_false false e = absurd (cc)

      by : (b : Bool) → (n == x.entry.reserved) ≡ b → MayBeSized s bs ends id x (volume_sized x n)
      by true e = inl (let k : n ≡ x.entry.reserved = grind (arith, nat_tests, e) in k)
      by false e =
          let a = passed_test _ fault.NotWhole (first_none _ _ none) in
          let b = passed_test _ fault.InUse (later_none _ _ none) in
          let w : reads_whole m (edit.Resize id n) ≡ true = not_false _ (kept _ a e) in
          let u : is_taken s bs ends id (min x.entry.reserved n) ≡ false = kept _ b e in
          let used = neither (is_used s bs id (min x.entry.reserved n)) (is_hidden ends id (min x.entry.reserved n)) u in
          let hidden : is_hidden ends id (min x.entry.reserved n) ≡ false = used.1 in
          inr (
            whole_is x.content (sym whole ∙ w),
            (λ lnum above. unused_none s bs id (min x.entry.reserved n) used.0 lnum above),
            grind (arith, nat_tests, hidden),
          )

  module _ (contents : List ℕ) where
    one_sized : (vs : VolumeMap) (e : Edit) → fault_of s (is_taken s bs ends) (reads_whole m e) (R m vs) e ≡ None
        → SizedSo s bs ends m.volumes vs → SizedSo s bs ends m.volumes (left_by vs (asked s contents e))
    one_sized vs (edit.Rename id name) none old =
        with_sized vs id (λ v. volume_named v name) (λ v x was is same. (refl, inl refl)) old
    one_sized vs (edit.Resize id n) none old =
        let there = on_there m vs id _ none in
        with_sized vs id (λ v. volume_sized v n)
        (λ v x was is same. (
          refl,
          resize_may id n v x was same
              (subst (λ (y : Volume). sizing_fault (is_taken s bs ends) (reads_whole m (edit.Resize id n)) id y.entry n ≡ None)
              (same_Some there.0 x (sym there.1 ∙ is)) (later_none _ _ there.2)),
        )) old
    one_sized vs (edit.Remove id) none old = without_sized vs id old
    one_sized vs (edit.Replace id v) none old = without_sized vs id old
    one_sized vs (edit.Create v) none old = old

    -- the volumes are there, and what is left may be so
    pub edits_sized : (vs : VolumeMap) (i : ℕ) (es : List Edit)
        → first_edit_fault s (is_taken s bs ends) (reads_whole m) i (R m vs) es ≡ None → SizedSo s bs ends m.volumes vs
        → SizedSo s bs ends m.volumes (left_by_all vs (all_asked s contents es))
    edits_sized vs i [] none old = old
    edits_sized vs i (e ∷ es) none old =
        let two = first_is_none s (is_taken s bs ends) (reads_whole m) i (R m vs) e es none in
        edits_sized (left_by vs (asked s contents e)) (i + 1) es
        (ap (λ (t : Records). first_edit_fault s (is_taken s bs ends) (reads_whole m) (i + 1) t es) (left_one m s contents vs e) ∙ two.1)
        (one_sized vs e two.0 old)

    one_there : (vs : VolumeMap) (e : Edit) → fault_of s (is_taken s bs ends) (reads_whole m e) (R m vs) e ≡ None
        → IfSome (edits_volume (asked s contents e)) (λ id. (v : Volume) × (finite.get vs id ≡ Some v))
    one_there vs (edit.Rename id name) none = (let k = on_there m vs id _ none in (k.0, k.1))
    one_there vs (edit.Resize id n) none = (let k = on_there m vs id _ none in (k.0, k.1))
    one_there vs (edit.Remove id) none = (let k = on_there m vs id _ none in (k.0, k.1))
    one_there vs (edit.Replace id v) none = (let k = on_there m vs id _ none in (k.0, k.1))
    one_there vs (edit.Create v) none = tt

    pub edits_there : (vs : VolumeMap) (i : ℕ) (es : List Edit)
        → first_edit_fault s (is_taken s bs ends) (reads_whole m) i (R m vs) es ≡ None → AllThere vs (all_asked s contents es)
    edits_there vs i [] none = tt
    edits_there vs i (e ∷ es) none =
        let two = first_is_none s (is_taken s bs ends) (reads_whole m) i (R m vs) e es none in (
          one_there vs e two.0,
          edits_there (left_by vs (asked s contents e)) (i + 1) es
              (ap (λ (t : Records). first_edit_fault s (is_taken s bs ends) (reads_whole m) (i + 1) t es) (left_one m s contents vs e) ∙ two.1),
        )

-- what is written is whole
pub news_whole : (s : Sizes) (contents : List ℕ) (vs : List NewVolume)
    → AllByRecursion (λ v. IsWhole v.content) (map (volume_of s contents) vs)
news_whole s contents [] = tt
news_whole s contents (v ∷ vs) = (by v.entry.kind, news_whole s contents vs)
  where
    by : (k : VolKind) → IsWhole (without_blank (content_of k (usable s (part_in v 0).entry) (text_of contents (part_in v 0))))
    by kind.Static = tt
    by kind.Dynamic = tt
