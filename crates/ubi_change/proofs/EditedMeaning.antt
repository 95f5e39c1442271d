-- What edits leave of volumes, and the volumes that they write.
use Rattle.ubi_change.proofs.Prelude.{◌≡◌, ℕ, ◌-◌, ◌%◌, ◌<◌, ◌≤◌, ◌⊎◌, inl, inr, Bool, true, false, cond, not, List, [], ◌∷◌, length, take, refl, ap, sym, ◌∙◌, subst, arith, cases_lt, nat_tests, nat_cmp, nat_cmp_total, eq_by_cmp, None, Option, Some, IfSome, ◌==◌, filter, find, is_some, option_map_or, slice_index, unwrap_or, same_Some, same_test, apart_test, cases_eq, blank, Sizes, leb_size, usable, VolumeRecord, VidHeader, block, leb, Leb, NoMember, Wins, leb_of, member, Records, records_of, record_of, records_meant, AcceptsBlocks, IsUnlike, IsWithin, NoMismatch, LebReads, SlotMeans, StaticReads, VolumeReads, Fits, IsVolume, Meant, VolumeMap, volume_is, Content, Volume, volume_named, none_passes, option_map, get, empty, get-empty, get-insert, get-remove, AllByRecursion, IsWhole, MayBeSized, is_hidden, ◌||◌, Create, Remove, Rename, Replace, Resize, is_fresh, is_of, left_by, left_by_all, placed, volume_sized, with_volume}
use Rattle.ubi_change.specs.Edited.{Edit}
use Rattle.std.specs.FinMap as finite
use Rattle.ubi_volume.specs.declared.content.Content.TheVariants as content
use Rattle.ubi_change.proofs.Committed.{AreLike, Stays}
use Rattle.ubi_change.proofs.Premises.{left_of, right_of}

-- a volume is another but for its name and how many eraseblocks it reserves
pub record IsLeft (v w : Volume) : Type 0 where
  pub content : w.content ≡ v.content
  pub alignment : w.entry.alignment ≡ v.entry.alignment
  pub kind : w.entry.kind ≡ v.entry.kind
  pub marker : w.entry.marker ≡ v.entry.marker

left_self : (v : Volume) → IsLeft v v
left_self v = record { content = refl; alignment = refl; kind = refl; marker = refl }

-- volumes of which each is one of m, but for these
abbrev AreLeft : VolumeMap → VolumeMap → Type 0
AreLeft ms vs = (id : ℕ) (w : Volume) → finite.get vs id ≡ Some w → (v : Volume) × (finite.get ms id ≡ Some v) × IsLeft v w

module _ (ms : VolumeMap) where
  with_left : (vs : VolumeMap) (id : ℕ) (f : Volume → Volume) → ((v w : Volume) → IsLeft v w → IsLeft v (f w)) → AreLeft ms vs
      → AreLeft ms (with_volume vs id f)
  with_left vs id f keeps left = by_old (finite.get vs id) refl
    where
      by_old : (o : Option Volume) → finite.get vs id ≡ o
          → AreLeft ms (option_map_or (λ v. finite.insert vs id (f v)) o vs)
      by_old None e = left
      by_old (Some x) e = λ i w h. elim (cases_eq i id) [
        | inl same ↦
            let now : finite.get (finite.insert vs id (f x)) i ≡ Some (f x) =
            get-insert nat_cmp_total vs id (f x) i
            ∙ ap (λ b. cond b (Some (f x)) (finite.get vs i))
            (ap (λ (k : ℕ). eq_by_cmp nat_cmp k id) same ∙ same_test id) in
            let is : f x ≡ w = same_Some (f x) w (sym now ∙ h) in
            let old = left id x e in
            (old.0, ap (finite.get ms) same ∙ old.1, subst (IsLeft old.0) is (keeps old.0 x old.2))
        | inr other ↦
            let was : finite.get (finite.insert vs id (f x)) i ≡ finite.get vs i =
            get-insert nat_cmp_total vs id (f x) i
            ∙ ap (λ b. cond b (Some (f x)) (finite.get vs i)) (apart_test i id other) in
            left i w (sym was ∙ h)
      ]

  without_left : (vs : VolumeMap) (id : ℕ) → AreLeft ms vs → AreLeft ms (finite.remove vs id)
  without_left vs id left i w h = by_test (eq_by_cmp nat_cmp i id) (sym (get-remove nat_cmp_total vs id i) ∙ h)
    where
      by_test : (b : Bool) → cond b None (finite.get vs i) ≡ Some w → (v : Volume) × (finite.get ms i ≡ Some v) × IsLeft v w
      by_test true e = absurd (cc)
      by_test false e = left i w e

  left_one : (vs : VolumeMap) (e : Edit) → AreLeft ms vs → AreLeft ms (left_by vs e)
  left_one vs (Rename id name) left = with_left vs id (λ v. volume_named v name)
      (λ v w k. record { content = k.content; alignment = k.alignment; kind = k.kind; marker = k.marker }) left
  left_one vs (Resize id n) left = with_left vs id (λ v. volume_sized v n)
      (λ v w k. record { content = k.content; alignment = k.alignment; kind = k.kind; marker = k.marker }) left
  left_one vs (Remove id) left = without_left vs id left
  left_one vs (Replace id v) left = without_left vs id left
  left_one vs (Create v) left = left

  left_all : (vs : VolumeMap) (es : List Edit) → AreLeft ms vs → AreLeft ms (left_by_all vs es)
  left_all vs [] left = left
  left_all vs (e ∷ es) left = left_all (left_by vs e) es (left_one vs e left)

  pub left_are : (es : List Edit) → AreLeft ms (left_by_all ms es)
  left_are es = left_all ms es (λ id w e. (w, e, left_self w))

-- a volume that is placed stands in its slot whatever stands beside it, and elsewhere this stays
pub placed_there : (vs : VolumeMap) (js : List ℕ) (new : List Volume) (id : ℕ) (v : Volume)
    → finite.get (placed empty js new) id ≡ Some v → finite.get (placed vs js new) id ≡ Some v
placed_there vs [] new id v e = let k : finite.get (placed empty [] new) id ≡ None = get-empty nat_cmp id in absurd (cc)
placed_there vs (j ∷ js) [] id v e = let k : finite.get (placed empty (j ∷ js) []) id ≡ None = get-empty nat_cmp id in absurd (cc)
placed_there vs (j ∷ js) (x ∷ new) id v e =
    get-insert nat_cmp_total (placed vs js new) j x id
    ∙ by_test (eq_by_cmp nat_cmp id j) (sym (get-insert nat_cmp_total (placed empty js new) j x id) ∙ e)
    (λ h. placed_there vs js new id v h)
  where
    by_test : (b : Bool) → cond b (Some x) (finite.get (placed empty js new) id) ≡ Some v
        → (finite.get (placed empty js new) id ≡ Some v → finite.get (placed vs js new) id ≡ Some v)
        → cond b (Some x) (finite.get (placed vs js new) id) ≡ Some v
    by_test true h rest = h
    by_test false h rest = rest h

pub placed_none : (vs : VolumeMap) (js : List ℕ) (new : List Volume) (id : ℕ)
    → finite.get (placed empty js new) id ≡ None → finite.get (placed vs js new) id ≡ finite.get vs id
placed_none vs [] new id e = refl
placed_none vs (j ∷ js) [] id e = refl
placed_none vs (j ∷ js) (x ∷ new) id e =
    get-insert nat_cmp_total (placed vs js new) j x id
    ∙ by_test (eq_by_cmp nat_cmp id j) (sym (get-insert nat_cmp_total (placed empty js new) j x id) ∙ e)
    (λ h. placed_none vs js new id h)
  where
    by_test : (b : Bool) → cond b (Some x) (finite.get (placed empty js new) id) ≡ None
        → (finite.get (placed empty js new) id ≡ None → finite.get (placed vs js new) id ≡ finite.get vs id)
        → cond b (Some x) (finite.get (placed vs js new) id) ≡ finite.get vs id
    by_test true h rest = absurd (cc)
    by_test false h rest = rest h

-- what holds of the slots holds of each in which a volume is placed
pub placed_each : (P : ℕ → Type 0) (js : List ℕ) (new : List Volume) → AllByRecursion P js → (id : ℕ) (v : Volume)
    → finite.get (placed empty js new) id ≡ Some v → P id
placed_each P [] new p id v e = let k : finite.get (placed empty [] new) id ≡ None = get-empty nat_cmp id in absurd (cc)
placed_each P (j ∷ js) [] p id v e = let k : finite.get (placed empty (j ∷ js) []) id ≡ None = get-empty nat_cmp id in absurd (cc)
placed_each P (j ∷ js) (x ∷ new) p id v e = elim (cases_eq id j) [
  | inl same ↦ subst P (sym same) p.0
  | inr other ↦
      let was : finite.get (finite.insert (placed empty js new) j x) id ≡ finite.get (placed empty js new) id =
      get-insert nat_cmp_total (placed empty js new) j x id
      ∙ ap (λ b. cond b (Some x) (finite.get (placed empty js new) id)) (apart_test id j other) in
      placed_each P js new p.1 id v (sym was ∙ e)
]

-- each number that passes does
pub all_filter : (p : ℕ → Bool) (xs : List ℕ) → AllByRecursion (λ x. p x ≡ true) (filter p xs)
all_filter p [] = tt
all_filter p (x ∷ xs) = by_test (p x) refl (all_filter p xs)
  where
    by_test : (b : Bool) → p x ≡ b → AllByRecursion (λ x. p x ≡ true) (filter p xs)
        → AllByRecursion (λ x. p x ≡ true) (cond b (x ∷ filter p xs) (filter p xs))
    by_test true h r = (h, r)
    by_test false h r = r

-- a fresh slot has no volume, and no member
module _ (s : Sizes) (bs : List (List ℕ)) (ends : List ℕ) (m : Meant) (j : ℕ) (fresh : is_fresh s bs ends m j ≡ true) where
  is_none : {X : Type 0} (o : Option X) → not (is_some o) ≡ true → o ≡ None
  is_none None e = refl
  is_none (Some x) e = absurd (cc)

  neither : (a b : Bool) → not (a || b) ≡ true → not a ≡ true
  neither false b e = refl
  neither true b e = absurd (cc)

  pub fresh_slot : finite.get m.volumes j ≡ None
  fresh_slot = is_none (finite.get m.volumes j) (left_of _ _ fresh)

  none_of : find (is_of s bs j) bs ≡ None
  none_of = is_none (find (is_of s bs j) bs) (neither (is_some (find (is_of s bs j) bs)) (is_hidden ends j 0) (right_of _ _ fresh))

  pub fresh_none : (lnum : ℕ) → NoMember s bs (j, lnum)
  fresh_none lnum p h = by_member (member s (block bs p)) h.named
      (none_passes (is_of s bs j) bs none_of p [] h.inside)
    where
      by_member : (o : Option VidHeader) → option_map leb_of o ≡ Some (j, lnum)
          → option_map_or (λ h. h.vol_id == j) o false ≡ false → ⊥
      by_member None e f = absurd (cc)
      by_member (Some h) e f =
          let same : leb_of h ≡ (j, lnum) = same_Some (leb_of h) (j, lnum) e in
          let vol : h.vol_id ≡ j = ap (λ (of : Leb). of.0) same in
          differ h.vol_id j vol f
        where
          differ : (a b : ℕ) → a ≡ b → (a == b) ≡ false → ⊥
          differ a b e f = grind (arith, nat_tests)

-- a volume of an accepted image stays
module _ (s : Sizes) (bs : List (List ℕ)) (ends : List ℕ) (m : Meant) (acc : AcceptsBlocks s bs m) (id : ℕ) (v w : Volume)
    (was : finite.get m.volumes id ≡ Some v) (is : IsLeft v w) (sized : MayBeSized s bs ends id v w) where
  pub same : records_of m ≡ acc.records
  same = records_meant s bs acc.records m acc.table acc.means

  pub recorded : finite.get (records_of m).of id ≡ Some v.entry
  recorded = record_of m id ∙ ap (option_map (λ (v : Volume). v.entry)) was

  pub slot : SlotMeans s bs id (Some v.entry) (Some v)
  slot =
      subst (λ (o : Option VolumeRecord). SlotMeans s bs id o (Some v)) recorded
      (subst (λ (o : Option Volume). SlotMeans s bs id (finite.get (records_of m).of id) o) was
      (subst (λ (t : Records). SlotMeans s bs id (finite.get t.of id) (finite.get m.volumes id)) (sym same)
      (acc.means.slots id)))

  pub usable_same : usable s w.entry ≡ usable s v.entry
  usable_same = ap (λ n. leb_size s - leb_size s % n) is.alignment

  pub volume : IsVolume s id v
  volume = subst (λ (z : Sizes). IsVolume z id v) acc.means.sizes (volume_is m acc.means.meaning id v was)

  -- it counts nothing that has a member and wasn't counted
  pub within_was : (lnum : ℕ) → IsWithin w.entry lnum → IsWithin v.entry lnum ⊎ NoMember s bs (id, lnum)
  within_was lnum within = elim sized [
    | inl equal ↦ inl (λ d. (let l = within (is.kind ∙ d) in omega arith))
    | inr k ↦ elim (cases_lt lnum v.entry.reserved) [
      | inl below ↦ inl (λ d. below)
      | inr beyond ↦ inr (k.1 lnum (omega arith))
    ]
  ]

  leb_now : (lebs : finite.FinMap nat_cmp (List ℕ)) → Fits s v.entry (content.Dynamic lebs)
      → ((lnum : ℕ) → lnum < v.entry.reserved → LebReads s bs id v.entry lnum (unwrap_or (finite.get lebs lnum) (blank (usable s v.entry))))
      → (lnum : ℕ) → lnum < w.entry.reserved
      → LebReads s bs id w.entry lnum (unwrap_or (finite.get lebs lnum) (blank (usable s w.entry)))
  leb_now lebs fits reads lnum within =
      subst (λ (u : ℕ). ((p : ℕ) × Wins s bs (id, lnum) p × (unwrap_or (finite.get lebs lnum) (blank u) ≡ take u (leb s (block bs p))))
      ⊎ (NoMember s bs (id, lnum) × (unwrap_or (finite.get lebs lnum) (blank u) ≡ blank u))) (sym usable_same)
      (elim (cases_lt lnum v.entry.reserved) [
        | inl below ↦ reads lnum below
        | inr beyond ↦ inr (no_member beyond, no_leb (finite.get lebs lnum) (fits.2 lnum) beyond)
      ])
    where
      no_member : v.entry.reserved ≤ lnum → NoMember s bs (id, lnum)
      no_member beyond = elim sized [
        | inl equal ↦ absurd (omega arith)
        | inr k ↦ k.1 lnum (omega arith)
      ]

      no_leb : (o : Option (List ℕ)) → IfSome o (λ text. (lnum < v.entry.reserved) × (length text ≡ usable s v.entry))
          → v.entry.reserved ≤ lnum → unwrap_or o (blank (usable s v.entry)) ≡ blank (usable s v.entry)
      no_leb None h beyond = refl
      no_leb (Some text) h beyond = (let l = h.0 in absurd (omega arith))

  static_now : (text : List ℕ) → StaticReads s bs id v.entry text → StaticReads s bs id w.entry text
  static_now text (inl h) = inl h
  static_now text (inr h) = inr (
    h.0,
    record {
      some = h.1.some;
      within = few;
      win = h.1.win;
      no_other = h.1.no_other;
      pieces = h.1.pieces;
    },
    h.2,
  )
    where
      few : length h.0 ≤ w.entry.reserved
      few = elim sized [
        | inl equal ↦ (let l = h.1.within in omega arith)
        | inr k ↦ elim (cases_lt w.entry.reserved (length h.0)) [
          | inr most ↦ most
          | inl more ↦
              let l = h.1.within in
              let n = h.1.some in
              absurd (k.1 (length h.0 - 1) (omega arith) (slice_index h.0 (length h.0 - 1))
              (h.1.win (length h.0 - 1) (omega arith)).member)
        ]
      ]

  by_content : (c : Content) → v.content ≡ c → Fits s v.entry c → VolumeReads s bs id v.entry c → VolumeReads s bs id w.entry c
  by_content content.Updating e fits h = is.marker ∙ h
  by_content (content.Dynamic lebs) e fits h = (is.marker ∙ h.0, is.kind ∙ h.1, leb_now lebs fits h.2)
  by_content (content.Static text) e fits h = (is.marker ∙ h.0, is.kind ∙ h.1, static_now text h.2)
  by_content content.Damaged e fits h = (is.marker ∙ h.0, is.kind ∙ h.1, λ text d. h.2 text (back text d))
    where
      equal : w.entry.reserved ≡ v.entry.reserved
      equal = elim sized [ inl q ↦ q | inr k ↦ absurd (subst IsWhole e k.0) ]

      back : (text : List ℕ) → StaticReads s bs id w.entry text → StaticReads s bs id v.entry text
      back text (inl d) = inl d
      back text (inr d) = inr (
        d.0,
        record {
          some = d.1.some;
          within = (let l = d.1.within in let q = equal in omega arith);
          win = d.1.win;
          no_other = d.1.no_other;
          pieces = d.1.pieces;
        },
        d.2,
      )

  reads_now : VolumeReads s bs id w.entry w.content
  reads_now = subst (VolumeReads s bs id w.entry) (sym is.content) (by_content v.content refl volume.fits slot.1)

  like_now : AreLike s bs id w.entry
  like_now lnum p h within wins marker is_member unlike = elim (within_was lnum within) [
    | inr none ↦ none p wins.member
    | inl before ↦
        subst (NoMismatch s bs) (sym same) acc.alike p (
          v.entry,
          h,
          record { vol = id; lnum = lnum; wins = wins; recorded = recorded; within = before },
          sym is.marker ∙ marker,
          is_member,
          unlike_was unlike,
        )
  ]
    where
      unlike_was : IsUnlike s w.entry h → IsUnlike s v.entry h
      unlike_was (inl k) = inl (λ e. k (e ∙ sym is.kind))
      unlike_was (inr k) = inr (λ e. k (e ∙ sym (ap (λ n. leb_size s % n) is.alignment)))

  pub stays_so : Stays s bs id v w
  stays_so = record { reads = reads_now; like = like_now; within = within_was }
