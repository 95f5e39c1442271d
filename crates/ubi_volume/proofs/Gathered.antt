-- The volumes that were gathered, as the meaning of eraseblocks with their table.
use Rattle.ubi_volume.proofs.Prelude.{◌≡◌, ℕ, zero, suc, ◌^◌, ◌<◌, inl, inr, Bool, true, false, cond, T, List, [], ◌∷◌, ◌++◌, length, map, get_or, refl, ap, sym, ◌∙◌, subst, arith, IfSome, IsTrue, Option, Some, None, option_map, nat_cmp_total, find, from_entries, is_sorted, sum_by, nat_cmp, map-append, All-append, All-head, All-tail, exact_unsigned, same_Some, IsGeometry, Sizes, slots, rec_fault, VolumeRecord, sorted_entries, find_at, told, find_revalued, order_same, sums_same, image_seq, AreRecords, HasSpace, Records, IsTable, AreContents, ContentIs, Means, SlotMeans, VolumeReads, Fits, IsVolume, KeepsNoBlank, AreVolumes, Content, Volume, table_records, no_space}
use Rattle.std.specs.Prelude.{All}
use Rattle.std.specs.FinMap as finite
use Rattle.ubi_volume.proofs.Winners.{no_some}

abbrev pub Item : Type 0
Item = ℕ × Volume

true_of : (b : Bool) → T b → b ≡ true
true_of true h = refl
true_of false h = absurd h

-- the record of a volume, whatever its number
abbrev pub record_at : ℕ → Volume → VolumeRecord
record_at id v = v.entry

no_volume : (vs : List Item) (id : ℕ) → find nat_cmp id vs ≡ None
    → find nat_cmp id (map (λ (v : Item). (v.0, v.1.entry)) vs) ≡ None
no_volume vs id e = find_revalued record_at id vs ∙ ap (option_map (record_at id)) e

module _ (Has : ℕ → VolumeRecord → Content → Type 0) where
  abbrev HasItem : Item → Type 0
  HasItem v = Has v.0 v.1.entry v.1.content

  -- a volume that is found has its record and its content
  found_volume : (vs : List Item) → All HasItem vs → (id : ℕ) (v : Volume) → find nat_cmp id vs ≡ Some v
      → (find nat_cmp id (map (λ (v : Item). (v.0, v.1.entry)) vs) ≡ Some v.entry) × Has id v.entry v.content
  found_volume [] all id v e = absurd (no_some v e)
  found_volume (w ∷ vs) all id v e = elim (told nat_cmp nat_cmp_total exact_unsigned id w.0) [
    | inl t ↦
        let same : w.1 ≡ v = same_Some w.1 v (sym (ap (λ b. cond b (Some w.1) (find nat_cmp id vs)) t.0) ∙ e) in
        let is : Has w.0 w.1.entry w.1.content = All-head HasItem w vs all in (
          ap (λ b. cond b (Some w.1.entry) (find nat_cmp id (map (λ (v : Item). (v.0, v.1.entry)) vs))) t.0
              ∙ ap (λ (x : Volume). Some x.entry) same,
          subst (λ (x : Volume). Has id x.entry x.content) same
              (subst (λ (k : ℕ). Has k w.1.entry w.1.content) (sym t.1) is),
        )
    | inr t ↦
        let rest = found_volume vs (All-tail HasItem w vs all) id v
        (sym (ap (λ b. cond b (Some w.1) (find nat_cmp id vs)) t.0) ∙ e) in (
          ap (λ b. cond b (Some w.1.entry) (find nat_cmp id (map (λ (v : Item). (v.0, v.1.entry)) vs))) t.0
              ∙ rest.0,
          rest.1,
        )
  ]

  pub contents_none : AreContents Has [] []
  contents_none = record { alike = refl; contents = λ k d h. absurd (omega arith) }

  pub contents_more : (es : List (ℕ × VolumeRecord)) (vs : List Item) (e : ℕ × VolumeRecord) (v : Volume)
      → AreContents Has es vs → v.entry ≡ e.1 → Has e.0 e.1 v.content
      → AreContents Has (es ++ e ∷ []) (vs ++ (e.0, v) ∷ [])
  contents_more es vs e v h same is = record {
    alike = map-append (λ (v : Item). (v.0, v.1.entry)) vs ((e.0, v) ∷ []) ∙ ap (λ x. x ++ (e.0, v.entry) ∷ []) h.alike
        ∙ ap (λ (r : VolumeRecord). es ++ (e.0, r) ∷ []) same;
    contents = All-append HasItem vs ((e.0, v) ∷ []) h.contents (λ k d l. subst HasItem (first k d l)
        (subst (λ (r : VolumeRecord). Has e.0 r v.content) (sym same) is));
  }
    where
      first : (k : ℕ) (d : Item) → k < 1 → (e.0, v) ≡ get_or ((e.0, v) ∷ []) k d
      first zero d l = refl
      first (suc k) d l = absurd (omega arith)

  module _ (s : Sizes) (t : Records) (vs : List Item) (h : AreContents Has (finite.entries t.of) vs) where
    sorted : IsTrue (is_sorted nat_cmp vs)
    sorted = true_of _ (subst T (ap (is_sorted nat_cmp) (sym h.alike) ∙ order_same record_at vs)
        (finite.entries_sorted t.of))

    listed : (id : ℕ) → finite.get (from_entries {R = nat_cmp} vs) id ≡ find nat_cmp id vs
    listed id = finite.get-from_entries nat_cmp_total vs id

    recorded : (id : ℕ) → finite.get t.of id ≡ find nat_cmp id (map (λ (v : Item). (v.0, v.1.entry)) vs)
    recorded id = finite.get-entries t.of id ∙ ap (find nat_cmp id) (sym h.alike)

    volume_at : (id : ℕ) (v : Volume) → finite.get (from_entries {R = nat_cmp} vs) id ≡ Some v
        → (finite.get t.of id ≡ Some v.entry) × Has id v.entry v.content
    volume_at id v e =
        let f = found_volume vs h.contents id v (sym (listed id) ∙ e) in
        (recorded id ∙ f.0, f.1)

    none_at : (id : ℕ) → finite.get (from_entries {R = nat_cmp} vs) id ≡ None → finite.get t.of id ≡ None
    none_at id e = recorded id ∙ no_volume vs id (sym (listed id) ∙ e)

    -- each slot means its volume
    slot_means : (bs : List (List ℕ)) → ((id : ℕ) (r : VolumeRecord) (c : Content) → Has id r c
        → VolumeReads s bs id r c) → (id : ℕ)
        → SlotMeans s bs id (finite.get t.of id) (finite.get (from_entries {R = nat_cmp} vs) id)
    slot_means bs reads id = by_volume (finite.get (from_entries {R = nat_cmp} vs) id) refl
      where
        by_volume : (o : Option Volume) → finite.get (from_entries {R = nat_cmp} vs) id ≡ o
            → SlotMeans s bs id (finite.get t.of id) o
        by_volume None e = subst (λ (r : Option VolumeRecord). SlotMeans s bs id r None) (sym (none_at id e)) tt
        by_volume (Some v) e =
            let f = volume_at id v e in
            subst (λ (r : Option VolumeRecord). SlotMeans s bs id r (Some v)) (sym f.0)
            (refl, reads id v.entry v.content f.1)

    module _ (sizes : t.sizes ≡ s) (records : AreRecords t) (room : HasSpace s t)
        (kept : (id : ℕ) (r : VolumeRecord) (c : Content) → Has id r c → Fits s r c × KeepsNoBlank s r c) where
      each_volume : (id : ℕ) → IfSome (finite.get (from_entries {R = nat_cmp} vs) id) (IsVolume s id)
      each_volume id = by_volume (finite.get (from_entries {R = nat_cmp} vs) id) refl
        where
          by_volume : (o : Option Volume) → finite.get (from_entries {R = nat_cmp} vs) id ≡ o → IfSome o (IsVolume s id)
          by_volume None e = tt
          by_volume (Some v) e =
              let f = volume_at id v e in
              let k = kept id v.entry v.content f.1 in
              record {
                slot = subst (λ (z : Sizes). id < slots z) sizes (records.slot id v.entry f.0);
                sound = subst (λ (z : Sizes). rec_fault z v.entry ≡ None) sizes (records.sound id v.entry f.0);
                fits = k.0;
                kept = k.1;
              }

      reserved : sum_by (λ (v : Volume). v.entry.reserved) (finite.values (from_entries {R = nat_cmp} vs))
          ≡ sum_by (λ (r : VolumeRecord). r.reserved) (finite.values t.of)
      reserved =
          ap (λ (es : List Item). sum_by (λ (v : Volume). v.entry.reserved) (map (λ (v : Item). v.1) es))
          (sorted_entries vs sorted)
          ∙ sym (sums_same record_at (λ (v : Volume). v.entry.reserved) (λ (r : VolumeRecord). r.reserved) (λ k v. refl) vs
          0)
          ∙ ap (λ es. sum_by (λ (r : VolumeRecord). r.reserved) (map (λ (e : ℕ × VolumeRecord). e.1) es)) h.alike

      -- so they are the volumes of a meaning
      pub are_volumes : (seq : ℕ) → seq < 2 ^ 32 → AreVolumes s seq vs
      are_volumes seq narrow = record {
        sorted = sorted;
        meaning = record {
          image_seq = narrow;
          each = each_volume;
          names = λ i j v w e f same. records.apart i j v.entry w.entry (volume_at i v e).0 (volume_at j w f).0 same;
          space = (let sum = reserved in let most = room in omega arith);
        };
      }

      -- which is that of eraseblocks whose volumes read so
      pub volumes_mean : (bs : List (List ℕ)) → ((id : ℕ) (r : VolumeRecord) (c : Content) → Has id r c
          → VolumeReads s bs id r c) → (seq : ℕ) → seq ≡ image_seq s bs → seq < 2 ^ 32
          → Means s bs t (record { sizes = s; image_seq = seq; volumes = from_entries vs })
      volumes_mean bs reads seq is_seq narrow = record {
        sizes = refl;
        image_seq = is_seq;
        meaning = (are_volumes seq narrow).meaning;
        slots = slot_means bs reads;
      }

-- what the volumes of an image's table read is its meaning
pub contents_mean : (s : Sizes) (bs : List (List ℕ)) (t : Records) → IsTable s bs t → IsGeometry s → (vs : List Item)
    → AreContents (ContentIs s bs) (finite.entries t.of) vs → (seq : ℕ) → seq ≡ image_seq s bs → seq < 2 ^ 32
    → Means s bs t (record { sizes = s; image_seq = seq; volumes = from_entries vs })
contents_mean s bs t is g vs h =
    let of = table_records s bs t is in
    volumes_mean (ContentIs s bs) s t vs h of.0 of.1 room (λ id r c k. (k.fits, k.kept)) bs (λ id r c k. k.reads)
  where
    room : HasSpace s t
    room = elim is [ inl none ↦ subst (HasSpace s) (sym none.1) (no_space s g) | inr some ↦ some.2 ]

-- an entry of a table at a place is what the table has at its number
pub listed_at : (t : Records) (i : ℕ) (d : ℕ × VolumeRecord) → i < length (finite.entries t.of)
    → finite.get t.of (get_or (finite.entries t.of) i d).0 ≡ Some (get_or (finite.entries t.of) i d).1
listed_at t i d h = finite.get-entries t.of _
    ∙ find_at nat_cmp_total (finite.entries t.of) i d (finite.entries_sorted t.of) h

-- and so is an item of the slice that a table gives
pub listed_item : (t : Records) (es : List (ℕ × VolumeRecord)) (i : ℕ) (e : ℕ × VolumeRecord) → es ≡ finite.entries t.of
    → i < length es → e ≡ get_or es i e → finite.get t.of e.0 ≡ Some e.1
listed_item t es i e same inside is =
    let here : e ≡ get_or (finite.entries t.of) i e = is ∙ ap (λ xs. get_or xs i e) same in
    subst (λ (x : ℕ × VolumeRecord). finite.get t.of x.0 ≡ Some x.1) (sym here)
    (listed_at t i e (omega (arith, ap length same, inside)))
