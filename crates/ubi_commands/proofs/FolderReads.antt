-- The config of an accepted image's volumes is read as their sections.
use Rattle.ubi_commands.proofs.Prelude.{All-map, AllByRecursion, AreKept, AreRecords, AreVolumes, Bool, FolderConfigReads, IsDistinct, IsGeometry, Less, List, Listed, ReadError, Records, Result, Sizes, Some, [], all_described, ap, arith, cond, described, entries, entries_kept, false, few_kept, first_named, get_or, length, listed, map, nat_cmp, nat_cmp-IsAntisymmetric, nat_cmp_total, nat_tests, option_map_or, ranked, records_are, records_of, refl, rising_at, same_bytes, slots, subst, suc, sym, true, twice, volume_len, written_reads, ℕ, ◌<◌, ◌==◌, ◌^◌, ◌∙◌, ◌∷◌, ◌≡◌, None, sound_described}
use Rattle.std.specs.Prelude.{Option}
use Rattle.std.specs.Prelude.{None}
use Rattle.std.specs.FinMap as finite
use Rattle.std.specs.Prelude.{All}

differs : (x y : ℕ) → x < y → (x == y) ≡ false
differs x y less = grind (arith, nat_tests)

by_test : (b : Bool) (rest : Option Listed) (e : Listed) → cond b (Some e) rest ≡ None → (b ≡ false) × (rest ≡ None)
by_test true rest e h = absurd (cc)
by_test false rest e h = (refl, h)

by_next : (o : Option Listed) (rest : Option (ℕ × ℕ)) (id : ℕ)
    → option_map_or (λ (next : Listed). Some (id, next.0)) o rest ≡ None → (o ≡ None) × (rest ≡ None)
by_next None rest id h = (refl, h)
by_next (Some e) rest id h = absurd (cc)

module _ (len : ℕ → Result ℕ ReadError) where
  -- as many as there are records
  count : (es : List Listed) → length (all_described len es) ≡ length es
  count [] = refl
  count (e ∷ es) = ap suc (count es)

  -- their numbers rise, and so differ
  ids_from : (x : ℕ) (es : List Listed) → ((i : ℕ) (d : Listed) → i < length es → x < (get_or es i d).0)
      → AllByRecursion (λ y. (x == y) ≡ false) (map (λ v. v.id) (all_described len es))
  ids_from x [] h = tt
  ids_from x (e ∷ es) h =
      (differs x e.0 (h 0 e (omega arith)), ids_from x es (λ i d inside. h (suc i) d (omega (arith, inside))))

  rises : (e : Listed) (es : List Listed) → ((i j : ℕ) (d : Listed) → i < j → j < length (e ∷ es)
      → (get_or (e ∷ es) i d).0 < (get_or (e ∷ es) j d).0)
      → (i j : ℕ) (d : Listed) → i < j → j < length es → (get_or es i d).0 < (get_or es j d).0
  rises e es h i j d below inside = h (suc i) (suc j) d (omega (arith, below)) (omega (arith, inside))

  ids_differ : (es : List Listed)
      → ((i j : ℕ) (d : Listed) → i < j → j < length es → (get_or es i d).0 < (get_or es j d).0)
      → IsDistinct (λ a b. a == b) (map (λ v. v.id) (all_described len es))
  unfolding IsDistinct
  ids_differ [] h = tt
  ids_differ (e ∷ es) h = (
    ids_from e.0 es (λ i d inside. h 0 (suc i) d (omega arith) (omega (arith, inside))),
    ids_differ es (rises e es h),
  )

  -- no name comes again
  named_none : (name : List ℕ) (es : List Listed) → first_named name es ≡ None
      → AllByRecursion (λ y. same_bytes name y ≡ false) (map (λ v. v.entry.name) (all_described len es))
  named_none name [] h = tt
  named_none name (e ∷ es) h =
      let both = by_test (same_bytes name e.1.name) (first_named name es) e h in
      (both.0, named_none name es both.1)

  names_differ : (es : List Listed) → twice es ≡ None
      → IsDistinct same_bytes (map (λ v. v.entry.name) (all_described len es))
  unfolding IsDistinct
  names_differ [] h = tt
  names_differ (e ∷ es) h =
      let both = by_next (first_named e.1.name es) (twice es) e.0 h in
      (named_none e.1.name es both.0, names_differ es both.1)

  numbers_small : (s : Sizes) (es : List Listed) → All (λ e. e.0 < slots s) es → All (λ v. v.id < 2 ^ 32) (all_described len es)
  numbers_small s es h =
      All-map (λ v. v.id < 2 ^ 32) (λ e. described (len e.0) e) es
      (λ k d within. let small = h k d within in omega (arith, small))

module _ (t : Records) (are : AreRecords t) (len : ℕ → Result ℕ ReadError) (g : IsGeometry t.sizes) where
  again : finite.from_entries {R = nat_cmp} (entries t.of) ≡ t.of
  again =
      finite.same_map nat_cmp_total nat_cmp-IsAntisymmetric (finite.from_entries {R = nat_cmp} (entries t.of)) t.of
      (λ k. finite.get-from_entries nat_cmp_total (entries t.of) k ∙ sym (finite.get-entries t.of k))

  kept : AreKept t.sizes (entries t.of)
  kept =
      entries_kept t.sizes (entries t.of) (finite.entries_sorted t.of)
      (subst (λ of. AreRecords (record { sizes = t.sizes; of = of })) (sym again) are)

  rising : (i j : ℕ) (d : Listed) → i < j → j < length (entries t.of)
      → (get_or (entries t.of) i d).0 < (get_or (entries t.of) j d).0
  rising i j d below inside =
      ranked (get_or (entries t.of) i d).0 (get_or (entries t.of) j d).0 Less
      (sym (rising_at nat_cmp_total (entries t.of) i j d (finite.entries_sorted t.of) below inside))

  pub are_volumes : AreVolumes t.sizes (all_described len (entries t.of))
  are_volumes = record {
    geometry = g;
    few = (let n = count len (entries t.of) in let few = few_kept t.sizes (entries t.of) kept in omega (arith, n, few));
    numbers = numbers_small len t.sizes (entries t.of) kept.slot;
    sound = sound_described len t t.sizes refl are;
    ids = ids_differ len (entries t.of) rising;
    names = names_differ len (entries t.of) kept.once;
  }

pub folder_config_reads : FolderConfigReads
folder_config_reads image m g accepts =
    let means = accepts.accepted.means in
    let sizes : IsGeometry m.sizes = subst IsGeometry (sym means.sizes) g in
    written_reads m.sizes m.image_seq (all_described (volume_len m) (listed m)) means.meaning.image_seq
    (are_volumes (records_of m) (records_are m means.meaning) (volume_len m) sizes)
