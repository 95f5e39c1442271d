-- A table with another name in one record, by its entries, and that its records meet the rules.
use Rattle.ubi_table.proofs.Prelude.{◌≡◌, ◌≢◌, ℕ, ◌<◌, ◌==◌, inl, inr, T, true, cond, List, length, map, get_or, refl, ap, sym, ◌∙◌, subst, IsSome, None, Option, Some, option_map, FinMap, from_entries, is_sorted, option_map_or, nat_cmp, cases_eq, same_Some, Sizes, is_name, rec_fault, VolumeRecord, find_at, apart_test, at_itself, at_other, same_test, revalued_is, sorted_revalued, true_is, AreKept, IsFreeName, records_named, with_name, AreRecords, Records, entry_named}
use Rattle.std.specs.Cmp.{nat_cmp_total}
use Rattle.std.specs.FinMap as finite
use Rattle.ubi_table.proofs.NameRules.{sound_named}
use Rattle.ubi_table.proofs.Names.{Entry, apart_once}
use Rattle.ubi_table.proofs.ReadBack.{apart_of}

-- sorted entries whose map meets the rules are what a table keeps
pub entries_kept : (s : Sizes) (es : List Entry) → T (is_sorted nat_cmp es)
    → AreRecords (record { sizes = s; of = from_entries es }) → AreKept s es
entries_kept s es sorted are = record {
  sorted = true_is _ sorted;
  slot = λ i d l. are.slot (get_or es i d).0 (get_or es i d).1 (at i d l);
  sound = λ i d l. are.sound (get_or es i d).0 (get_or es i d).1 (at i d l);
  once = apart_once es (apart_of s es sorted are);
} where
  at : (i : ℕ) (d : Entry) → i < length es
      → finite.get (from_entries {R = nat_cmp} es) (get_or es i d).0 ≡ Some (get_or es i d).1
  at i d l = finite.get-from_entries nat_cmp_total es (get_or es i d).0 ∙ find_at nat_cmp_total es i d sorted l

module _ (id : ℕ) (name : List ℕ) where
  abbrev pub named : List Entry → List Entry
  named es = map (entry_named id name) es

  -- a record is named at one number
  abbrev at_number : ℕ → VolumeRecord → VolumeRecord
  at_number q r = cond (q == id) (with_name r name) r

  no_change : (q : ℕ) → q ≢ id → (o : Option VolumeRecord) → option_map (at_number q) o ≡ o
  no_change q e None = refl
  no_change q e (Some r) = ap (λ b. Some (cond b (with_name r name) r)) (at_other q id e)

  module _ (t : Records) (r : VolumeRecord) (there : finite.get t.of id ≡ Some r) where
    abbrev pub next : Records
    next = record t { of = finite.insert t.of id (with_name r name) }

    pub next-is : records_named t id name ≡ next
    next-is = ap (λ (o : Option VolumeRecord). option_map_or
        (λ (r : VolumeRecord). record t { of = finite.insert t.of id (with_name r name) }) o t) there

    here : finite.get next.of id ≡ Some (with_name r name)
    here = finite.get-insert nat_cmp_total t.of id (with_name r name) id
        ∙ ap (λ b. cond b (Some (with_name r name)) (finite.get t.of id)) (same_test id)

    others : (q : ℕ) → q ≢ id → finite.get next.of q ≡ finite.get t.of q
    others q e = finite.get-insert nat_cmp_total t.of id (with_name r name) q
        ∙ ap (λ b. cond b (Some (with_name r name)) (finite.get t.of q)) (apart_test q id e)

    value_now : (q : ℕ) → finite.get next.of q ≡ option_map (at_number q) (finite.get t.of q)
    value_now q = elim (cases_eq q id) [
      | inl e ↦ subst (λ (k : ℕ). finite.get next.of k ≡ option_map (at_number k) (finite.get t.of k)) (sym e)
          (here ∙ sym (ap (option_map (at_number id)) there
          ∙ ap (λ b. Some (cond b (with_name r name) r)) (at_itself id)))
      | inr e ↦ others q e ∙ sym (no_change q e (finite.get t.of q))
    ]

    named_map : from_entries {R = nat_cmp} (named (finite.entries t.of)) ≡ next.of
    named_map = revalued_is at_number t.of next.of value_now

    module _ (is : is_name name ≡ true) (are : AreRecords t) (free : IsFreeName t id name) where
      -- a record of the one is one of the other
      was : (q : ℕ) (x : VolumeRecord) → finite.get next.of q ≡ Some x
          → (w : VolumeRecord) × (finite.get t.of q ≡ Some w) × (rec_fault t.sizes x ≡ None)
      was q x e = elim (cases_eq q id) [
        | inl k ↦
            let same : x ≡ with_name r name = same_Some x (with_name r name) (sym e
            ∙ ap (λ (j : ℕ). finite.get next.of j) k ∙ here) in (
              r,
              ap (λ (j : ℕ). finite.get t.of j) k
                  ∙ there,
              subst (λ (y : VolumeRecord). rec_fault t.sizes y ≡ None) (sym same)
                  (sound_named t.sizes r name is (are.sound id r there)),
            )
        | inr k ↦ (x, sym (others q k) ∙ e, are.sound q x (sym (others q k) ∙ e))
      ]

      name_now : (x : VolumeRecord) → finite.get next.of id ≡ Some x → x.name ≡ name
      name_now x e = ap (λ (y : VolumeRecord). y.name) (same_Some x (with_name r name) (sym e ∙ here))

      next_records : AreRecords next
      next_records = record {
        slot = λ q x e. (let w = was q x e in are.slot q w.0 w.1);
        sound = λ q x e. (was q x e).2;
        apart = λ i j x y e f same. elim (cases_eq i id) [
          | inl a ↦ elim (cases_eq j id) [
            | inl b ↦ a ∙ sym b
            | inr b ↦ absurd (free j y b (sym (others j b) ∙ f)
                (sym same ∙ name_now x (ap (λ (k : ℕ). finite.get next.of k) (sym a) ∙ e)))
          ]
          | inr a ↦ elim (cases_eq j id) [
            | inl b ↦ absurd (free i x a (sym (others i a) ∙ e)
                (same ∙ name_now y (ap (λ (k : ℕ). finite.get next.of k) (sym b) ∙ f)))
            | inr b ↦ are.apart i j x y (sym (others i a) ∙ e) (sym (others j b) ∙ f) same
          ]
        ];
      }

      pub named_kept : AreKept t.sizes (named (finite.entries t.of))
      named_kept =
          entries_kept t.sizes (named (finite.entries t.of))
          (sorted_revalued at_number t.of)
          (subst (λ (of : FinMap nat_cmp VolumeRecord). AreRecords (record { sizes = t.sizes; of = of }))
          (sym named_map) next_records)

    pub named_entries : record { sizes = t.sizes; of = from_entries (named (finite.entries t.of)) }
        ≡ records_named t id name
    named_entries = ap (λ (of : FinMap nat_cmp VolumeRecord). record { sizes = t.sizes; of = of }) named_map
        ∙ sym next-is

-- a record that is there
pub some_record : (o : Option VolumeRecord) → IsSome o → (r : VolumeRecord) × (o ≡ Some r)
some_record None h = absurd (cc)
some_record (Some r) h = (r, refl)
