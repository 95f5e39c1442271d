-- The map of a draft as a finite map, and what holds of its records.
use Rattle.ubi_table.proofs.Prelude.{◌≡◌, ℕ, zero, suc, ◌++◌, ◌+◌, ◌<◌, ◌≤◌, Bool, true, false, cond, T, List, [], ◌∷◌, length, take, take_all, get_or, refl, ap, sym, ◌∙◌, subst, arith, nat_tests, None, Option, Some, All, is_sorted, below_all, eq_by_cmp, eq_by_cmp_equiv, from_entries, is_eq, nat_cmp, nat_cmp_total, nat_cmp-IsAntisymmetric, nat_lt, ordering_reverse, same_Some, same_test, apart_test, cases_eq, cases_lt, inl, inr, AreKept, Sizes, slots, rec_fault, VolumeRecord, twice, both_are, both_left, both_right, true_is, find_at, rising_at, get_tree, sorted_entries, Less, Records, BTreeMap, AreDrafted, IsHeld, with_record, without_record}
use Rattle.std.specs.BTreeMap as tree
use Rattle.std.specs.FinMap as finite
use Rattle.std.specs.FinMap.Entries.{find-append}
use Rattle.ubi_table.proofs.Names.{Entry}
use Rattle.ubi_table.proofs.ReadEntries.{less}

-- a removal
pub remove_tree : (m n : BTreeMap ℕ VolumeRecord) (k : ℕ) → tree.Updates nat_cmp m n k None
    → from_entries {R = nat_cmp} n.entries ≡ finite.remove (from_entries {R = nat_cmp} m.entries) k
remove_tree m n k u = finite.same_map nat_cmp_total nat_cmp-IsAntisymmetric _ _ (λ q.
    get_tree nat_cmp_total n q ∙ u.0 q
    ∙ ap (λ b. cond b None (tree.get nat_cmp m q)) ((eq_by_cmp_equiv nat_cmp_total).symm k q)
    ∙ ap (cond (eq_by_cmp nat_cmp q k) None) (sym (get_tree nat_cmp_total m q))
    ∙ sym (finite.get-remove nat_cmp_total _ k q))

-- a record that is set keeps the rules
pub set_drafted : (t : Records) (id : ℕ) (r : VolumeRecord) → id < slots t.sizes → rec_fault t.sizes r ≡ None → AreDrafted t
    → AreDrafted (with_record t id r)
set_drafted t id r slot sound old = record {
  slot = λ i x e. elim (cases_eq i id) [
    | inl same ↦ subst (λ n. n < slots t.sizes) (sym same) slot
    | inr other ↦ old.slot i x (sym (was i other) ∙ e)
  ];
  sound = λ i x e. elim (cases_eq i id) [
    | inl same ↦ subst (λ y. rec_fault t.sizes y ≡ None) (same_Some r x (sym (now i same) ∙ e)) sound
    | inr other ↦ old.sound i x (sym (was i other) ∙ e)
  ];
} where
  now : (i : ℕ) → i ≡ id → finite.get (finite.insert t.of id r) i ≡ Some r
  now i same = finite.get-insert nat_cmp_total t.of id r i
      ∙ ap (λ b. cond b (Some r) (finite.get t.of i)) (ap (λ (k : ℕ). eq_by_cmp nat_cmp k id) same ∙ same_test id)

  was : (i : ℕ) → (i ≡ id → ⊥) → finite.get (finite.insert t.of id r) i ≡ finite.get t.of i
  was i other = finite.get-insert nat_cmp_total t.of id r i
      ∙ ap (λ b. cond b (Some r) (finite.get t.of i)) (apart_test i id other)

-- what is left keeps them
pub removed_drafted : (t : Records) (id : ℕ) → AreDrafted t → AreDrafted (without_record t id)
removed_drafted t id old = record {
  slot = λ i x e. old.slot i x (stays (eq_by_cmp nat_cmp i id) x (sym (finite.get-remove nat_cmp_total t.of id i) ∙ e));
  sound = λ i x e. old.sound i x (stays (eq_by_cmp nat_cmp i id) x (sym (finite.get-remove nat_cmp_total t.of id i) ∙ e));
} where
  stays : {o : Option VolumeRecord} (b : Bool) (x : VolumeRecord) → cond b None o ≡ Some x → o ≡ Some x
  stays true x e = absurd (cc)
  stays false x e = e

-- the number of an entry isn't among those before it
pub none_before : (es : List Entry) (i : ℕ) (d : Entry) → T (is_sorted nat_cmp es) → i < length es
    → finite.find nat_cmp (get_or es i d).0 (take i es) ≡ None
none_before [] i d s l = absurd (omega arith)
none_before (e ∷ es) zero d s l = refl
none_before (e ∷ es) (suc i) d s l =
    let x = (get_or es i d).0 in
    let below : nat_cmp e.0 x ≡ Less = rising_at nat_cmp_total (e ∷ es) 0 (suc i) d s (omega arith) l in
    ap (λ r. cond (is_eq r) (Some e.1) (finite.find nat_cmp x (take i es)))
    (nat_cmp_total.antisymm x e.0 ∙ ap ordering_reverse below)
    ∙ none_before es i d (both_right _ _ s) (omega arith)

-- the entries of a map below a slot, in order
pub record AreBelow (m : BTreeMap ℕ VolumeRecord) (slot : ℕ) (es : List Entry) : Type 0 where
  pub sorted : T (is_sorted nat_cmp es)
  pub below : All (λ (e : Entry). e.0 < slot) es
  pub found : (q : ℕ) → finite.find nat_cmp q es ≡ cond (nat_lt q slot) (tree.get nat_cmp m q) None

behind_all : (x : ℕ) (es : List Entry) (k : ℕ) (v : VolumeRecord) → x < k → T (below_all nat_cmp x es)
    → T (below_all nat_cmp x (es ++ (k, v) ∷ []))
behind_all x [] k v l h = both_are _ _ (less x k l) tt
behind_all x (e ∷ es) k v l h = both_are _ _ (both_left _ _ h) (behind_all x es k v l (both_right _ _ h))

pushed_sorted : (es : List Entry) (k : ℕ) (v : VolumeRecord) → All (λ (e : Entry). e.0 < k) es → T (is_sorted nat_cmp es)
    → T (is_sorted nat_cmp (es ++ (k, v) ∷ []))
pushed_sorted [] k v l h = tt
pushed_sorted (e ∷ es) k v l h =
    both_are _ _ (behind_all e.0 es k v (l 0 e (omega arith)) (both_left _ _ h))
    (pushed_sorted es k v (λ i d j. l (suc i) d (omega arith)) (both_right _ _ h))

pushed_all : (P : Entry → Type 0) (es : List Entry) (x : Entry) → All P es → P x → All P (es ++ x ∷ [])
pushed_all P [] x all p zero d l = p
pushed_all P [] x all p (suc i) d l = absurd (omega arith)
pushed_all P (e ∷ es) x all p zero d l = all 0 d (omega arith)
pushed_all P (e ∷ es) x all p (suc i) d l = pushed_all P es x (λ j c k. all (suc j) c (omega arith)) p i d (omega arith)

-- before the first slot there are none
pub none_below : (m : BTreeMap ℕ VolumeRecord) (es : List Entry) → es ≡ [] → AreBelow m 0 es
none_below m es is = subst (λ (x : List Entry). AreBelow m 0 x) (sym is) (record {
  sorted = tt;
  below = λ i d l. absurd (omega arith);
  found = λ q. (let b : nat_lt q 0 ≡ false = grind (arith, nat_tests) in sym (ap (λ b. cond b (tree.get nat_cmp m q) None) b));
})

-- the records of a table are what is made of its entries
pub made_again : (t : Records) (es : List Entry) (i : ℕ) → es ≡ finite.entries t.of → length es ≤ i
    → from_entries {R = nat_cmp} (take i es) ≡ t.of
made_again t es i e l =
    ap (λ (x : List Entry). from_entries {R = nat_cmp} x) (take_all i es l ∙ e)
    ∙ finite.same_map nat_cmp_total nat_cmp-IsAntisymmetric _ _ (λ q.
    finite.get-from_entries nat_cmp_total (finite.entries t.of) q ∙ sym (finite.get-entries t.of q))

module _ (m : BTreeMap ℕ VolumeRecord) (slot : ℕ) (es : List Entry) (h : AreBelow m slot es) where
  other_slot : (q : ℕ) → (q ≡ slot → ⊥) → nat_lt q slot ≡ nat_lt q (slot + 1)
  other_slot q other = elim (cases_lt q slot) [
    | inl l ↦ (let a : nat_lt q slot ≡ true = grind (arith, nat_tests, l) in
        let b : nat_lt q (slot + 1) ≡ true = grind (arith, nat_tests, l) in a ∙ sym b)
    | inr g ↦ elim (cases_eq q slot) [
      | inl same ↦ absurd (other same)
      | inr apart ↦ (let a : nat_lt q slot ≡ false = grind (arith, nat_tests, g) in
          let b : nat_lt q (slot + 1) ≡ false = grind (arith, nat_tests, g, apart) in a ∙ sym b)
    ]
  ]

  same_slot : (nat_lt slot slot ≡ false) × (nat_lt slot (slot + 1) ≡ true)
  same_slot = (grind (arith, nat_tests), grind (arith, nat_tests))

  abbrev here : Bool → ℕ → Option VolumeRecord
  here b q = cond b (tree.get nat_cmp m q) None

  wider : tree.get nat_cmp m slot ≡ None → (q : ℕ) → here (nat_lt q slot) q ≡ here (nat_lt q (slot + 1)) q
  wider none q = elim (cases_eq q slot) [
    | inl same ↦ subst (λ (n : ℕ). here (nat_lt n slot) n ≡ here (nat_lt n (slot + 1)) n) (sym same)
        (ap (λ b. here b slot) same_slot.0 ∙ sym (ap (λ b. here b slot) same_slot.1 ∙ none))
    | inr other ↦ ap (λ b. here b q) (other_slot q other)
  ]

  -- a slot without a record
  pub below_none : tree.get nat_cmp m slot ≡ None → AreBelow m (slot + 1) es
  below_none none = record {
    sorted = h.sorted;
    below = λ i d l. (let k = h.below i d l in omega arith);
    found = λ q. h.found q ∙ wider none q;
  }

  -- and one with a record
  pub below_some : (v : VolumeRecord) → tree.get nat_cmp m slot ≡ Some v → AreBelow m (slot + 1) (es ++ (slot, v) ∷ [])
  below_some v some = record {
    sorted = pushed_sorted es slot v h.below h.sorted;
    below = pushed_all (λ (e : Entry). e.0 < slot + 1) es (slot, v) (λ i d l. (let k = h.below i d l in omega arith)) (omega arith);
    found = λ q. find-append nat_cmp nat_cmp_total es slot v q (h.found slot ∙ ap (λ b. here b slot) same_slot.0) ∙ by_place q;
  } where
    by_place : (q : ℕ) → cond (eq_by_cmp nat_cmp q slot) (Some v) (finite.find nat_cmp q es) ≡ here (nat_lt q (slot + 1)) q
    by_place q = elim (cases_eq q slot) [
      | inl same ↦ subst (λ (n : ℕ). cond (eq_by_cmp nat_cmp n slot) (Some v) (finite.find nat_cmp n es) ≡ here (nat_lt n (slot + 1)) n)
          (sym same) (ap (λ b. cond b (Some v) (finite.find nat_cmp slot es)) (same_test slot)
          ∙ sym (ap (λ b. here b slot) same_slot.1 ∙ some))
      | inr other ↦ ap (λ b. cond b (Some v) (finite.find nat_cmp q es)) (apart_test q slot other)
          ∙ h.found q ∙ ap (λ b. here b q) (other_slot q other)
    ]

-- the entries below the last slot are all of them
module _ (s : Sizes) (m : BTreeMap ℕ VolumeRecord) (held : IsHeld s m) (slot : ℕ) (all : slots s ≤ slot) (es : List Entry)
    (h : AreBelow m slot es) where
  found_is : (q : ℕ) → finite.find nat_cmp q es ≡ tree.get nat_cmp m q
  found_is q = by (tree.get nat_cmp m q) refl
    where
      by : (o : Option VolumeRecord) → tree.get nat_cmp m q ≡ o → finite.find nat_cmp q es ≡ tree.get nat_cmp m q
      by None e = h.found q ∙ none (nat_lt q slot)
        where
          none : (b : Bool) → cond b (tree.get nat_cmp m q) None ≡ tree.get nat_cmp m q
          none true = refl
          none false = sym e
      by (Some r) e =
          let below = held.drafted.slot q r (get_tree nat_cmp_total m q ∙ e) in
          let is : nat_lt q slot ≡ true = grind (arith, nat_tests, below, all) in
          h.found q ∙ ap (λ b. cond b (tree.get nat_cmp m q) None) is

  pub listed_of : from_entries {R = nat_cmp} es ≡ from_entries {R = nat_cmp} m.entries
  listed_of = finite.same_map nat_cmp_total nat_cmp-IsAntisymmetric _ _ (λ q.
      finite.get-from_entries nat_cmp_total es q ∙ found_is q ∙ sym (get_tree nat_cmp_total m q))

  pub listed_entries : finite.entries (from_entries {R = nat_cmp} m.entries) ≡ es
  listed_entries = ap finite.entries (sym listed_of) ∙ sorted_entries es (true_is _ h.sorted)

  -- they are what a table keeps, if no name comes twice
  pub listed_kept : twice es ≡ None → AreKept s es
  listed_kept once =
      let there = λ (i : ℕ) (d : Entry) (l : i < length es).
      get_tree nat_cmp_total m (get_or es i d).0 ∙ sym (found_is (get_or es i d).0)
      ∙ find_at nat_cmp_total es i d h.sorted l in
      record {
        sorted = true_is _ h.sorted;
        slot = λ i d l. held.drafted.slot (get_or es i d).0 (get_or es i d).1 (there i d l);
        sound = λ i d l. held.drafted.sound (get_or es i d).0 (get_or es i d).1 (there i d l);
        once = once;
      }
