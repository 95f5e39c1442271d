-- A header that is added to each of some groups.
use Rattle.ubi_detect.proofs.Prelude.{◌≡◌, ℕ, ◌+◌, ◌*◌, ◌<◌, ◌≤◌, Bool, true, false, cond, List, [], ◌∷◌, ◌++◌, length, take, drop, refl, ap, sym, ◌∙◌, subst, arith, inl, inr, All, ◌==◌, IsFalse, IsTrue, map, slice_index_or, slice_set, append-nil, drop_all, ext_get_or, get_or-map, get_or-set_other, get_or-set_same, length-map, map-append, take_all, All-push, below_or_last, IsGroup, no_key, is_of, keys_of, step, with_key, Group, Head, Key, AreAdded, AreGroups, AreReady, IsAdded, IsWithin, has_key}
use Rattle.ubi_detect.proofs.Grouped.{group_more, keys_more}
use Rattle.ubi_detect.proofs.NewGroups.{any_group}

-- what is written over all elements stands there
pub written : {X : Type 0} (n : ℕ) (xs ys : List X) → length xs ≡ length ys → n ≡ length ys → take n (xs ++ drop (length xs) ys) ≡ xs
written n xs ys e f =
    ap (λ zs. take n (xs ++ zs)) (drop_all (length xs) ys (omega (arith, e))) ∙ ap (take n) (append-nil xs)
    ∙ take_all n xs (omega (arith, e, f))

-- what is written at one place leaves the later ones
pub left_there : {X : Type 0} (xs ys : List X) (i k : ℕ) (x d : X) → i + 1 ≤ k → slice_index_or xs k d ≡ slice_index_or ys k d
    → slice_index_or (slice_set xs i x) k d ≡ slice_index_or ys k d
left_there xs ys i k x d later same = get_or-set_other xs i k x d (λ e. omega (arith, e, later)) ∙ same

module _ (h : Head) (old now : List Group) (i : ℕ) (x : Group) (many : length now ≡ length old) where
  pub added_here : ((k : ℕ) (d : Group) → k < i → k < length old → IsAdded h (slice_index_or old k d) (slice_index_or now k d))
      → ((k : ℕ) (d : Group) → i ≤ k → slice_index_or now k d ≡ slice_index_or old k d)
      → ((d : Group) → IsAdded h (slice_index_or now i d) x)
      → (k : ℕ) (d : Group) → k < i + 1 → k < length old → IsAdded h (slice_index_or old k d) (slice_index_or (slice_set now i x) k d)
  added_here done rest here k d below inside = elim (below_or_last k i below) [
    | inl less ↦ let P : Group → Type 0 = λ g. IsAdded h (slice_index_or old k d) g in
        subst P (sym (get_or-set_other now i k x d (λ e. omega (arith, e, less)))) (done k d less inside)
    | inr same ↦ let P : ℕ → Type 0 = λ j. IsAdded h (slice_index_or old j d) (slice_index_or (slice_set now i x) j d) in
        let Q : Group → Type 0 = λ g. IsAdded h g (slice_index_or (slice_set now i x) i d) in
        let R : Group → Type 0 = λ g. IsAdded h (slice_index_or now i d) g in
        subst P (sym same) (subst Q (rest i d (omega arith))
        (subst R (sym (get_or-set_same now i x d (omega (arith, same, inside, many)))) (here d)))
  ]

first_before : (b : Bool) (p first n : ℕ) → first ≤ n → n ≤ p → cond b p first ≤ p
first_before true p first n e f = omega arith
first_before false p first n e f = omega (arith, e, f)

added_by : (h : Head) (n : ℕ) (old new : Group) → h.place ≡ n * step → IsWithin n old → IsAdded h old new → (b : Bool)
    → is_of old.key h.key ≡ b → IsWithin (n + 1) new
added_by h n old new place is added false e =
    let P : Group → Type 0 = λ g. IsWithin (n + 1) g in
    subst P (sym (added.other e)) (record {
      count = (let f = is.count in omega (arith, f));
      order = is.order;
      last = λ some. (let f = is.last some in omega (arith, f));
      none = (let f = is.none in omega (arith, f));
    })
added_by h n old new place is added true e =
    let last = added.last e in
    let first = added.first e in
    let order = is.order in
    let none = is.none in
    record {
      count = (let f = added.count e in let c = is.count in omega (arith, f, c));
      order = (let l = first_before (old.count == 0) h.place old.first (n * step) (omega (arith, order, none)) (omega (arith, place)) in
          omega (arith, first, l, last));
      last = λ some. omega (arith, last, place);
      none = omega (arith, last, place);
    }

added_within : (h : Head) (n : ℕ) (old new : Group) → h.place ≡ n * step → IsWithin n old → IsAdded h old new → IsWithin (n + 1) new
added_within h n old new place is added = added_by h n old new place is added (is_of old.key h.key) refl

-- no group, where one is asked for behind the last one
abbrev pub no_group : Group
no_group = record { key = no_key; first = 0; last = 0; count = 0; size = 0 }

module _ (heads : List Head) (k : Key) (gs : List Group) (are : AreGroups heads gs) where
  keys_if : (b : Bool) → has_key gs k ≡ b → with_key (keys_of heads) k ≡ cond b (keys_of heads) (keys_of heads ++ k ∷ [])
  keys_if b e = ap (λ b. cond b (keys_of heads) (keys_of heads ++ k ∷ [])) (sym (any_group k heads gs are) ∙ e)

  pub ready : IsTrue (has_key gs k) → AreReady heads k gs
  ready has = record { keys = are.keys ∙ sym (keys_if true has); each = are.each }

  pub ready_with : (g : Group) → IsFalse (has_key gs k) → g.key ≡ k → IsGroup heads g → AreReady heads k (gs ++ g ∷ [])
  ready_with g none key is = record {
    keys = map-append (λ f. f.key) gs (g ∷ []) ∙ ap (λ ks. ks ++ g.key ∷ []) are.keys ∙ ap (λ l. keys_of heads ++ l ∷ []) key
        ∙ sym (keys_if false none);
    each = All-push (IsGroup heads) gs g are.each is;
  }

-- so few headers can be counted
pub few_each : (n : ℕ) (gs : List Group) → All (IsWithin n) gs → n < 9223372036854775808 → All (λ g. g.count < 9223372036854775808) gs
few_each n gs all few = λ k d below. let f = (all k d below).count in omega (arith, f, few)

module _ (heads : List Head) (h : Head) (old new : List Group) (added : AreAdded h old new) where
  -- each group keeps its key
  same_keys : map (λ g. g.key) new ≡ map (λ g. g.key) old
  same_keys =
      let n : length (map (λ g. g.key) new) ≡ length new = length-map new (λ (g : Group). g.key) in
      let m : length (map (λ g. g.key) old) ≡ length old = length-map old (λ (g : Group). g.key) in
      ext_get_or no_key _ _ (n ∙ added.many ∙ sym m)
      (λ i below. let inside : i < length old = omega (arith, below, n, added.many) in
      get_or-map (λ g. g.key) new i no_group no_key (omega (arith, inside, added.many)) ∙ (added.each i no_group inside).key
      ∙ sym (get_or-map (λ g. g.key) old i no_group no_key inside))

  -- the groups with one header more
  pub groups_more : AreReady heads h.key old → AreGroups (heads ++ h ∷ []) new
  groups_more are = record {
    keys = same_keys ∙ are.keys ∙ sym (keys_more heads h);
    each = λ k d below. let inside : k < length old = omega (arith, below, added.many) in
        group_more heads h (slice_index_or old k d) (slice_index_or new k d) (are.each k d inside) (added.each k d inside);
  }

-- and where they stand
pub within_more : (h : Head) (old new : List Group) → AreAdded h old new → (n : ℕ) → h.place ≡ n * step → All (IsWithin n) old
    → All (IsWithin (n + 1)) new
within_more h old new added n place all = λ k d below.
    let inside : k < length old = omega (arith, below, added.many) in
    added_within h n (slice_index_or old k d) (slice_index_or new k d) place (all k d inside) (added.each k d inside)
