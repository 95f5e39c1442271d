-- The group of a key that no header has named yet.
use Rattle.ubi_detect.proofs.Prelude.{◌≡◌, ℕ, Bool, true, false, cond, List, [], ◌∷◌, ◌++◌, length, refl, ap, sym, ◌∙◌, subst, All, filter, fold, list_any, ◌&&◌, ◌||◌, ◌==◌, IsFalse, IsTrue, None, Some, find, map, and_parts, eqb-true, false≢true, or_parts, true≢false, nat_eq_equiv, All-head, All-tail, list_any-append, list_any_none, none-some, same_Some, none_passes, IsGroup, IsSpacing, first_place, is_of, keys_of, last_place, places, same_key, same_offsets, with_key, Group, Head, Key, AreGroups, IsWithin, group_with, has_key, unnumbered}

or_nothing : (b : Bool) → (b || false) ≡ b
or_nothing true = refl
or_nothing false = refl

or_assoc : (x y z : Bool) → ((x || y) || z) ≡ (x || (y || z))
or_assoc true y z = refl
or_assoc false y z = refl

-- what the test of equal keys says
offsets_equal : (k l m : Key) → IsTrue (same_offsets k l) → same_offsets k m ≡ same_offsets l m
offsets_equal k l m e =
    let both = and_parts _ _ e in
    ap (λ n. (n == m.offsets.vid_offset) && (k.offsets.data_offset == m.offsets.data_offset)) (eqb-true _ _ both.0)
    ∙ ap (λ n. (l.offsets.vid_offset == m.offsets.vid_offset) && (n == m.offsets.data_offset)) (eqb-true _ _ both.1)

same_equal : (k l m : Key) → IsTrue (same_key k l) → same_key k m ≡ same_key l m
same_equal k l m e =
    let both = and_parts _ _ e in
    ap (λ b. b && (k.image_seq == m.image_seq)) (offsets_equal k l m both.0)
    ∙ ap (λ n. same_offsets l m && (n == m.image_seq)) (eqb-true _ _ both.1)

any_equal : (k l : Key) → IsTrue (same_key k l) → (ks : List Key) → list_any (same_key k) ks ≡ list_any (same_key l) ks
any_equal k l e [] = refl
any_equal k l e (m ∷ ks) =
    ap (λ b. b || list_any (same_key k) ks) (same_equal k l m e) ∙ ap (λ b. same_key l m || b) (any_equal k l e ks)

-- with one key more a key is among them, if it was or if it is that
with_more : (k l : Key) (ks : List Key) (b c : Bool) → list_any (same_key l) ks ≡ b → same_key k l ≡ c
    → list_any (same_key k) (with_key ks l) ≡ (list_any (same_key k) ks || c)
with_more k l ks false c e f =
    ap (λ b. list_any (same_key k) (cond b ks (ks ++ l ∷ []))) e ∙ list_any-append (same_key k) ks (l ∷ [])
    ∙ ap (λ b. list_any (same_key k) ks || (b || false)) f ∙ ap (λ b. list_any (same_key k) ks || b) (or_nothing c)
with_more k l ks true true e f =
    ap (λ b. list_any (same_key k) (cond b ks (ks ++ l ∷ []))) e ∙ any_equal k l f ks ∙ e
    ∙ sym (ap (λ b. b || true) (any_equal k l f ks ∙ e))
with_more k l ks true false e f =
    ap (λ b. list_any (same_key k) (cond b ks (ks ++ l ∷ []))) e ∙ sym (or_nothing (list_any (same_key k) ks))

fold_more : (k : Key) (ks ls : List Key) → list_any (same_key k) (fold with_key ks ls) ≡ (list_any (same_key k) ks || list_any (same_key k) ls)
fold_more k ks [] = sym (or_nothing (list_any (same_key k) ks))
fold_more k ks (l ∷ ls) =
    fold_more k (with_key ks l) ls ∙ ap (λ b. b || list_any (same_key k) ls) (with_more k l ks _ _ refl refl)
    ∙ or_assoc (list_any (same_key k) ks) (same_key k l) (list_any (same_key k) ls)

pub any_map : {X Y : Type 0} (p : Y → Bool) (f : X → Y) (xs : List X) → list_any p (map f xs) ≡ list_any (λ x. p (f x)) xs
any_map p f [] = refl
any_map p f (x ∷ xs) = ap (λ b. p (f x) || b) (any_map p f xs)

-- a key is among those of headers just if a header names it
pub any_key : (k : Key) (heads : List Head) → list_any (same_key k) (keys_of heads) ≡ list_any (λ h. same_key k h.key) heads
any_key k heads = fold_more k [] (map (λ h. h.key) heads) ∙ any_map (same_key k) (λ h. h.key) heads

-- and among those of groups just if one of these has it
pub any_group : (k : Key) (heads : List Head) (gs : List Group) → AreGroups heads gs → has_key gs k ≡ list_any (same_key k) (keys_of heads)
any_group k heads gs are = sym (any_map (same_key k) (λ g. g.key) gs) ∙ ap (list_any (same_key k)) are.keys

-- a header that names another key belongs to the group only if it names no number
owned_so : (o a b z : Bool) → o && b ≡ false → a ≡ b → (o && (a || z)) ≡ (o && (z || z))
owned_so false a b z e f = refl
owned_so true a b true e f = ap (λ c. c || true) (f ∙ e)
owned_so true a b false e f = ap (λ c. c || false) (f ∙ e)

module _ (k : Key) where
  owned : (g l : Key) → IsTrue (same_key (unnumbered k) g) → IsFalse (same_key k l) → is_of k l ≡ is_of g l
  owned g l same other =
      let both = and_parts _ _ same in
      let number : 0 ≡ g.image_seq = eqb-true _ _ both.1 in
      owned_so (same_offsets k l) (l.image_seq == k.image_seq) (k.image_seq == l.image_seq) (l.image_seq == 0) other
      (nat_eq_equiv.symm l.image_seq k.image_seq)
      ∙ ap (λ o. o && ((l.image_seq == 0) || (l.image_seq == 0))) (offsets_equal (unnumbered k) g l both.0)
      ∙ ap (λ n. same_offsets g l && ((l.image_seq == n) || (l.image_seq == 0))) number

  -- where no header names the key, the group is that of the headers of its offsets without a number
  places_of : (g : Key) (heads : List Head) → IsTrue (same_key (unnumbered k) g) → IsFalse (list_any (λ h. same_key k h.key) heads)
      → places heads k ≡ places heads g
  places_of g [] same none = refl
  places_of g (h ∷ heads) same none =
      let parts = or_parts _ _ none in
      let e = owned g h.key same parts.0 in
      let rest = places_of g heads same parts.1 in
      head_more (is_of k h.key) (is_of g h.key) e rest
    where
      head_more : (b c : Bool) → b ≡ c → places heads k ≡ places heads g
          → map (λ x. x.place) (cond b (h ∷ filter (λ x. is_of k x.key) heads) (filter (λ x. is_of k x.key) heads))
          ≡ map (λ x. x.place) (cond c (h ∷ filter (λ x. is_of g x.key) heads) (filter (λ x. is_of g x.key) heads))
      head_more true true e rest = ap (λ ps. h.place ∷ ps) rest
      head_more false false e rest = rest
      head_more true false e rest = absurd (true≢false e)
      head_more false true e rest = absurd (false≢true e)

  -- and where none of its offsets names no number either, it has none
  none_so : (o a b z c : Bool) → o && b ≡ false → a ≡ b → o && c ≡ false → c ≡ z → o && (a || z) ≡ false
  none_so false a b z c e f g h = refl
  none_so true a b z c e f g h = ap (λ x. x || z) (f ∙ e) ∙ sym h ∙ g

  not_owned : (l : Key) → IsFalse (same_key k l) → IsFalse (same_key (unnumbered k) l) → is_of k l ≡ false
  not_owned l one other =
      none_so (same_offsets k l) (l.image_seq == k.image_seq) (k.image_seq == l.image_seq) (l.image_seq == 0) (0 == l.image_seq) one
      (nat_eq_equiv.symm l.image_seq k.image_seq) other (nat_eq_equiv.symm 0 l.image_seq)

  no_places : (heads : List Head) → IsFalse (list_any (λ h. same_key k h.key) heads)
      → IsFalse (list_any (λ h. same_key (unnumbered k) h.key) heads) → places heads k ≡ []
  no_places [] one other = refl
  no_places (h ∷ heads) one other =
      let here = or_parts _ _ one in
      let also = or_parts _ _ other in
      ap (λ b. map (λ x. x.place) (cond b (h ∷ filter (λ x. is_of k x.key) heads) (filter (λ x. is_of k x.key) heads)))
      (not_owned h.key here.0 also.0)
      ∙ no_places heads here.1 also.1

-- what is found passes the test, and is one of them
found_one : {X : Type 0} (p : X → Bool) (P : X → Type 0) (xs : List X) (x : X) → All P xs → find p xs ≡ Some x → IsTrue (p x) × P x
found_one {X} p P [] x all e = absurd (none-some x e)
found_one {X} p P (y ∷ xs) x all e = found_here (p y) refl e (λ f. found_one p P xs x (All-tail P y xs all) f)
  where
    found_here : (b : Bool) → p y ≡ b → cond b (Some y) (find p xs) ≡ Some x → (find p xs ≡ Some x → IsTrue (p x) × P x)
        → IsTrue (p x) × P x
    found_here true f g later =
        let same : y ≡ x = same_Some y x g in
        let Q : X → Type 0 = λ z. IsTrue (p z) × P z in subst Q same (f, All-head P y xs all)
    found_here false f g later = later g

pub found_within : (n : ℕ) (k : Key) (gs : List Group) (g : Group) → All (IsWithin n) gs → group_with gs k ≡ Some g → IsWithin n g
found_within n k gs g all e = (found_one (λ f. same_key k f.key) (IsWithin n) gs g all e).1

module _ (heads : List Head) (gs : List Group) (k : Key) (are : AreGroups heads gs) (none : IsFalse (has_key gs k)) where
  unnamed : IsFalse (list_any (λ h. same_key k h.key) heads)
  unnamed = sym (any_key k heads) ∙ sym (any_group k heads gs are) ∙ none

  abbrev Is : Group → List ℕ → Type 0
  Is g ps = (g.first ≡ first_place ps) × (g.last ≡ last_place ps) × (g.count ≡ length ps) × IsSpacing ps g.size

  same_group : (g : Group) (ps : List ℕ) → places heads k ≡ ps → Is g ps → IsGroup heads (record g { key = k })
  same_group g ps e is =
      let all = subst (Is g) (sym e) is in record { first = all.0; last = all.1; count = all.2; size = all.3 }

  pub group_of_unnumbered : (g : Group) → group_with gs (unnumbered k) ≡ Some g → IsGroup heads (record g { key = k })
  group_of_unnumbered g e =
      let found = found_one (λ f. same_key (unnumbered k) f.key) (IsGroup heads) gs g are.each e in
      let is = found.1 in
      same_group g (places heads g.key) (places_of k g.key heads found.0 unnamed) (is.first, is.last, is.count, is.size)

  pub group_of_none : (g : Group) → g.key ≡ k → IsGroup [] g → group_with gs (unnumbered k) ≡ None → IsGroup heads g
  group_of_none g key is e =
      let fails = none_passes (λ f. same_key (unnumbered k) f.key) gs e in
      let other = sym (any_key (unnumbered k) heads) ∙ sym (any_group (unnumbered k) heads gs are)
      ∙ list_any_none (λ f. same_key (unnumbered k) f.key) gs fails in
      let P : Key → Type 0 = λ l. Is g (places heads l) in
      let all = subst P (sym key) (subst (Is g) (sym (no_places k heads unnamed other)) (is.first, is.last, is.count, is.size)) in
      record { first = all.0; last = all.1; count = all.2; size = all.3 }
