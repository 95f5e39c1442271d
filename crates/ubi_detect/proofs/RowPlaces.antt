-- Where the headers of a file stand that are those of one image: in a row, and no others.
use Rattle.ubi_detect.proofs.Prelude.{◌≡◌, ℕ, ◌+◌, ◌-◌, ◌*◌, ◌/◌, ◌%◌, ◌<◌, ◌≤◌, List, [], ◌∷◌, ◌++◌, length, zero, suc, inl, inr, refl, ap, sym, ◌∙◌, subst, arith, IsTrue, None, Option, Some, option_map, option_to_list, append-nil, none-some, same_Some, mul-le-mul_right, below_or_last, below_same_or_above, IsGroup, IsSpacing, first_place, last_place, heads_of, heads_to, is_of, key_at, places, step, block_at, Group, Key, mul_assoc, AreHeadersOf}
use Rattle.ubi_detect.proofs.Grouped.{places_with}
use Rattle.ubi_detect.proofs.HeaderRows.{row, row_first, row_last, row_length, row_spacing}
use Rattle.ubi_detect.proofs.OnePlain.{next_mul}
use Rattle.ubi_detect.proofs.Surveyed.{heads_more}

module _ (bytes : List ℕ) (g : Group) (are : AreHeadersOf bytes g) (some : 1 ≤ g.size) (units : g.size % step ≡ 0) where
  -- a size that is whole units is one at least
  pub unit_size : step ≤ g.size
  unit_size = omega (arith, some, units)

  -- an eraseblock begins where a unit does
  pub block_unit : (i : ℕ) → block_at g i % step ≡ 0
  block_unit i =
      let size : g.size / step * step ≡ g.size = omega (arith, units) in
      let many : i * (g.size / step * step) ≡ i * g.size = ap (λ n. i * n) size in
      let turned = mul_assoc i (g.size / step) step in
      let first = are.unit in omega (arith, many, turned, first)

  -- it ends before the next ones, and is all there
  pub block_before : (i j : ℕ) → i < j → block_at g i + g.size ≤ block_at g j
  block_before i j less =
      let m : (i + 1) * g.size ≤ j * g.size = mul-le-mul_right g.size (omega (arith, less)) in
      let n = next_mul i g.size in omega (arith, m, n)

  pub block_whole : (i : ℕ) → i < g.count → block_at g i + g.size ≤ length bytes
  block_whole i below =
      let w = are.whole in
      let last = are.last in
      elim (below_or_last i (g.count - 1) (omega (arith, below))) [
        | inl less ↦ (let b = block_before i (g.count - 1) less in omega (arith, b, w, last))
        | inr same ↦ (let e = ap (λ j. block_at g j) same in omega (arith, e, w, last))
      ]

  -- the headers in the first m units are those of the first c eraseblocks
  record AreSeen (m c : ℕ) : Type 0 where
    few : c ≤ g.count
    before : (i : ℕ) → i < c → block_at g i < m * step
    behind : c < g.count → m * step ≤ block_at g c
    places : places (heads_to bytes m) g.key ≡ row g.first g.size c

  places_by : (m : ℕ) (o : Option Key) → key_at bytes (m * step) ≡ o
      → places (heads_to bytes (m + 1)) g.key
      ≡ places (heads_to bytes m ++ option_to_list (option_map (λ l. record { place = m * step; key = l }) o)) g.key
  places_by m o e =
      ap (λ hs. places hs g.key) (heads_more bytes m)
      ∙ ap (λ x. places (heads_to bytes m ++ option_to_list (option_map (λ l. record { place = m * step; key = l }) x)) g.key) e

  seen_none : (m c : ℕ) → AreSeen m c → key_at bytes (m * step) ≡ None → AreSeen (m + 1) c
  seen_none m c seen none = record {
    few = seen.few;
    before = λ i below. let b = seen.before i below in omega (arith, b);
    behind = λ less.
        let b = seen.behind less in
        let u = block_unit c in
        let h = are.each c less in
        elim (below_same_or_above (m * step) (block_at g c)) [
          | inl under ↦ omega (arith, under, u)
          | inr w ↦ elim w [
            | inl same ↦ absurd (none-some h.0 (sym none ∙ ap (key_at bytes) same ∙ h.1))
            | inr over ↦ absurd (omega (arith, over, b))
          ]
        ];
    places = places_by m None none ∙ ap (λ hs. places hs g.key) (append-nil (heads_to bytes m)) ∙ seen.places;
  }

  -- a header stands where the next eraseblock begins
  module _ (m c : ℕ) (l : Key) (seen : AreSeen m c) (here : key_at bytes (m * step) ≡ Some l) (inside : m * step + step ≤ length bytes) where
    found : (i : ℕ) × (i < g.count) × (m * step ≡ block_at g i)
    found = are.only m l inside here

    turn : c ≡ found.0
    turn =
        let at = found.2 in
        let below = found.1 in
        elim (below_same_or_above c found.0) [
          | inl less ↦ absurd (let b = block_before c found.0 less in
              let w = seen.behind (omega (arith, less, below)) in
              omega (arith, b, w, at, some))
          | inr w ↦ elim w [
            | inl same ↦ same
            | inr more ↦ absurd (let b = seen.before found.0 more in omega (arith, b, at))
          ]
        ]

    inner : c < g.count
    inner = let t = turn in let below = found.1 in omega (arith, t, below)

    place : m * step ≡ block_at g c
    place = found.2 ∙ ap (λ i. block_at g i) (sym turn)

    owned : IsTrue (is_of g.key l)
    owned =
        let h = are.each c inner in
        let P : Key → Type 0 = λ k. IsTrue (is_of g.key k) in
        subst P (same_Some h.0 l (sym h.1 ∙ ap (key_at bytes) (sym place) ∙ here)) h.2

    seen_one : AreSeen (m + 1) (suc c)
    seen_one = record {
      few = (let i = inner in omega (arith, i));
      before = λ i below. let p = place in elim (below_or_last i c (omega (arith, below))) [
        | inl less ↦ (let b = seen.before i less in omega (arith, b))
        | inr same ↦ (let e = ap (λ j. block_at g j) same in omega (arith, e, p))
      ];
      behind = λ less.
          let b = block_before c (suc c) (omega arith) in
          let p = place in
          let s = unit_size in omega (arith, b, p, s);
      places = places_by m (Some l) here ∙ places_with (heads_to bytes m) (record { place = m * step; key = l }) g.key owned
          ∙ ap (λ p. places (heads_to bytes m) g.key ++ p ∷ []) place ∙ ap (λ ps. ps ++ block_at g c ∷ []) seen.places;
    }

  abbrev Seen : ℕ → Type 0
  Seen m = (c : ℕ) × AreSeen m c

  seen_by : (m c : ℕ) (o : Option Key) → AreSeen m c → key_at bytes (m * step) ≡ o → m * step + step ≤ length bytes → Seen (m + 1)
  seen_by m c None seen e inside = (c, seen_none m c seen e)
  seen_by m c (Some l) seen e inside = (suc c, seen_one m c l seen e inside)

  seen_to : (m : ℕ) → m * step ≤ length bytes → Seen m
  seen_to zero few = (
    0,
    record {
      few = omega arith;
      before = λ i below. absurd (omega (arith, below));
      behind = λ less. omega arith;
      places = refl;
    },
  )
  seen_to (suc m) few =
      let e : m + 1 ≡ suc m = omega arith in
      let before = seen_to m (omega (arith, few)) in
      subst Seen e (seen_by m before.0 (key_at bytes (m * step)) before.1 refl (omega (arith, few)))

  all_places : places (heads_of bytes) g.key ≡ row g.first g.size g.count
  all_places =
      let seen = seen_to (length bytes / step) (omega arith) in
      let few = seen.1.few in
      let all : seen.0 ≡ g.count = elim (below_same_or_above seen.0 g.count) [
        | inl less ↦ absurd (let b = seen.1.behind less in
            let w = block_whole seen.0 less in
            let s = unit_size in omega (arith, b, w, s))
        | inr w ↦ elim w [ inl same ↦ same | inr more ↦ absurd (omega (arith, few, more)) ]
      ] in
      seen.1.places ∙ ap (row g.first g.size) all

  -- the group of these headers
  pub row_group : IsGroup (heads_of bytes) g
  row_group =
      let two = are.two in
      let one : 1 ≤ g.count = omega (arith, two) in
      let P : List ℕ → Type 0 = λ ps. IsSpacing ps g.size in
      record {
        first = sym (ap first_place all_places ∙ row_first g.first g.size g.count one);
        last = are.last ∙ sym (ap last_place all_places ∙ row_last g.first g.size g.count one);
        count = sym (ap length all_places ∙ row_length g.first g.size g.count);
        size = subst P (sym all_places) (row_spacing g.first g.size g.count two);
      }
