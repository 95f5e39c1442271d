-- The size that a file plainly has, if it has one.
use Rattle.ubi_detect.proofs.Prelude.{◌≡◌, ◌≢◌, ℕ, ◌+◌, ◌-◌, ◌*◌, ◌/◌, ◌%◌, ◌<◌, ◌≤◌, List, length, inl, inr, ap, sym, ◌∙◌, arith, None, Some, min, add-mod_left, mod-add-div', mod-eq_of_lt, mod_self, mul-le-mul_right, mul-mod_left, none-some, below_same_or_above, greatest_size, key_at, step, IsPlain, Group, Key, IsFirstHead, IsPlainSize, NoHeads, NotPlain}

zero_mod : (q : ℕ) → 1 ≤ q → 0 % q ≡ 0
zero_mod q some = mod-eq_of_lt (omega (arith, some))

module _ (bytes : List ℕ) (g : Group) (plain : IsPlain bytes g) where
  -- two eraseblocks and more fit
  two_fit : 2 * g.size ≤ length bytes
  two_fit =
      let e : 2 * g.size ≤ g.count * g.size = mul-le-mul_right g.size plain.two in
      let f = plain.count in omega (arith, e, f)

  -- the unit in which the second one starts with a header
  pub second : (k : Key) × (key_at bytes (g.size / step * step) ≡ Some k)
  second =
      let h = plain.each 1 plain.two in
      let e : g.size / step * step ≡ 1 * g.size = (let f = mod-add-div' g.size step in let u = plain.units in omega (arith, f, u)) in
      (h.0, ap (key_at bytes) e ∙ h.1)

  whole_mod : length bytes % g.size ≡ 0
  whole_mod = ap (λ n. n % g.size) (sym plain.count) ∙ mul-mod_left g.count g.size

  unit_some : 1 ≤ g.size / step
  unit_some = let e = plain.units in let f = plain.from in omega (arith, e, f)

  unit_is : g.size / step * step ≡ g.size
  unit_is = let e = plain.units in omega (arith, e)

  -- where no header stands up to half of the file it isn't plain
  pub no_second : (m : ℕ) → min (length bytes / 2) greatest_size / step < m → NoHeads bytes 1 m → ⊥
  no_second m most none =
      let t = two_fit in
      let to = plain.to in
      let s = second in
      none-some s.0 (sym (none (g.size / step) unit_some (omega (arith, most, t, to))) ∙ s.1)

  -- and where one stands first its size is that
  pub first_size : (u m : ℕ) → IsFirstHead bytes 1 m u → g.size ≡ u * step
  first_size u m is = elim (below_same_or_above (g.size / step) u) [
    | inl less ↦ absurd (let s = second in none-some s.0 (sym (is.before (g.size / step) unit_some less) ∙ s.1))
    | inr w ↦ elim w [
      | inl same ↦ sym unit_is ∙ ap (λ v. v * step) same
      | inr more ↦ absurd (let i = unit_is in
          let low = is.low in
          let under : u * step < g.size = omega (arith, more, i) in
          none-some is.has.0 (sym (plain.alone u (omega (arith, under))
          (λ e. let f = sym (mod-eq_of_lt under) ∙ e in omega (arith, f, low))) ∙ is.has.1))
    ]
  ]

module _ (bytes : List ℕ) (u m : ℕ) (is : IsFirstHead bytes 1 m u) where
  pub not_whole : length bytes % (u * step) ≢ 0 → NotPlain bytes
  not_whole ne g plain = ne (ap (λ q. length bytes % q) (sym (first_size bytes g plain u m is)) ∙ whole_mod bytes g plain)

  pub not_alone : (v : ℕ) → IsFirstHead bytes (u + 1) (2 * u) v → NotPlain bytes
  not_alone v other g plain =
      let size = first_size bytes g plain u m is in
      let low = other.low in
      let high = other.high in
      let rest : v * step ≡ g.size + (v * step - g.size) = omega (arith, size, low) in
      let small : v * step - g.size < g.size = omega (arith, size, low, high) in
      none-some other.has.0 (sym (plain.alone v (omega (arith, size, high))
      (λ e. let f = sym (ap (λ n. n % g.size) rest ∙ add-mod_left g.size (v * step - g.size) ∙ mod-eq_of_lt small) ∙ e in
      omega (arith, f, size, low))) ∙ other.has.1)

  module _ (whole : length bytes % (u * step) ≡ 0) (most : m ≤ min (length bytes / 2) greatest_size / step + 1)
      (none : NoHeads bytes (u + 1) (2 * u)) where
    some : 1 ≤ u * step
    some = let l = is.low in omega (arith, l)

    nothing : (v : ℕ) → v * step < 2 * (u * step) → (v * step) % (u * step) ≢ 0 → key_at bytes (v * step) ≡ None
    nothing v below ne = elim (below_same_or_above v u) [
      | inl less ↦ elim (below_same_or_above 0 v) [
        | inl more ↦ is.before v more less
        | inr w ↦ elim w [
          | inl zero ↦ absurd (ne (ap (λ x. (x * step) % (u * step)) (sym zero) ∙ ap (λ x. x % (u * step)) (omega arith) ∙ zero_mod (u * step) some))
          | inr under ↦ absurd (omega (arith, under))
        ]
      ]
      | inr w ↦ elim w [
        | inl same ↦ absurd (ne (ap (λ x. (x * step) % (u * step)) same ∙ mod_self (u * step)))
        | inr more ↦ none v (omega (arith, more)) (omega (arith, below))
      ]
    ]

    pub plain_size_is : IsPlainSize bytes (u * step)
    plain_size_is =
        let high = is.high in
        record {
          from = some;
          to = omega (arith, high, most);
          units = omega arith;
          two = omega (arith, high, most);
          whole = whole;
          alone = nothing;
          one = λ g plain. first_size bytes g plain u m is;
        }
