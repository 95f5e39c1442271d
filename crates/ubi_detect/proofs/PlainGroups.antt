-- The group of a file that is plainly an image.
use Rattle.ubi_detect.proofs.Prelude.{◌≡◌, ℕ, ◌+◌, ◌-◌, ◌*◌, ◌/◌, ◌%◌, ◌<◌, ◌≤◌, List, length, refl, ap, sym, ◌∙◌, subst, arith, None, le-div_iff_mul-le, lt_of_mul-lt-mul_right, mod-add-div', mul-le-mul_right, none-some, key_at, step, IsPlain, Group, Key, AreJoined, HasHeadOf, IsPlainSize, NoneJoined, NotPlain}

-- a plain file has a header at its beginning, and isn't shorter than two
pub long_enough : (bytes : List ℕ) → length bytes < 2 * step → NotPlain bytes
long_enough bytes short g plain =
    let e : 2 * g.size ≤ g.count * g.size = mul-le-mul_right g.size plain.two in
    let f = plain.count in
    let u = plain.units in
    let s = plain.from in omega (arith, short, e, f, u, s)

next_mul : (k q : ℕ) → (k + 1) * q ≡ k * q + q
next_mul k q = grind arith

zero_times : (q : ℕ) → 0 * q ≡ 0
zero_times q = omega arith

pub has_first : (bytes : List ℕ) → key_at bytes 0 ≡ None → NotPlain bytes
has_first bytes none g plain =
    let h = plain.each 0 (let t = plain.two in omega (arith, t)) in
    none-some h.0 (sym none ∙ sym (ap (key_at bytes) (zero_times g.size)) ∙ h.1)

module _ (bytes : List ℕ) (n q : ℕ) (sized : length bytes ≡ n) (is : IsPlainSize bytes q) where
  count_is : n / q * q ≡ n
  count_is = let e = mod-add-div' n q in let f = ap (λ m. m % q) (sym sized) ∙ is.whole in omega (arith, e, f)

  fits : q ≤ n
  fits = let t = is.two in omega (arith, t, sized)

  last_is : n - q + q ≡ length bytes
  last_is = let f = fits in omega (arith, f, sized)

  two_is : 2 ≤ n / q
  two_is = (le-div_iff_mul-le is.from).1 (let t = is.two in omega (arith, t, sized))

  pub plain_group : (k : Key) → AreJoined bytes q (n / q) k
      → IsPlain bytes (record { key = k; first = 0; last = n - q; count = n / q; size = q })
  plain_group k are = record {
    first = refl;
    last = last_is;
    count = count_is ∙ sym sized;
    two = two_is;
    from = is.from;
    to = is.to;
    units = is.units;
    each = are.each;
    named = (let h = are.named in (h.0, h.1, h.2, h.3, h.5));
    alone = is.alone;
  }

  -- a plain group has as many eraseblocks
  below_count : (g : Group) → IsPlain bytes g → (i : ℕ) → i < n / q → i < g.count
  below_count g plain i below =
      let size = is.one g plain in
      let all : (i + 1) * q ≤ n / q * q = mul-le-mul_right q (omega (arith, below)) in
      let count : g.count * q ≡ n = ap (λ s. g.count * s) (sym size) ∙ plain.count ∙ sized in
      let c = count_is in
      let less : i * q < g.count * q = (let f = is.from in let m = next_mul i q in omega (arith, all, count, c, f, m)) in
      lt_of_mul-lt-mul_right q less

  pub no_group : NoneJoined bytes q (n / q) → NotPlain bytes
  no_group none g plain = none g.key (λ i below.
      let size = is.one g plain in
      let P : ℕ → Type 0 = λ s. HasHeadOf bytes g.key (i * s) in
      subst P size (plain.each i (below_count g plain i below)))
