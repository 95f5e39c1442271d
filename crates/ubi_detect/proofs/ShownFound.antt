-- An image that a file shows is found in it.
use Rattle.ubi_detect.proofs.Prelude.{◌≡◌, ◌≢◌, ℕ, ◌+◌, ◌-◌, ◌*◌, ◌/◌, ◌%◌, ◌<◌, ◌≤◌, List, length, inl, inr, refl, ap, sym, ◌∙◌, subst, arith, None, Option, Some, mul-le-mul_right, mul-mod_left, mod-eq_of_lt, none-some, below_same_or_above, IsFound, greatest_size, key_at, step, IsPlain, IsSurelyPlain, block_at, Group, Key, AreHeadersOf, ImageIsFound, ShowsImage}
use Rattle.ubi_detect.proofs.OnePlain.{next_mul, one_plain}
use Rattle.ubi_detect.proofs.OwnGeometry.{geometry_of_image}
use Rattle.ubi_detect.proofs.PlainOrNot.{surely_or_not}
use Rattle.ubi_detect.proofs.RowKeys.{few_keys, row_image, row_index}
use Rattle.ubi_detect.proofs.RowPlaces.{block_unit}
use Rattle.ubi_detect.proofs.ShownSizes.{own_geometry, shown_sure, some_bytes, vote_there, whole_units}

-- if the file plainly is an image, it is this one
module _ (bytes : List ℕ) (g : Group) (are : AreHeadersOf bytes g) (some : 1 ≤ g.size) (units : g.size % step ≡ 0) (most : g.size ≤ greatest_size)
    (f : Group) (plain : IsPlain bytes f) where
  abbrev n : ℕ
  n = length bytes

  two_blocks : 2 * f.size ≤ n
  two_blocks =
      let m : 2 * f.size ≤ f.count * f.size = mul-le-mul_right f.size plain.two in
      let c = plain.count in omega (arith, m, c)

  -- a header at a multiple of 64 is one of this image
  header_at : (p : ℕ) (k : Key) → p % step ≡ 0 → p + step ≤ n → key_at bytes p ≡ Some k → (i : ℕ) × (i < g.count) × (p ≡ block_at g i)
  header_at p k unit inside here =
      let place : p / step * step ≡ p = omega (arith, unit) in
      let found = are.only (p / step) k (omega (arith, place, inside)) (ap (key_at bytes) place ∙ here) in
      (found.0, found.1, sym place ∙ found.2)

  first_zero : g.first ≡ 0
  first_zero =
      let h = plain.each 0 (let t = plain.two in omega (arith, t)) in
      let e : 0 * f.size ≡ 0 = omega arith in
      let u = plain.units in
      let s = plain.from in
      let t = two_blocks in
      let found = header_at 0 h.0 (omega arith) (omega (arith, u, s, t)) (sym (ap (key_at bytes) e) ∙ h.1) in
      let at = found.2 in omega (arith, at)

  block_is : (i : ℕ) → block_at g i ≡ i * g.size
  block_is i = let z = first_zero in omega (arith, z)

  -- the second eraseblock starts with the second header
  not_more : g.size < f.size → ⊥
  not_more less =
      let h = are.each 1 (let t = are.two in omega (arith, t)) in
      let one : block_at g 1 ≡ g.size = (let b = block_is 1 in omega (arith, b)) in
      let place : g.size / step * step ≡ g.size = omega (arith, units) in
      none-some h.0 (sym (plain.alone (g.size / step) (omega (arith, place, less))
      (λ e. let r = sym (ap (λ x. x % f.size) place ∙ mod-eq_of_lt less) ∙ e in omega (arith, r, some)))
      ∙ ap (key_at bytes) (place ∙ sym one) ∙ h.1)

  not_less : f.size < g.size → ⊥
  not_less less =
      let h = plain.each 1 plain.two in
      let e : 1 * f.size ≡ f.size = omega arith in
      let u = plain.units in
      let s = plain.from in
      let t = two_blocks in
      let found = header_at f.size h.0 u (omega (arith, u, s, t)) (sym (ap (key_at bytes) e) ∙ h.1) in
      let at = found.2 ∙ block_is found.0 in
      elim (below_same_or_above found.0 0) [
        | inl under ↦ omega (arith, under)
        | inr w ↦ elim w [
          | inl zero_block ↦ (let m = ap (λ i. i * g.size) zero_block in
              let z : 0 * g.size ≡ 0 = omega arith in omega (arith, m, z, at, s))
          | inr more ↦ (let m : 1 * g.size ≤ found.0 * g.size = mul-le-mul_right g.size more in omega (arith, m, at, less))
        ]
      ]

  same_size : f.size ≡ g.size
  same_size = elim (below_same_or_above f.size g.size) [
    | inl less ↦ absurd (not_less less)
    | inr w ↦ elim w [ inl same ↦ same | inr more ↦ absurd (not_more more) ]
  ]

  count_size : g.count * g.size ≡ (g.count - 1) * g.size + g.size
  count_size =
      let two = are.two in
      let e : g.count - 1 + 1 ≡ g.count = omega (arith, two) in
      ap (λ c. c * g.size) (sym e) ∙ next_mul (g.count - 1) g.size

  -- the file has as many bytes as the eraseblocks
  at_least : g.count * g.size ≤ n
  at_least =
      let w = are.whole in
      let last = are.last in
      let z = first_zero in
      let c = count_size in omega (arith, w, last, z, c)

  at_most : n ≤ g.count * g.size
  at_most =
      let size = same_size in
      let two = plain.two in
      let all : f.count * g.size ≡ n = ap (λ s. f.count * s) (sym size) ∙ plain.count in
      let e : f.count - 1 + 1 ≡ f.count = omega (arith, two) in
      let split = ap (λ c. c * g.size) (sym e) ∙ next_mul (f.count - 1) g.size in
      let h = plain.each (f.count - 1) (omega (arith, two)) in
      let p : (f.count - 1) * f.size ≡ (f.count - 1) * g.size = ap (λ s. (f.count - 1) * s) size in
      let u : ((f.count - 1) * g.size) % step ≡ 0 = multiple (f.count - 1) in
      let found = header_at ((f.count - 1) * g.size) h.0 u (omega (arith, all, split, units, some)) (sym (ap (key_at bytes) p) ∙ h.1) in
      let at = found.2 ∙ block_is found.0 in
      let below = found.1 in
      let m : (found.0 + 1) * g.size ≤ g.count * g.size = mul-le-mul_right g.size (omega (arith, below)) in
      let next = next_mul found.0 g.size in
      omega (arith, all, split, at, m, next)
    where
      multiple : (i : ℕ) → (i * g.size) % step ≡ 0
      multiple i = let b = block_unit bytes g are some units i in let e = block_is i in omega (arith, b, e)

  as_long : g.count * g.size ≡ n
  as_long = let a = at_least in let b = at_most in omega (arith, a, b)

  alone_by : (u : ℕ) (o : Option Key) → key_at bytes (u * step) ≡ o → u * step < 2 * g.size → (u * step) % g.size ≢ 0 → key_at bytes (u * step) ≡ None
  alone_by u None e less other = e
  alone_by u (Some k) e less other =
      let t = two_blocks in
      let size = same_size in
      let found = are.only u k (omega (arith, less, t, size, units)) e in
      absurd (other (ap (λ x. x % g.size) (found.2 ∙ block_is found.0) ∙ mul-mod_left found.0 g.size))

  plain_too : IsPlain bytes g
  plain_too = record {
    first = first_zero;
    last = (let a = as_long in
        let c = count_size in
        let last = are.last in
        let z = first_zero in omega (arith, a, c, last, z));
    count = as_long;
    two = are.two;
    from = some;
    to = most;
    units = units;
    each = λ i below. let h = are.each i below in (h.0, ap (key_at bytes) (sym (block_is i)) ∙ h.1, h.2);
    named = (let h = are.named in (h.0, g.key, h.1, ap (key_at bytes) (sym (block_is h.0)) ∙ h.2, refl));
    alone = λ u less other. alone_by u (key_at bytes (u * step)) refl less other;
  }

  pub plain_is : f ≡ g
  plain_is = one_plain bytes f g plain plain_too

module _ (bytes : List ℕ) (g : Group) (page : ℕ) (shows : ShowsImage bytes g page) where
  some : 1 ≤ g.size
  some = some_bytes bytes g page shows

  units : g.size % step ≡ 0
  units = whole_units bytes g page shows

  most : g.size ≤ greatest_size
  most = (own_geometry bytes g page shows).peb_to

  shown_found : IsFound bytes g
  shown_found =
      let are = shows.headers in
      let P : Group → Type 0 = λ f. IsSurelyPlain bytes f in
      elim (surely_or_not bytes) [
        | inl plain ↦ inl (subst P (plain_is bytes g are some units most plain.0 plain.1.plain) plain.1)
        | inr none ↦ inr (
          record {
            none = none;
            few = few_keys bytes g are some units;
            index = row_index bytes g are some units most;
            image = row_image bytes g are some units most;
            whole = are.whole;
          },
          shown_sure bytes g page shows,
        )
      ]

pub image_is_found : ImageIsFound
image_is_found bytes g page shows =
    let found = shown_found bytes g page shows in
    let told = geometry_of_image bytes g page found shows.sizes shows.data_offset shows.without (vote_there bytes g page shows) in
    (found, told.0, told.1)
