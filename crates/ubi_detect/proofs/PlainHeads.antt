-- A file that is plainly an image has headers.
use Rattle.ubi_detect.proofs.Prelude.{◌≡◌, ◌≢◌, ℕ, ◌+◌, ◌*◌, ◌/◌, ◌≤◌, List, [], length, zero, suc, ap, sym, ◌∙◌, arith, cons_option, filter_map, range_with_len, Option, Some, None, option_map, mul-le-mul_right, none-some, head_at, heads_of, heads_to, key_at, step, IsPlain, Group, Key}

cons_some : {X : Type 0} (o : Option X) (x : X) (xs : List X) → o ≡ Some x → cons_option o xs ≢ []
cons_some (Some y) x xs e f = let n = ap length f in omega (arith, n)
cons_some None x xs e f = absurd (none-some x e)

head_zero : (bytes : List ℕ) (n : ℕ) (k : Key) → 1 ≤ n → key_at bytes 0 ≡ Some k → heads_to bytes n ≢ []
head_zero bytes zero k some e = absurd (omega (arith, some))
head_zero bytes (suc n) k some here =
    cons_some (head_at bytes 0) (record { place = 0; key = k }) (filter_map (head_at bytes) (range_with_len (0 + 1) n))
    (ap (option_map (λ key. record { place = 0; key = key })) here)

pub plain_heads : (bytes : List ℕ) (g : Group) → IsPlain bytes g → heads_of bytes ≢ []
plain_heads bytes g plain =
    let h = plain.each 0 (let t = plain.two in omega (arith, t)) in
    let zero_place : 0 * g.size ≡ 0 = omega arith in
    let e : 2 * g.size ≤ g.count * g.size = mul-le-mul_right g.size plain.two in
    let f = plain.count in
    let u = plain.units in
    let s = plain.from in
    head_zero bytes (length bytes / step) h.0 (omega (arith, e, f, u, s)) (sym (ap (key_at bytes) zero_place) ∙ h.1)
