-- More headers name no fewer keys.
use Rattle.ubi_detect.proofs.Prelude.{◌≡◌, ℕ, ◌+◌, ◌-◌, ◌*◌, ◌≤◌, Bool, true, false, cond, List, [], ◌∷◌, ◌++◌, length, zero, suc, ap, sym, ◌∙◌, subst, arith, length-append, fold, list_any, map, length-map, map-append, fold-append, heads_to, keys_of, same_key, step, with_key, Group, Head, Key, AreGroups, head_in}
use Rattle.std.specs.Prelude.{slice_range}
use Rattle.ubi_detect.proofs.Surveyed.{heads_more}

longer_if : (b : Bool) (ks : List Key) (k : Key) → length ks ≤ length (cond b ks (ks ++ k ∷ []))
longer_if true ks k = omega arith
longer_if false ks k = (let n = length-append ks (k ∷ []) in omega (arith, n))

fold_longer : (ks ls : List Key) → length ks ≤ length (fold with_key ks ls)
fold_longer ks [] = omega arith
fold_longer ks (l ∷ ls) =
    let one = longer_if (list_any (same_key l) ks) ks l in
    let rest = fold_longer (with_key ks l) ls in omega (arith, one, rest)

keys_longer : (heads more : List Head) → length (keys_of heads) ≤ length (keys_of (heads ++ more))
keys_longer heads more =
    let e = ap length (ap (fold with_key []) (map-append (λ h. h.key) heads more)
    ∙ fold-append with_key [] (map (λ h. h.key) heads) (map (λ h. h.key) more)) in
    let l = fold_longer (keys_of heads) (map (λ h. h.key) more) in omega (arith, e, l)

module _ (bytes : List ℕ) where
  -- so many keys the headers in the first units name
  abbrev keys_to : ℕ → ℕ
  keys_to n = length (keys_of (heads_to bytes n))

  longer_by : (m k : ℕ) → keys_to m ≤ keys_to (m + k)
  longer_by m zero = let e : m + 0 ≡ m = omega arith in let n = ap keys_to e in omega (arith, n)
  longer_by m (suc k) =
      let e : m + suc k ≡ m + k + 1 = omega arith in
      let n = ap keys_to e ∙ ap (λ hs. length (keys_of hs)) (heads_more bytes (m + k)) in
      let less = longer_by m k in
      let more = keys_longer (heads_to bytes (m + k)) (head_in ((m + k) * step) (slice_range bytes ((m + k) * step) ((m + k) * step + 64))) in omega (arith, n, less, more)

  pub keys_in_more : (m n : ℕ) → m ≤ n → length (keys_of (heads_to bytes m)) ≤ length (keys_of (heads_to bytes n))
  keys_in_more m n less =
      let e : m + (n - m) ≡ n = omega (arith, less) in
      let P : ℕ → Type 0 = λ k. keys_to m ≤ keys_to k in subst P e (longer_by m (n - m))

-- groups are as many as the keys
pub as_many_keys : (heads : List Head) (gs : List Group) → AreGroups heads gs → length (keys_of heads) ≡ length gs
as_many_keys heads gs are = sym (ap length are.keys) ∙ length-map gs (λ (g : Group). g.key)
