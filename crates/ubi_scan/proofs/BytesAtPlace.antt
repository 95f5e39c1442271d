-- Bytes that stand in a file from a place on.
use Rattle.ubi_scan.proofs.Prelude.{◌≡◌, ◌∙◌, ℕ, ◌+◌, ◌-◌, ◌≤◌, List, [], ◌∷◌, ◌++◌, ap, arith, length, length-append, refl, subst, sym, take-add, take-append-add, drop-drop, drop-take, take-append-le, take-take, min, StandsAt, Window, HoldsAt}
use Rattle.std.proofs.lemmas.List.{length-drop, length-take, length-take-le}
use Rattle.std.specs.Prelude.{drop, take}

-- bytes that stand behind others stand with them
pub stand_behind : (all : List ℕ) (at : ℕ) (xs ys : List ℕ) → StandsAt all at xs → StandsAt all (at + length xs) ys
    → StandsAt all at (xs ++ ys)
stand_behind all at xs ys h k =
    let two = take-add (length xs) (length ys) (drop at all) in
    let moved = drop-drop (length xs) at all in
    let second = k ∙ ap (take (length ys)) (sym moved) in
    subst (λ (n : ℕ). xs ++ ys ≡ take n (drop at all)) (sym (length-append xs ys))
    (ap (λ l. l ++ ys) h ∙ ap (λ l. take (length xs) (drop at all) ++ l) second ∙ sym two)

-- a part of bytes that stand stands too
pub stand_within : (all : List ℕ) (at : ℕ) (xs : List ℕ) (from n : ℕ) → from + n ≤ length xs → StandsAt all at xs
    → StandsAt all (at + from) (take n (drop from xs))
stand_within all at xs from n few h =
    let m = length xs - from in
    let long : length (take n (drop from xs)) ≡ n =
    length-take-le n (drop from xs) (omega (arith, length-drop from xs, few)) in
    let whole : xs ≡ take (from + m) (drop at all) =
    h ∙ ap (λ (k : ℕ). take k (drop at all)) (let e : length xs ≡ from + m = omega (arith, few) in e) in
    let rest : drop from xs ≡ take m (drop (at + from) all) =
    ap (drop from) whole ∙ drop-take from m (drop at all) ∙ ap (take m) (drop-drop from at all) in
    let part : take n (drop from xs) ≡ take n (drop (at + from) all) =
    ap (take n) rest ∙ take-take n m (drop (at + from) all) (omega (arith, few)) in
    part ∙ ap (λ (k : ℕ). take k (drop (at + from) all)) (sym long)

-- what was written behind the first n bytes stands with them
pub stand_on : (all : List ℕ) (at n m : ℕ) (old new rest : List ℕ) → n ≤ length old → m ≤ length new
    → StandsAt all at (take n old) → StandsAt all (at + n) (take m new)
    → StandsAt all at (take (n + m) (take n old ++ (new ++ rest)))
stand_on all at n m old new rest few fits h k =
    let long : length (take n old) ≡ n = length-take-le n old few in
    let both : take (n + m) (take n old ++ (new ++ rest)) ≡ take n old ++ take m new =
    ap (λ (i : ℕ). take (i + m) (take n old ++ (new ++ rest))) (sym long)
    ∙ take-append-add (take n old) (new ++ rest) m ∙ ap (λ l. take n old ++ l) (take-append-le m new rest fits) in
    subst (StandsAt all at) (sym both)
    (stand_behind all at (take n old) (take m new) h (subst (λ (i : ℕ). StandsAt all (at + i) (take m new)) (sym long) k))

-- bytes that are a part of others stand where these do
stand_part : (all : List ℕ) (at : ℕ) (xs : List ℕ) (from : ℕ) (out : List ℕ) → out ≡ take (length out) (drop from xs) → StandsAt all at xs
    → StandsAt all (at + from) out
stand_part all at xs from [] is h = refl
stand_part all at xs from (b ∷ bs) is h =
    let n = length (b ∷ bs) in
    let long : n ≡ min n (length xs - from) =
    ap length is ∙ length-take n (drop from xs) ∙ ap (λ (k : ℕ). min n k) (length-drop from xs) in
    subst (StandsAt all (at + from)) (sym is) (stand_within all at xs from n (omega (arith, long)) h)

-- a part of the first bytes is one of all
held_part : (from n filled : ℕ) (xs : List ℕ) → from + n ≤ filled → take n (drop from xs) ≡ take n (drop from (take filled xs))
held_part from n filled xs few =
    let m = filled - from in
    sym (ap (λ (k : ℕ). take n (drop from (take k xs))) (let e : filled ≡ from + m = omega (arith, few) in e)
    ∙ ap (take n) (drop-take from m xs) ∙ take-take n m (drop from xs) (omega (arith, few)))

-- what a window holds stands in the file where what was read ahead does
pub held_stand : (all : List ℕ) (w : Window) (at : ℕ) (out : List ℕ) → StandsAt all w.start (take w.filled w.bytes)
    → HoldsAt w at out → StandsAt all at out
held_stand all w at out h is =
    let from = at - w.start in
    let n = length out in
    let part : out ≡ take n (drop from (take w.filled w.bytes)) =
    is.bytes ∙ ap (λ (k : ℕ). take k (drop from w.bytes)) (let e : from + n - from ≡ n = omega arith in e)
    ∙ held_part from n w.filled w.bytes is.read in
    subst (λ (k : ℕ). StandsAt all k out) (let e : w.start + from ≡ at = omega (arith, is.from) in e)
    (stand_part all w.start (take w.filled w.bytes) from out part h)
