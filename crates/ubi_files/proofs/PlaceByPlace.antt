-- Lists place by place.
use Rattle.ubi_files.proofs.Prelude.{◌≡◌, ◌∙◌, ℕ, zero, suc, ◌+◌, ◌-◌, ◌<◌, ◌≤◌, ◌&&◌, List, [], ◌∷◌, ◌++◌, ap, arith, cond, drop, false, get_or, length, map, nat_le, nat_lt, refl, replicate, sym, take, true, enumerate_from, cases_lt, nat_tests, get_or-drop, get_or-replicate, get_or-take, get_or_append_left, get_or-append_right, length-replicate, length-take-le, inl, inr, ◌⊎◌}

-- what a function of the places and the elements gives has as many elements
pub length-placed : {X Y : Type 0} (f : ℕ → X → Y) (n : ℕ) (xs : List X) → length (map (λ e. f e.0 e.1) (enumerate_from n xs)) ≡ length xs
length-placed f n [] = refl
length-placed f n (x ∷ xs) = ap suc (length-placed f (n + 1) xs)

-- and at each place what it gives there
pub get_or-placed : {X Y : Type 0} (f : ℕ → X → Y) (n : ℕ) (xs : List X) (k : ℕ) (d : X) (e : Y) → k < length xs
    → get_or (map (λ e. f e.0 e.1) (enumerate_from n xs)) k e ≡ f (n + k) (get_or xs k d)
get_or-placed f n [] k d e l = absurd (omega arith)
get_or-placed f n (x ∷ xs) zero d e l = ap (λ i. f i x) (omega arith)
get_or-placed f n (x ∷ xs) (suc k) d e l =
    get_or-placed f (n + 1) xs k d e (omega arith) ∙ ap (λ i. f i (get_or xs k d)) (omega arith)

-- a list of which a part was filled, place by place
pub get_or-filled : {X : Type 0} (v : X) (a n : ℕ) (xs ys : List X) → a + n ≤ length xs → ys ≡ replicate n v → (k : ℕ) (d : X) → k < length xs
    → get_or (take a xs ++ (ys ++ drop n (drop a xs))) k d ≡ cond (nat_le a k && nat_lt k (a + n)) v (get_or xs k d)
get_or-filled {X = X} v a n xs ys room are k d inside = by_first (cases_lt k a)
  where
    front : length (take a xs) ≡ a
    front = length-take-le a xs (omega arith)

    count : length ys ≡ n
    count = ap length are ∙ (simp length-replicate)

    by_first : (k < a) ⊎ (a ≤ k) → get_or (take a xs ++ (ys ++ drop n (drop a xs))) k d ≡ cond (nat_le a k && nat_lt k (a + n)) v (get_or xs k d)
    by_first (inl below) =
        let f = front in
        let no : (nat_le a k && nat_lt k (a + n)) ≡ false = grind (arith, nat_tests) in
        get_or_append_left (take a xs) (ys ++ drop n (drop a xs)) d k (omega arith)
        ∙ get_or-take a xs k d below ∙ ap (λ b. cond b v (get_or xs k d)) (sym no)
    by_first (inr from) = by_second (cases_lt k (a + n))
      where
        past : get_or (take a xs ++ (ys ++ drop n (drop a xs))) k d ≡ get_or (ys ++ drop n (drop a xs)) (k - a) d
        past = get_or-append_right (take a xs) (ys ++ drop n (drop a xs)) a k d front from

        by_second : (k < a + n) ⊎ (a + n ≤ k) → get_or (take a xs ++ (ys ++ drop n (drop a xs))) k d ≡ cond (nat_le a k && nat_lt k (a + n)) v (get_or xs k d)
        by_second (inl below) =
            let c = count in
            let yes : (nat_le a k && nat_lt k (a + n)) ≡ true = grind (arith, nat_tests) in
            past
            ∙ get_or_append_left ys (drop n (drop a xs)) d (k - a) (omega arith)
            ∙ ap (λ zs. get_or zs (k - a) d) are ∙ get_or-replicate n (k - a) v d (omega arith)
            ∙ ap (λ b. cond b v (get_or xs k d)) (sym yes)
        by_second (inr behind) =
            let no : (nat_le a k && nat_lt k (a + n)) ≡ false = grind (arith, nat_tests) in
            past
            ∙ get_or-append_right ys (drop n (drop a xs)) n (k - a) d count (omega arith)
            ∙ get_or-drop n (drop a xs) (k - a - n) d ∙ get_or-drop a xs (n + (k - a - n)) d
            ∙ ap (λ i. get_or xs i d) (let e : a + (n + (k - a - n)) ≡ k = omega arith in e)
            ∙ ap (λ b. cond b v (get_or xs k d)) (sym no)
