-- Ways that have the most votes, in order.
use Rattle.ubi_detect.proofs.Prelude.{◌≡◌, ◌∙◌, ◌++◌, ◌∷◌, [], ◌+◌, ◌<◌, ◌≤◌, Bool, true, false, cond, List, length, ap, sym, take, get_or, ℕ, arith, filter, fold, ◌&&◌, ◌==◌, IsFalse, map, max, nat_lt, le-ltb, lt-ltb, or_from, or_right, append-nil, get_or-map, filter_more, has_no_page, has_vote, is_voted, is_without, told_ways, top_vote, votes, ways_with, ways_without, has_no_way, Group, Way, Ways, AreWays, is_most_voted}

module _ (f : Way → ℕ) (ws : List Way) (vs : List ℕ) (are : vs ≡ map f ws) (i : ℕ) (d : Way) (inside : i < length ws) (found : List Way)
    (so_far : found ≡ filter (is_most_voted f ws) (take i ws)) (b : Bool)
    (answer : b ≡ (nat_lt 0 (get_or vs i 0) && (get_or vs i 0 == fold max 0 vs))) where
  vote : get_or vs i 0 ≡ f (get_or ws i d)
  vote = ap (λ xs. get_or xs i 0) are ∙ get_or-map f ws i d 0 inside

  decides : is_most_voted f ws (get_or ws i d) ≡ b
  decides =
      sym (answer ∙ ap (λ n. nat_lt 0 n && (n == fold max 0 vs)) vote
      ∙ ap (λ xs. nat_lt 0 (f (get_or ws i d)) && (f (get_or ws i d) == fold max 0 xs)) are)

  kept : filter (is_most_voted f ws) (take (i + 1) ws) ≡ found ++ cond b (get_or ws i d ∷ []) []
  kept =
      filter_more (is_most_voted f ws) ws i d inside ∙ ap (λ c. filter (is_most_voted f ws) (take i ws) ++ cond c (get_or ws i d ∷ []) []) decides
      ∙ ap (λ xs. xs ++ cond b (get_or ws i d ∷ []) []) (sym so_far)

  pub most_more : b ≡ true → found ++ get_or ws i d ∷ [] ≡ filter (is_most_voted f ws) (take (i + 1) ws)
  most_more e = sym (kept ∙ ap (λ c. found ++ cond c (get_or ws i d ∷ []) []) e)

  pub less_more : b ≡ false → found ≡ filter (is_most_voted f ws) (take (i + 1) ws)
  less_more e = sym (kept ∙ ap (λ c. found ++ cond c (get_or ws i d ∷ []) []) e ∙ append-nil found)

-- the ways that are told, by the votes
module _ (bytes : List ℕ) (g : Group) (vs us : List ℕ) (with : vs ≡ map (votes bytes g) (ways_with g))
    (without : us ≡ map (votes bytes g) (ways_without g)) where
  pub told_if_less : fold max 0 vs < fold max 0 us → filter (has_vote bytes g) (ways_without g) ≡ told_ways bytes g
  told_if_less less =
      let e : is_without bytes g ≡ true = or_right (has_no_way g.size g.key.offsets) _
      (lt-ltb (top_vote bytes g (ways_with g)) (top_vote bytes g (ways_without g))
      (let v = ap (fold max 0) with in let u = ap (fold max 0) without in omega (arith, less, v, u))) in
      sym (ap (λ b. cond b (filter (has_vote bytes g) (ways_without g)) (filter (is_voted bytes g) (ways_with g))) e)

  pub told_if_most : fold max 0 us ≤ fold max 0 vs → IsFalse (has_no_way g.size g.key.offsets)
      → filter (is_most_voted (votes bytes g) (ways_with g)) (ways_with g) ≡ told_ways bytes g
  told_if_most more some =
      let e : is_without bytes g ≡ false = or_from (has_no_way g.size g.key.offsets) _ some
      (le-ltb (top_vote bytes g (ways_with g)) (top_vote bytes g (ways_without g))
      (let v = ap (fold max 0) with in let u = ap (fold max 0) without in omega (arith, more, v, u))) in
      sym (ap (λ b. cond b (filter (has_vote bytes g) (ways_without g)) (filter (is_voted bytes g) (ways_with g))) e)

-- whether there is no page, by the ways that were made
pub no_page_is : (g : Group) (w : Ways) → AreWays g w → has_no_page g ≡ ((length w.without.items == 0) && (length w.with.items == 0))
no_page_is g w are =
    ap (λ (ws : List Way). (length ws == 0) && (length (ways_with g) == 0)) (sym are.without)
    ∙ ap (λ (ws : List Way). (length w.without.items == 0) && (length ws == 0)) (sym are.with)
