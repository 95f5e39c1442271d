-- The groups of a plan, one after the other.
use Rattle.ubi_change.proofs.Prelude.{◌≡◌, ℕ, Bool, zero, suc, ◌+◌, ◌<◌, ◌≤◌, List, [], ◌∷◌, ◌++◌, length, take, refl, ap, sym, ◌∙◌, arith, append-nil, flat_map-append, Some, slice_get, get_or_from_slice_get, take_more, take_all, Sizes, AllBeside, AllWithin, Found, Holders, Site, Step, groups_from, in_order, Laying}
use Rattle.ubi_change.proofs.StepPages.{EachWithin, all_within, within_append}

-- there is one for each piece, and one for each copy of the table
pub groups_count : (s : Sizes) (scan : Found) (contents pages : List ℕ) (old : Holders) (k : ℕ) (ls : List Laying) (ts : List Site)
    → length ls + 2 ≤ length ts → length (groups_from s scan contents pages old k ls ts) ≡ length ls + 2
groups_count s scan contents pages old k [] [] l = absurd (omega arith)
groups_count s scan contents pages old k [] (t ∷ []) l = absurd (omega arith)
groups_count s scan contents pages old k [] (t ∷ u ∷ ts) l = refl
groups_count s scan contents pages old k (x ∷ ls) [] l = absurd (omega arith)
groups_count s scan contents pages old k (x ∷ ls) (t ∷ ts) l =
    let same : suc (length ls + 2) ≡ suc (length ls) + 2 = omega arith in
    ap suc (groups_count s scan contents pages old (k + 1) ls ts (omega arith)) ∙ same

-- one more group
pub in_order_more : (gs : List (List Step)) (k : ℕ) (group : List Step) → k < length gs → slice_get gs k ≡ Some group
    → in_order (take k gs) ++ group ≡ in_order (take (k + 1) gs)
in_order_more gs k group l is =
    ap (λ xs. in_order (take k gs) ++ xs) (sym (append-nil group))
    ∙ sym (flat_map-append (λ (steps : List Step). steps) (take k gs) (group ∷ []))
    ∙ ap (λ x. in_order (take k gs ++ x ∷ [])) (sym (get_or_from_slice_get gs k group group is))
    ∙ ap in_order (sym (take_more gs k group l))

-- all of them
pub in_order_all : (gs : List (List Step)) (n : ℕ) → length gs ≡ n → in_order (take n gs) ≡ in_order gs
in_order_all gs n e = ap in_order (take_all n gs (omega (arith, e)))

module _ (s : Sizes) (n : ℕ) where
  each_within : (steps : List Step) → AllWithin s n steps → EachWithin s n steps
  each_within [] h = tt
  each_within (x ∷ xs) h = (h 0 x refl, each_within xs (λ k next e. h (suc k) next e))

  -- steps that work within their eraseblocks, one list after the other
  pub all_within_append : (xs ys : List Step) → AllWithin s n xs → AllWithin s n ys → AllWithin s n (xs ++ ys)
  all_within_append xs ys a b = all_within s n (xs ++ ys) (within_append s n xs ys (each_within xs a) (each_within ys b))

-- steps on no listed eraseblock, one list after the other
pub all_beside_append : (marks : List Bool) (xs ys : List Step) → AllBeside marks xs → AllBeside marks ys → AllBeside marks (xs ++ ys)
all_beside_append marks [] ys a b k next e = b k next e
all_beside_append marks (x ∷ xs) ys a b zero next e = a zero next e
all_beside_append marks (x ∷ xs) ys a b (suc k) next e = all_beside_append marks xs ys (λ j y f. a (suc j) y f) b k next e
