-- When LEBs are equal.
use Rattle.std.specs.Prelude.{ℕ, Bool, ◌==◌, ◌&&◌, List}
use Rattle.std.specs.Cmp.{IsPartialEquivalence, and_per, on_per, partial_equiv_from_equiv, nat_eq_equiv}
use Rattle.std.specs.Cmp.Lexicographic.{lists_per, nat_list_eq_equiv, pointwise}
use Rattle.std.specs.FinMap.{FinMap, entries}
use Rattle.std.specs.Ordering.{nat_cmp}

-- the numbers and the bytes are equal, in order
abbrev pub same_lebs : FinMap nat_cmp (List ℕ) → FinMap nat_cmp (List ℕ) → Bool
same_lebs a b = pointwise (λ p q. (p.0 == q.0) && pointwise ◌==◌ p.1 q.1) (entries a) (entries b)

-- this equality is symmetric and transitive
pub same_lebs_per : IsPartialEquivalence same_lebs
same_lebs_per =
    on_per entries (lists_per (and_per (on_per (λ p. p.0) (partial_equiv_from_equiv nat_eq_equiv))
    (on_per (λ p. p.1) (partial_equiv_from_equiv nat_list_eq_equiv))))
