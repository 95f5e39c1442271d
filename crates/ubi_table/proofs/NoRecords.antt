-- The table of no volume: each device has the eraseblocks that this table reserves.
use Rattle.ubi_table.proofs.Prelude.{◌≡◌, ℕ, T, List, [], ◌∷◌, refl, ap, sym, ◌∙◌, arith, None, is_sorted, sum_by, nat_cmp, IsGeometry, Sizes, VolumeRecord, find_at, HasSpace, no_records}
use Rattle.std.specs.Prelude.{map}
use Rattle.std.specs.Cmp.{nat_cmp_total}
use Rattle.std.specs.FinMap as finite
use Rattle.std.specs.FinMap.{find}

-- a map without entries
module _ {X : Type 0} where
  nothing_found : (es : List (ℕ × X)) → T (is_sorted nat_cmp es) → ((q : ℕ) → find nat_cmp q es ≡ None) → es ≡ []
  nothing_found [] sorted none = refl
  nothing_found (e ∷ es) sorted none = let some = sym (none e.0)
      ∙ find_at nat_cmp_total (e ∷ es) 0 e sorted (omega arith) in absurd cc

  pub no_entries : finite.entries {X = X} {R = nat_cmp} finite.empty ≡ []
  no_entries = nothing_found _ (finite.entries_sorted finite.empty)
      (λ q. sym (finite.get-entries finite.empty q) ∙ finite.get-empty nat_cmp q)

pub no_space : (s : Sizes) → IsGeometry s → HasSpace s (no_records s)
no_space s g =
    let none = ap (λ es. sum_by (λ (r : VolumeRecord). r.reserved) (map (λ (e : ℕ × VolumeRecord). e.1) es))
    no_entries in
    omega (arith, none, g.pebs_from)
