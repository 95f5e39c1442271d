-- The first header of an image, and the last one.
use Rattle.ubi_detect.proofs.Prelude.{ℕ, ◌-◌, ◌/◌, ◌<◌, ◌≤◌, List, length, arith, dvd-sub, dvd_of_mod-eq-zero, le_of_dvd, Says, heads_of, places, step, Group}
use Rattle.ubi_detect.proofs.OnGrid.{between}

-- what the headers of some bytes say begins with a header in them, and its size is one unit at least
module _ (part : List ℕ) (j : ℕ) (g : Group) (says : Says (heads_of part) j g) where
  abbrev ps : List ℕ
  ps = places (heads_of part) g.key

  some : 0 < length (places (heads_of part) g.key)
  some = let many = says.group.count in let two = says.two in omega (arith, many, two)

  pub first_or_behind : g.first ≤ g.last
  first_or_behind =
      let first = says.group.first in
      let last = says.group.last in
      let order = ((between part g.key (length part / step)).each 0 0 some).1 in omega (arith, first, last, order)

  pub size_of_unit : step ≤ g.size
  size_of_unit =
      let are = (between part g.key (length part / step)).below in
      let from = says.from in
      le_of_dvd from (says.group.size.greatest step (λ k d below.
      dvd-sub step (dvd_of_mod-eq-zero step (are k d below).0) (dvd_of_mod-eq-zero step (are 0 0 some).0)))
