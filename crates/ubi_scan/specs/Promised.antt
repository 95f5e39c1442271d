-- If it is known what a file holds, a source over it may hold just that among others.
use Rattle.std.proofs.Common.{◌≡◌, ◌∙◌, ℕ, ◌+◌, ◌-◌, List, [], ◌∷◌, ap, arith, length, refl}
use Rattle.std.proofs.lemmas.List.Elements.{All-head, All-tail}
use Rattle.std.specs.Option.{ForSome}
use Rattle.std.specs.Prelude.{IfSome, None, Option, Some, drop, take}
use Rattle.ubi_scan.specs.Placed.{AllStand, IsSourceOf, StandsAt}
use Rattle.ubi_scan.specs.Source.{AgreesWith, known_by}

-- bytes agree with reads that answered what stands in them
pub agree : (all : List ℕ) (reads : List (ℕ × List ℕ)) → AllStand reads all → AgreesWith reads all
agree all [] h = tt
agree all (read ∷ reads) h = (
  All-head (λ r. StandsAt all r.0 r.1) read reads h ∙ ap (λ (k : ℕ). take k (drop read.0 all))
      (let e : length read.1 ≡ read.0 + length read.1 - read.0 = omega arith in e),
  agree all reads (All-tail (λ r. StandsAt all r.0 r.1) read reads h),
)

-- the bytes of a file agree with each read that answered what stands in them
pub keeps_promise : (told : Option (List ℕ)) (len : ℕ) (reads : List (ℕ × List ℕ)) → ForSome told (λ all. IsSourceOf all len reads)
    → IfSome told (known_by len reads)
keeps_promise None len reads h = tt
keeps_promise (Some all) len reads h =
    let is = h all refl in (is.sized, agree all reads is.answered)
