use Rattle.std.proofs.Common.{◌≡◌, List, [], ◌∷◌, refl, ap, get_or}
use Rattle.std.specs.Prelude.{◌≢◌}
use Rattle.ubi_scan.specs.Source.{Agreed}
use Rattle.ubi_detect.specs.Detected.{AreDetectedOf}
use Rattle.ubi_detect.specs.declared.detect.Detected.{Detected}
use Rattle.ubi_uses.proofs.detect.start_of.Goals as goal

-- of what is told the one at place 0 is the first
first_told : (agrees : Agreed) (found : List Detected) (t : Detected) → AreDetectedOf agrees found → found ≢ [] → t ≡ get_or found 0 t
    → (first : Detected) × (more : List Detected) × AreDetectedOf agrees (first ∷ more) × (t.start ≡ first.start)
first_told agrees [] t are some is = absurd (some refl)
first_told agrees (x ∷ xs) t are some is = (x, xs, are, ap (λ (d : Detected). d.start) is)

pub returns : goal.returns
returns g c =
    first_told (g.S.BlockSource.agrees c.detect_from.new.source) c.in_ok-found.found.geometries.items c.index.result.now
    c.in_ok-found.ensures.found c.in_ok-found.ensures.some c.index.ensures
