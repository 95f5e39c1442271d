-- What headers in listed eraseblocks hide, computed by the definitions.
use Rattle.ubi_change.proofs.Prelude.{◌≡◌, [], ◌∷◌, true, false, refl, None, Some, VidHeader, plain, end_named, is_hidden, sqnum_named}
use Rattle.ubi_media.specs.declared.vid.VolKind.TheVariants as kind

-- a header names LEB 7 of volume 1
abbrev named : VidHeader
named = record (plain kind.Dynamic 0 0 1 7) { sqnum = 5 }

pub number : sqnum_named (Some named) ≡ 5
number = refl

pub no_number : sqnum_named None ≡ 0
no_number = refl

pub end : end_named 1 (Some named) ≡ 8
end = refl

pub other_end : end_named 0 (Some named) ≡ 0
other_end = refl

pub no_end : end_named 1 None ≡ 0
no_end = refl

-- so LEBs up to 7 are hidden, of this volume alone
pub hidden : is_hidden (0 ∷ 8 ∷ []) 1 7 ≡ true
hidden = refl

pub behind : is_hidden (0 ∷ 8 ∷ []) 1 8 ≡ false
behind = refl

pub before : is_hidden (0 ∷ 8 ∷ []) 0 0 ≡ false
before = refl

pub beyond : is_hidden (0 ∷ 8 ∷ []) 2 0 ≡ false
beyond = refl
