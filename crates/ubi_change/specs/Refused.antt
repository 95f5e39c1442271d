-- Why a change isn't planned, in the order in which the causes are tried.
use Rattle.std.specs.Prelude.{ℕ, ◌+◌, ◌%◌, ◌==◌, ◌||◌, Bool, not, nat_lt, List, [], ◌∷◌, length, Option, Some, None, option_map}
use Rattle.std.specs.Bool.{then_some}
use Rattle.std.specs.FinMap.{get}
use Rattle.std.specs.Option.{option_map_or}
use Rattle.ubi_media.specs.Geometry.{Sizes}
use Rattle.ubi_media.specs.Kind.{is_static}
use Rattle.ubi_media.specs.Record.{usable}
use Rattle.ubi_media.specs.declared.record.VolumeRecord.{VolumeRecord}
use Rattle.ubi_volume.specs.Attached.{AttachValue}
use Rattle.ubi_change.specs.Plan.{needs}
use Rattle.ubi_change.specs.Takeable.{takeable}
use Rattle.ubi_change.specs.Weak.{weak_pages}
use Rattle.ubi_change.specs.declared.errors.ChangeRefusal.{ChangeRefusal}
use Rattle.ubi_change.specs.declared.errors.ChangeRefusal.TheVariants as refusal

-- whether a length isn't a number of whole pages, or is 0, or is above a limit
abbrev pub is_bad_length : Sizes → ℕ → ℕ → Bool
is_bad_length s limit n = (n == 0) || not (n % s.page == 0) || nat_lt limit n

-- the first of some causes that applies
abbrev pub first_of : List (Option ChangeRefusal) → Option ChangeRefusal
first_of [] = None
first_of (Some c ∷ rest) = Some c
first_of (None ∷ rest) = first_of rest

module _ (s : Sizes) (bs : List (List ℕ)) (a : AttachValue) where
  -- why a LEB of a volume with this record isn't changed: each cause, if it applies
  abbrev pub causes : VolumeRecord → ℕ → ℕ → List ℕ → List (Option ChangeRefusal)
  causes r id lnum new =
      then_some (is_static r.kind) refusal.StaticVolume
      ∷ then_some r.marker refusal.Updating
      ∷ then_some (not (nat_lt lnum r.reserved)) refusal.OutOfRange
      ∷ then_some (is_bad_length s (usable s r) (length new)) refusal.BadLength
      ∷ option_map refusal.WeakCheck (weak_pages s new)
      ∷ then_some (nat_lt 0xFFFFFFFFFFFFFFFF (a.scan.top_sqnum + needs s bs a id lnum)) refusal.Exhausted
      ∷ then_some (nat_lt (length (takeable s bs a.states)) (needs s bs a id lnum)) refusal.NoFree
      ∷ []

  -- the first cause not to change a LEB of an attached image
  abbrev pub first_cause : ℕ → ℕ → List ℕ → Option ChangeRefusal
  first_cause id lnum new =
      option_map_or (λ v. first_of (causes v.entry id lnum new)) (get a.meaning.volumes id) (Some refusal.NoVolume)
