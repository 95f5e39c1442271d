-- The words that the printed lines and the JSON share.
use Rattle.std.specs.Prelude.{ℕ, ◌==◌, ◌&&◌, ◌++◌, ◌∷◌, [], Bool, List, codes, count_by, false, if◌then◌else◌, nat_le, not, true}
use Rattle.std.specs.List.{flat_map}
use Rattle.hex.specs.Hex.{encode_lower}
use Rattle.ubi_media.specs.declared.vid.VolKind.{VolKind}
use Rattle.ubi_media.specs.declared.vid.VolKind.TheVariants as kind
use Rattle.ubi_volume.specs.declared.attached.BlockState.{BlockState}
use Rattle.ubi_volume.specs.declared.attached.BlockState.TheVariants as state
use Rattle.ubi_compare.specs.declared.difference.Condition.{Condition}
use Rattle.ubi_compare.specs.declared.difference.Condition.TheVariants as condition
use Rattle.ubi_compare.specs.declared.difference.Side.{Side}
use Rattle.ubi_compare.specs.declared.difference.Side.TheVariants as side

-- the word for the kind of a volume
abbrev pub kind_word : VolKind → List ℕ
kind_word kind.Dynamic = codes "dynamic"
kind_word kind.Static = codes "static"

-- the word of one of two images
abbrev pub side_word : Side → List ℕ
side_word side.Left = codes "left"
side_word side.Right = codes "right"

-- the word for whether a volume can be read
abbrev pub condition_word : Condition → List ℕ
condition_word condition.Updating = codes "updating"
condition_word condition.Damaged = codes "damaged"
condition_word condition.Whole = codes "whole"

-- whether two states are the same
abbrev pub same_state : BlockState → BlockState → Bool
same_state state.Blank state.Blank = true
same_state state.Free state.Free = true
same_state state.Garbage state.Garbage = true
same_state state.Corrupt state.Corrupt = true
same_state state.Dropped state.Dropped = true
same_state state.Orphan state.Orphan = true
same_state state.Table state.Table = true
same_state state.Used state.Used = true
same_state state.Stale state.Stale = true
same_state _ _ = false

-- how many eraseblocks have a state
abbrev pub count_of : List BlockState → BlockState → ℕ
count_of states of = count_by (λ s. same_state s of) states
