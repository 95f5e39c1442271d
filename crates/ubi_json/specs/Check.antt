-- The states of the eraseblocks of an image, as JSON.
use Rattle.std.specs.Prelude.{ℕ, List, codes, length, true}
use Rattle.serde_json.specs.Data.{Data, boolean, member, no_members, object}
use Rattle.ubi_volume.specs.Survey.{Seen}
use Rattle.ubi_volume.specs.declared.attached.BlockState.{BlockState}
use Rattle.ubi_volume.specs.declared.attached.BlockState.TheVariants as state
use Rattle.ubi_json.specs.Line.{numbered}
use Rattle.ubi_json.specs.Words.{count_of}

-- how many eraseblocks have each state, each count under the name of the state
abbrev pub states_data : List BlockState → Data
states_data states =
    object
    (numbered (codes "blank") (count_of states state.Blank)
    (numbered (codes "corrupt") (count_of states state.Corrupt)
    (numbered (codes "dropped") (count_of states state.Dropped)
    (numbered (codes "free") (count_of states state.Free)
    (numbered (codes "garbage") (count_of states state.Garbage)
    (numbered (codes "orphan") (count_of states state.Orphan)
    (numbered (codes "stale") (count_of states state.Stale)
    (numbered (codes "table") (count_of states state.Table)
    (numbered (codes "used") (count_of states state.Used) no_members)))))))))

-- an image that is accepted: how many eraseblocks it has, its image sequence number, the mean erase counter, the counts of the
-- states, and the greatest sequence number
abbrev pub counts_data : ℕ → ℕ → ℕ → Data → ℕ → Data
counts_data blocks image_seq mean states top =
    object
    (member (codes "accepted") (boolean true)
    (numbered (codes "blocks") blocks
    (numbered (codes "image_seq") image_seq
    (numbered (codes "mean_counter") mean
    (member (codes "states") states (numbered (codes "top_sqnum") top no_members))))))

-- the data of an image that is surveyed
abbrev pub check_data : Seen → Data
check_data a = counts_data (length a.states) a.scan.image_seq a.scan.mean_ec (states_data a.states) a.scan.top_sqnum
