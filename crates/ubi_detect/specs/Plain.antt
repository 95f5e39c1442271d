-- Files that are plainly an image, as whole dumps are.
use Rattle.std.specs.Prelude.{◌≡◌, ◌≢◌, ℕ, ◌+◌, ◌*◌, ◌%◌, ◌<◌, ◌≤◌, IsFalse, IsTrue, List, None, Some, length}
use Rattle.ubi_detect.specs.Groups.{greatest_size}
use Rattle.ubi_detect.specs.Heads.{is_of, key_at, step}
use Rattle.ubi_detect.specs.Sure.{has_inner_start, is_sure}
use Rattle.ubi_detect.specs.declared.groups.Group.{Group}
use Rattle.ubi_detect.specs.declared.heads.Key.{Key}

-- a file is whole eraseblocks, two or more, each of which starts with a header of the group; and no other header stands in the first two
pub record IsPlain (bytes : List ℕ) (g : Group) : Type 0 where
  pub first : g.first ≡ 0
  pub last : g.last + g.size ≡ length bytes
  pub count : g.count * g.size ≡ length bytes
  pub two : 2 ≤ g.count
  pub from : 1 ≤ g.size
  pub to : g.size ≤ greatest_size
  pub units : g.size % step ≡ 0
  pub each : (i : ℕ) → i < g.count → (k : Key) × (key_at bytes (i * g.size) ≡ Some k) × IsTrue (is_of g.key k)
  pub named : (i : ℕ) × (k : Key) × (i < g.count) × (key_at bytes (i * g.size) ≡ Some k) × (k.image_seq ≡ g.key.image_seq)
  pub alone : (u : ℕ) → u * step < 2 * g.size → (u * step) % g.size ≢ 0 → key_at bytes (u * step) ≡ None

-- the file is plainly the image of the group: no header of it stands where a part of an eraseblock could begin, and its size is sure
pub record IsSurelyPlain (bytes : List ℕ) (g : Group) : Type 0 where
  pub plain : IsPlain bytes g
  pub alone : IsFalse (has_inner_start bytes g)
  pub sure : IsTrue (is_sure bytes g)
