-- Headers that are of one group.
use Rattle.std.specs.Prelude.{◌≡◌, ◌≢◌, ℕ, ◌*◌, ◌%◌, ◌<◌, ◌≤◌, ◌⊎◌, IsFalse, IsTrue, List, None, Some, length}
use Rattle.ubi_detect.specs.Groups.{greatest_size}
use Rattle.ubi_detect.specs.Plain.{IsPlain}
use Rattle.ubi_detect.specs.Sure.{has_inner_start}
use Rattle.ubi_detect.specs.Heads.{is_of, key_at, step}
use Rattle.ubi_detect.specs.declared.groups.Group.{Group}
use Rattle.ubi_detect.specs.declared.heads.Key.{Key}

-- the group of one of two keys has both
pub record IsJoined (k l j : Key) : Type 0 where
  pub one : IsTrue (is_of j k)
  pub other : IsTrue (is_of j l)
  pub is : (j ≡ k) ⊎ (j ≡ l)

-- no group has both keys
abbrev pub NoneOwns : Key → Key → Type 0
NoneOwns k l = (m : Key) → IsTrue (is_of m k) → IsTrue (is_of m l) → ⊥

-- a header stands at a place, and it belongs to the group of a key
abbrev pub HasHeadOf : List ℕ → Key → ℕ → Type 0
HasHeadOf bytes k at = (l : Key) × (key_at bytes at ≡ Some l) × IsTrue (is_of k l)

-- the first n eraseblocks of q bytes start with headers that are all of the group of a key, and one of them names its number
pub record AreJoined (bytes : List ℕ) (q n : ℕ) (k : Key) : Type 0 where
  pub each : (i : ℕ) → i < n → HasHeadOf bytes k (i * q)
  pub named : (i : ℕ) × (l : Key) × (i < n) × (key_at bytes (i * q) ≡ Some l) × IsTrue (is_of k l) × (l.image_seq ≡ k.image_seq)

-- no group has all of the first n headers
abbrev pub NoneJoined : List ℕ → ℕ → ℕ → Type 0
NoneJoined bytes q n = (m : Key) → ((i : ℕ) → i < n → HasHeadOf bytes m (i * q)) → ⊥

-- no header stands in the units from one on to another
abbrev pub NoHeads : List ℕ → ℕ → ℕ → Type 0
NoHeads bytes from to = (u : ℕ) → from ≤ u → u < to → key_at bytes (u * step) ≡ None

-- the first header in these units stands in the unit u
pub record IsFirstHead (bytes : List ℕ) (from to u : ℕ) : Type 0 where
  pub low : from ≤ u
  pub high : u < to
  pub has : (l : Key) × (key_at bytes (u * step) ≡ Some l)
  pub before : NoHeads bytes from u

-- a file is not plainly an image
abbrev pub NotPlain : List ℕ → Type 0
NotPlain bytes = (g : Group) → IsPlain bytes g → ⊥

-- the file may plainly be an image with eraseblocks of q bytes, and of no other size
pub record IsPlainSize (bytes : List ℕ) (q : ℕ) : Type 0 where
  pub from : 1 ≤ q
  pub to : q ≤ greatest_size
  pub units : q % step ≡ 0
  pub two : 2 * q ≤ length bytes
  pub whole : length bytes % q ≡ 0
  pub alone : (u : ℕ) → u * step < 2 * q → (u * step) % q ≢ 0 → key_at bytes (u * step) ≡ None
  pub one : (g : Group) → IsPlain bytes g → g.size ≡ q

-- n bytes are whole eraseblocks of q bytes, two or more
pub record IsCut (n q : ℕ) : Type 0 where
  pub from : step ≤ q
  pub to : q ≤ greatest_size
  pub two : 2 * q ≤ n
  pub whole : n % q ≡ 0

-- no group that plainly is the image has all its headers where its eraseblocks begin
abbrev pub NoneAlone : List ℕ → Type 0
NoneAlone bytes = (g : Group) → IsPlain bytes g → IsFalse (has_inner_start bytes g) → ⊥

-- this group has
pub record IsAlone (bytes : List ℕ) (g : Group) : Type 0 where
  pub plain : IsPlain bytes g
  pub alone : IsFalse (has_inner_start bytes g)
