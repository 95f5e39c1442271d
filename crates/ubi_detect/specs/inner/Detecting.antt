-- What is found on the way to what is detected in a file.
use Rattle.std.specs.Prelude.{◌≡◌, ℕ, ◌+◌, ◌-◌, ◌*◌, ◌<◌, ◌≤◌, ◌⊎◌, ◌==◌, ◌&&◌, ◌||◌, Bool, [], None, Some, false, true, if◌then◌else◌, nat_le, nat_lt, IsFalse, IsTrue, List, Option, find, fold, length, map, max, not, option_map, slice_index_or}
use Rattle.std.specs.Int.{IsGcd}
use Rattle.std.specs.List.{All, list_all, list_any}
use Rattle.std.specs.Option.{option_to_list}
use Rattle.ubi_detect.specs.Groups.{AreGroups, IsGroup, greatest_size, says_size, spoken}
use Rattle.ubi_detect.specs.Heads.{is_of, key_in, keys_of, most_keys, same_key, same_offsets, step, with_key}
use Rattle.ubi_detect.specs.Place.{has_no_page, told, ways_with, ways_without}
use Rattle.ubi_scan.specs.Source.{Agreed, WhereHeld}
use Rattle.ubi_detect.specs.declared.way.Way.{Way}
use Rattle.ubi_detect.specs.declared.ways.Ways.{Ways}
use Rattle.ubi_detect.specs.declared.detect.DetectError.{DetectError}
use Rattle.ubi_detect.specs.declared.detect.DetectError.TheVariants as error
use Rattle.ubi_detect.specs.declared.detect.Undetected.TheVariants as cause
use Rattle.ubi_detect.specs.declared.groups.Group.{Group}
use Rattle.ubi_detect.specs.declared.heads.Head.{Head}
use Rattle.ubi_detect.specs.declared.heads.Key.{Key}

-- the first place of a group to which a header is added
abbrev pub first_with : ℕ → Group → ℕ
first_with p g = if g.count == 0 then p else g.first

-- a header was added to a group, if it belongs to it
pub record IsAdded (h : Head) (old new : Group) : Type 0 where
  pub key : new.key ≡ old.key
  pub other : IsFalse (is_of old.key h.key) → new ≡ old
  pub count : IsTrue (is_of old.key h.key) → new.count ≡ old.count + 1
  pub first : IsTrue (is_of old.key h.key) → new.first ≡ first_with h.place old
  pub last : IsTrue (is_of old.key h.key) → new.last ≡ h.place
  pub size : IsTrue (is_of old.key h.key) → IsGcd old.size (h.place - new.first) new.size

-- the headers of a group stand in the first n units of 64 bytes
pub record IsWithin (n : ℕ) (g : Group) : Type 0 where
  pub count : g.count ≤ n
  pub order : g.first ≤ g.last
  pub last : 1 ≤ g.count → g.last + step ≤ n * step
  pub none : g.last ≤ n * step

-- whether these are the groups of headers; if not, the headers name too many keys
abbrev pub AreGroupsIf : List Head → List Group → Bool → Type 0
AreGroupsIf heads gs true = AreGroups heads gs
AreGroupsIf heads gs false = most_keys < length (keys_of heads)

-- a header was added to each of these groups
pub record AreAdded (h : Head) (old new : List Group) : Type 0 where
  pub many : length new ≡ length old
  pub each : (i : ℕ) (d : Group) → i < length old → IsAdded h (slice_index_or old i d) (slice_index_or new i d)

-- the header that 64 bytes at a place are, if they are one
abbrev pub head_in : ℕ → List ℕ → List Head
head_in place front = option_to_list (option_map (λ key. record { place = place; key = key }) (key_in front))

-- these are groups of headers, and one of them is that of a key
pub record AreReady (heads : List Head) (k : Key) (gs : List Group) : Type 0 where
  pub keys : map (λ g. g.key) gs ≡ with_key (keys_of heads) k
  pub each : All (IsGroup heads) gs

-- whether one of groups has a key
abbrev pub has_key : List Group → Key → Bool
has_key gs k = list_any (λ g. same_key k g.key) gs

-- a key with the same offsets and without a number
abbrev pub unnumbered : Key → Key
unnumbered k = record k { image_seq = 0 }

-- the group of a key, if there is one
abbrev pub group_with : List Group → Key → Option Group
group_with gs k = find (λ g. same_key k g.key) gs

-- whether a group speaks for more bytes than another, if there is one
abbrev pub speaks_for_more : Group → Option Group → Bool
speaks_for_more g (Some f) = nat_lt (spoken f) (spoken g)
speaks_for_more g None = true

-- the group j says a size, and speaks for the most bytes of those of the first n groups that do; if several do, it is the first
pub record IsBestOf (gs : List Group) (n : ℕ) (g : Group) : Type 0 where
  pub index : ℕ
  pub inside : index < n
  pub is : (d : Group) → slice_index_or gs index d ≡ g
  pub says : IsTrue (says_size gs g)
  pub most : (k : ℕ) (d : Group) → k < n → IsTrue (says_size gs (slice_index_or gs k d))
      → (spoken (slice_index_or gs k d) < spoken g) ⊎ ((spoken (slice_index_or gs k d) ≡ spoken g) × (index ≤ k))

-- none of the first n of groups says a size
abbrev pub NoneSays : List Group → ℕ → Type 0
NoneSays gs n = (k : ℕ) (d : Group) → k < n → IsFalse (says_size gs (slice_index_or gs k d))

-- a read that began in a source of this size failed
abbrev pub IsReadAt : ℕ → DetectError → Type 0
IsReadAt size (error.Read at) = at < size
IsReadAt size _ = ⊥

-- such a read failed, or memory ran out
abbrev pub IsReadError : ℕ → DetectError → Type 0
IsReadError size (error.Undetected _) = ⊥
IsReadError size (error.Read at) = at < size
IsReadError size error.Memory = Unit {0}

-- the headers of a group, and the eraseblocks between them, lie in a source of n bytes
pub record LiesIn (n : ℕ) (g : Group) : Type 0 where
  pub from : 1 ≤ g.size
  pub to : g.size ≤ greatest_size
  pub order : g.first ≤ g.last
  pub last : g.last + step ≤ n

-- these are the pages that the eraseblocks of a group may have
pub record AreWays (g : Group) (w : Ways) : Type 0 where
  pub without : w.without.items ≡ ways_without g
  pub with : w.with.items ≡ ways_with g

-- whether a way has as many votes as the most of some ways, and at least one
abbrev pub is_most_voted : (Way → ℕ) → List Way → Way → Bool
is_most_voted f ws w = nat_lt 0 (f w) && (f w == fold max 0 (map f ws))

-- why no geometry is found for the image of a group in a source of this size
abbrev pub IsUntold : ℕ → Agreed → Group → DetectError → Type 0
IsUntold size agrees g (error.Undetected (cause.OutOfBand q)) =
    WhereHeld agrees (λ bytes. told bytes g ≡ []) × IsFalse (has_no_page g) × (q ≡ g.size)
IsUntold size agrees g (error.Undetected (cause.Page q o)) =
    WhereHeld agrees (λ bytes. told bytes g ≡ []) × IsTrue (has_no_page g) × (q ≡ g.size) × (o ≡ g.key.offsets)
IsUntold size agrees g (error.Undetected _) = ⊥
IsUntold size agrees g (error.Read at) = at < size
IsUntold size agrees g error.Memory = Unit {0}
