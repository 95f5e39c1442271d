-- What a group of headers says about the size of eraseblocks, and which group is that of the image.
use Rattle.std.specs.Prelude.{◌≡◌, ℕ, ◌-◌, ◌*◌, ◌<◌, ◌≤◌, ◌⊎◌, ◌==◌, ◌&&◌, ◌||◌, Bool, IsTrue, List, length, map, nat_le, not, slice_index_or}
use Rattle.std.specs.Int.{◌∣◌}
use Rattle.std.specs.List.{All, list_all}
use Rattle.ubi_detect.specs.Heads.{first_place, keys_of, last_place, places, same_offsets, speaks}
use Rattle.ubi_detect.specs.declared.groups.Group.{Group}
use Rattle.ubi_detect.specs.declared.heads.Head.{Head}
use Rattle.ubi_detect.specs.declared.heads.Key.{Key}

-- how many bytes an eraseblock has at most
abbrev pub greatest_size : ℕ
greatest_size = 16777216

-- all distances of places are multiples of q: those of the first one to each
abbrev pub Divides : ℕ → List ℕ → Type 0
Divides q ps = All (λ p. q ∣ (p - first_place ps)) ps

-- q is the greatest common divisor of the distances of places; it is 0 if there is one place or none
pub record IsSpacing (ps : List ℕ) (q : ℕ) : Type 0 where
  pub divides : Divides q ps
  pub greatest : (r : ℕ) → Divides r ps → r ∣ q

-- this is the group of its key among headers
pub record IsGroup (heads : List Head) (g : Group) : Type 0 where
  pub first : g.first ≡ first_place (places heads g.key)
  pub last : g.last ≡ last_place (places heads g.key)
  pub count : g.count ≡ length (places heads g.key)
  pub size : IsSpacing (places heads g.key) g.size

-- no key, if one is asked for after the last
abbrev pub no_key : Key
no_key = record { offsets = record { vid_offset = 0; data_offset = 0 }; image_seq = 0 }

-- this is the group of the key j, and it says a size: it speaks, has two headers or more, and the size is at most 16 MiB
pub record Says (heads : List Head) (j : ℕ) (g : Group) : Type 0 where
  pub inside : j < length (keys_of heads)
  pub key : g.key ≡ slice_index_or (keys_of heads) j no_key
  pub group : IsGroup heads g
  pub speaks : IsTrue (speaks (keys_of heads) g.key)
  pub two : 2 ≤ g.count
  pub from : 1 ≤ g.size
  pub to : g.size ≤ greatest_size

-- how many bytes a group speaks for: those of an eraseblock for each header but the last
abbrev pub spoken : Group → ℕ
spoken g = (g.count - 1) * g.size

-- the image of the headers is that of the key j: no group speaks for more bytes, and none that speaks for as many has an earlier
-- key
pub record IsImage (heads : List Head) (j : ℕ) (g : Group) : Type 0 where
  pub says : Says heads j g
  pub most : (i : ℕ) (f : Group) → Says heads i f → (spoken f < spoken g) ⊎ ((spoken f ≡ spoken g) × (j ≤ i))

-- these are the groups of headers, in the order of their keys
pub record AreGroups (heads : List Head) (gs : List Group) : Type 0 where
  pub keys : map (λ g. g.key) gs ≡ keys_of heads
  pub each : All (IsGroup heads) gs

-- whether no key with the offsets of a key has a number
abbrev pub are_unnumbered : List Group → Key → Bool
are_unnumbered gs k = list_all (λ g. not (same_offsets k g.key) || (g.key.image_seq == 0)) gs

-- whether a key speaks for an image among groups
abbrev pub speaks_among : List Group → Key → Bool
speaks_among gs k = not (k.image_seq == 0) || are_unnumbered gs k

-- whether one of groups says a size
abbrev pub says_size : List Group → Group → Bool
says_size gs g = nat_le 2 g.count && nat_le 1 g.size && nat_le g.size greatest_size && speaks_among gs g.key
