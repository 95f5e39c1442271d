-- The name of a volume: 1 to 127 bytes, none of them zero.
use Rattle.std.specs.Prelude.{◌≡◌, ℕ, ◌==◌, ◌&&◌, Bool, true, not, nat_le, List, length, take}
use Rattle.std.specs.List.{list_any}
use Rattle.ubi_media.specs.Fields.{padded}

-- whether bytes are a name
abbrev pub is_name : List ℕ → Bool
is_name name = nat_le 1 (length name) && nat_le (length name) 127 && not (list_any (λ byte. byte == 0) name)

-- the first `len` bytes are a name, and zeros stand after it
pub record IsPadded (bytes : List ℕ) (len : ℕ) : Type 0 where
  pub name : is_name (take len bytes) ≡ true
  pub len_is : length (take len bytes) ≡ len
  pub rest : padded (take len bytes) ≡ bytes
