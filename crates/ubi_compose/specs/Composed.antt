-- What is composed from a meaning.
use Rattle.std.specs.Prelude.{ℕ, ◌+◌, ◌<◌, ◌≤◌, List, ◌++◌, flat_map, length, replicate}
use Rattle.ubi_media.specs.Ec.{ec_bytes}
use Rattle.ubi_media.specs.Fields.{filled}
use Rattle.ubi_media.specs.Geometry.{Sizes}
use Rattle.ubi_volume.specs.Meant.{Meant}
use Rattle.ubi_compose.specs.Normal.{normal_blocks, normal_bytes, new_ec}
use Rattle.ubi_compose.specs.declared.errors.ComposeError.{ComposeError}
use Rattle.ubi_compose.specs.declared.errors.ComposeError.TheVariants as compose

-- an eraseblock that is ready to be programmed: an erase-counter header with the image sequence number, and 0xFF after it
abbrev pub spare : Sizes → ℕ → List ℕ
spare s seq = filled s.peb_size (ec_bytes s (new_ec seq))

-- the normal image, followed by a number of spare eraseblocks
abbrev pub composed : Meant → ℕ → List ℕ
composed m spares = normal_bytes m ++ flat_map (λ b. b) (replicate spares (spare m.sizes m.image_seq))

-- the device has room for the normal image and the spare eraseblocks
abbrev pub HasRoom : Meant → ℕ → Type 0
HasRoom m spares = length (normal_blocks m) + spares ≤ m.sizes.pebs

-- why nothing is composed
abbrev pub IsComposeError : Meant → ℕ → ComposeError → Type 0
IsComposeError m spares compose.TooMany = m.sizes.pebs < length (normal_blocks m) + spares
IsComposeError m spares compose.Memory = Unit {0}
