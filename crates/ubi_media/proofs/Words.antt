-- What tests on literals are written with: a small geometry, and bytes as words of four.
use Rattle.ubi_media.proofs.Prelude.{ℕ, List, flat_map, big_bytes, Sizes}

-- eraseblocks of 512 bytes with pages of 64
abbrev pub small : Sizes
small = record { peb_size = 512; page = 64; vid_offset = 64; data_offset = 128; pebs = 32 }

-- the bytes of numbers of 32 bits, the highest byte first
abbrev pub words : List ℕ → List ℕ
words ws = flat_map (big_bytes 4) ws
