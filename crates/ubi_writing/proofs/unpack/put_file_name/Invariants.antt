use Rattle.ubi_writing.proofs.Prelude.{◌≡◌, ◌++◌, string_bytes, take, flat_map, file_byte}
use Rattle.ubi_writing.proofs.unpack.put_file_name.Given as goal

abbrev pub invariant-loop-byte : goal.invariant-loop-byte
invariant-loop-byte l = string_bytes l.file ≡ string_bytes l.initial.file ++ flat_map file_byte (take l.byte-index l.name)
