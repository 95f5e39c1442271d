-- The bytes of the table of a meaning fit a LEB.
use Rattle.ubi_compose.proofs.Prelude.{◌+◌, ◌≤◌, length, arith, IsGeometry, table_bytes, length-table_bytes, IsMeaning, Meant, records_of, records_are}

pub table_fits : (m : Meant) → IsMeaning m → IsGeometry m.sizes
    → m.sizes.data_offset + length (table_bytes (records_of m)) ≤ m.sizes.peb_size
table_fits m is g = let n = length-table_bytes (records_of m) (records_are m is) in omega (arith, g.leb)
