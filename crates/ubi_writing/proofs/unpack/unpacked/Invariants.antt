use Rattle.ubi_writing.proofs.Prelude.{◌≡◌, take, vec_items, extent_in, extent_len, unpacked_lines, unpacked_status}
use Rattle.ubi_writing.proofs.unpack.unpacked.Given as goal

abbrev pub invariant-loop-listed : goal.invariant-loop-listed
invariant-loop-listed l = record {
  text : vec_items l.text ≡ unpacked_lines (λ id. extent_len (extent_in l.places id)) (take l.listed-index l.listed-items);
  status : l.status ≡ unpacked_status (λ id. extent_len (extent_in l.places id)) (take l.listed-index l.listed-items);
}
