use Rattle.ubi_writing.proofs.Prelude.{take, vec_items, AreFilesOf}
use Rattle.ubi_writing.proofs.unpack.folder_of.Given as goal

abbrev pub invariant-loop-listed : goal.invariant-loop-listed
invariant-loop-listed l = AreFilesOf l.path (take l.listed-index l.entries) (vec_items l.files)
