use Rattle.ubi_files.proofs.Prelude.{◌≡◌, take, masked}
use Rattle.ubi_files.proofs.masked.mask.Given as goal

-- the first eraseblocks are masked
abbrev pub invariant-loop-p : goal.invariant-loop-p
invariant-loop-p l = l.bytes ≡ masked l.size (take l.p l.marks) l.fn.bytes
