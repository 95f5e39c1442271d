use Rattle.ubi_files.proofs.Prelude.{◌∙◌, ap, sym, take_all, masked}
use Rattle.ubi_files.proofs.MaskedBytes.{masked_none}
use Rattle.ubi_files.proofs.masked.mask.Goals as goal

pub loop-p-init : goal.loop-p-init
loop-p-init c = sym (masked_none c.args.size c.args.bytes.now)

pub returns : goal.returns
returns c =
    c.loop-p.invariant
    ∙ ap (λ marks. masked c.args.size marks c.args.bytes.now) (take_all c.loop-p.p c.args.marks.now c.loop-p-test.false)
