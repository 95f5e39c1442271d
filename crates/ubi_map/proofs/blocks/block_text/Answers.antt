use Rattle.ubi_map.proofs.Prelude.{arith, names_part, rules}
use Rattle.ubi_map.proofs.blocks.block_text.Goals as goal

pub returns-in_err-read_part-clause-named : goal.returns-in_err-read_part-clause-named
returns-in_err-read_part-clause-named g c =
    names_part c.args.geometry.now c.args.p 0 _ c.from_residual.result (omega (arith, c.if-prove.false)) (search rules) (search rules)

pub returns-in_err-read_part-2-clause-named : goal.returns-in_err-read_part-2-clause-named
returns-in_err-read_part-2-clause-named g c =
    names_part c.args.geometry.now c.args.p c.vid_offset.result _ c.from_residual-in_err-read_part-2.result (omega arith) (search rules) (search rules)
