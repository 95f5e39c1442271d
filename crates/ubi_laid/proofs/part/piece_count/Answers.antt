use Rattle.ubi_laid.proofs.Prelude.{◌∙◌, ap, arith, div_ceil, reserved_within, usable_some, usable, pieces_few}
use Rattle.ubi_laid.proofs.PieceCounts.{div_ceil-pieces}
use Rattle.ubi_laid.proofs.part.piece_count.Goals as goal

pub returns-clause-value : goal.returns-clause-value
returns-clause-value c =
    let s = c.args.geometry.now in
    let r = c.args.part.now.entry in
    c.div_ceil.ensures ∙ ap (div_ceil c.args.part.now.len) (c.from.ensures ∙ c.usable.ensures.value)
    ∙ div_ceil-pieces c.args.part.now.len (usable s r) (usable_some s r c.requires.sound)

pub returns-clause-most : goal.returns-clause-most
returns-clause-most c =
    let s = c.args.geometry.now in
    let r = c.args.part.now.entry in
    let few = pieces_few (usable s r) (usable_some s r c.requires.sound) c.args.part.now.len r.reserved c.requires.fits
    in
    let is = returns-clause-value c in
    omega (arith, few, is)

pub overflow_cast-result : goal.overflow_cast-result
overflow_cast-result c =
    let most = returns-clause-most c in
    let wide = reserved_within c.args.geometry.now c.args.part.now.entry c.requires.sound in
    omega (arith, most, wide)
