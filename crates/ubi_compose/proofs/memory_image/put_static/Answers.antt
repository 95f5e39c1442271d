use Rattle.ubi_compose.proofs.Prelude.{◌≡◌, ◌++◌, ap, ◌∙◌, arith, share, laid_bytes, new_ec, static_block}
use Rattle.ubi_compose.proofs.Puts.{put_more, static_all, static_is}
use Rattle.ubi_compose.proofs.memory_image.put_static.Goals as goal

pub loop-lnum-preserved : goal.loop-lnum-preserved
loop-lnum-preserved c =
    let s = c.args.geometry.now in
    let used = c.pieces-used_ebs.result in
    put_more
    (λ l. laid_bytes s (new_ec c.args.image_seq) (static_block c.args.data_pad c.args.vol_id used l
    (share c.args.size c.args.text.now l))) c.loop-lnum.lnum _ _ _ _
    c.loop-lnum.invariant c.in_ok-put_block.ensures
    (static_is s c.args.image_seq c.args.data_pad c.args.size c.args.vol_id used c.loop-lnum.lnum _ c.args.text.now _
    c.static_header-header.ensures c.share_of-part.ensures)

pub returns : goal.returns
returns c =
    let used = c.pieces-used_ebs.result in
    let last : c.loop-lnum.lnum ≡ used = omega arith in
    c.loop-lnum.invariant
    ∙ ap (λ xs. c.args.image.now.items ++ xs)
    (static_all c.args.geometry.now c.args.image_seq c.args.data_pad c.args.size c.args.vol_id used c.loop-lnum.lnum c.args.text.now
    c.pieces-used_ebs.ensures last)
