use Rattle.ubi_change.proofs.Prelude.{◌≡◌, Bool, true, drop, ap, sym, ◌∙◌, arith, length-drop, ◌&&◌, IfOk-weaker, is_blank, block, blocks_of}
use Rattle.ubi_change.specs.Takeable.{is_free}
use Rattle.ubi_change.proofs.WholeReads.{behind_header}
use Rattle.ubi_change.proofs.sites.is_clean.Goals as goal

pub returns-clause-clean : goal.returns-clause-clean
returns-clause-clean g c =
    let s = c.args.geometry.now in
    let free : is_free c.args.state ≡ true = sym c.if-not-is_free.ensures in
    IfOk-weaker c.is_blank_part.result _ _
    (λ b reads bytes holds. reads bytes holds
    ∙ ap is_blank (behind_header s _ _ (g.met.S.BlockSource.sized c.args.source.now) bytes
    (c.is_blank_part.ensures.narrows bytes holds) c.args.p c.requires.inside _ (omega (arith, length-drop 64 c.args.buffer.now, c.requires.room)))
    ∙ ap (λ (f : Bool). f && is_blank (drop 64 (block (blocks_of s bytes) c.args.p))) (sym free)) c.is_blank_part.ensures.blank
