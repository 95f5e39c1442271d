use Rattle.ubi_change.proofs.Prelude.{sym, ◌∙◌, arith}
use Rattle.ubi_change.proofs.TrimmedPages.{blank_before, needed_is, page_read}
use Rattle.ubi_change.proofs.trim.pages_needed.Goals as goal
use Rattle.ubi_change.proofs.trim.pages_needed.Goals.{then-loop-needed-test+else-is_blank, else-loop-needed-test}

pub loop-needed-preserved : goal.loop-needed-preserved
loop-needed-preserved c =
    let s = c.args.geometry.now in
    let k = c.loop-needed.needed in
    let most = c.loop-needed.invariant.most in
    let page = c.page-page.ensures.value in
    record {
      most = omega (arith, most);
      blank = blank_before s c.args.new.now k c.loop-needed-test.true
          (sym (page_read s c.args.new.now k c.page-page.result page c.loop-needed-test.true) ∙ sym c.is_blank.ensures ∙ c.if-is_blank.true)
          c.loop-needed.invariant.blank;
    }

pub returns : goal.returns
returns c =
    needed_is c.args.geometry.now c.args.new.now c.loop-needed.needed c.requires.paged c.loop-needed.invariant.most
    c.loop-needed.invariant.blank
    (λ some. elim c.loop-needed-test.branch [
      | then-loop-needed-test+else-is_blank w ↦ sym (page_read c.args.geometry.now c.args.new.now c.loop-needed.needed
          c.page-page.result c.page-page.ensures.value some) ∙ sym w.is_blank.ensures ∙ w.if-is_blank.false
      | else-loop-needed-test w ↦ absurd (let l = w.loop-needed-test.false in omega (arith, l, some))
    ])
