use Rattle.ubi_scan.proofs.Prelude.{◌∙◌, subst, sym, StandsAt}
use Rattle.ubi_scan.proofs.BytesAtPlace.{held_stand}
use Rattle.ubi_scan.proofs.file.read_by.Goals.{else-give, then-give}
use Rattle.ubi_scan.proofs.file.read_by.Goals as goal

pub returns-clause-read : goal.returns-clause-read
returns-clause-read g c = λ is all told.
    elim c.if-give.branch [
      | then-give w ↦ subst (StandsAt all c.args.at) (sym w.out-is)
          (held_stand all c.give.new.self c.args.at c.give.new.out (c.give.ensures.told all told) (c.give.ensures.held w.if-give.true))
      | else-give w ↦ subst (StandsAt all c.args.at) (sym w.out-is) (w.fill-is_read.ensures (sym w.is_read-is ∙ is) all told)
    ]
