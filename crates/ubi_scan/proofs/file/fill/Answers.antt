use Rattle.ubi_scan.proofs.Prelude.{rules}
use Rattle.ubi_scan.proofs.BytesAtPlace.{stand_on}
use Rattle.ubi_scan.proofs.file.fill.Goals as goal

pub loop-done-preserved : goal.loop-done-preserved
loop-done-preserved g c = record {
  within = search rules;
  same = search rules;
  stand = λ all is. stand_on all c.args.at c.loop-done.done c.in-Ok.count c.loop-done.out c.read_from.new.out _
      c.loop-done.invariant.within (search rules) (c.loop-done.invariant.stand all is) (c.in-Ok.ensures.read all is);
}
