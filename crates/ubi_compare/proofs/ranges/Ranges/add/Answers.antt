use Rattle.ubi_compare.proofs.Prelude.{refl, sym, ◌∙◌, Ranges}
use Rattle.std.proofs.Common.{Some}
use Rattle.ubi_compare.proofs.Ranged.{begins_apart, begins_first, joined}
use Rattle.ubi_compare.proofs.ranges.Ranges.add.Goals.{in-Some+else-follows, in_default}
use Rattle.ubi_compare.proofs.ranges.Ranges.add.Goals as goal

pub returns-then-follows : goal.returns-then-follows
returns-then-follows c =
    joined c.args.self.now (record {
      id = c.args.self.now.id;
      told = c.args.self.now.told;
      begun = Some (c.in-Some.first, c.args.lnum);
    })
    c.args.lnum c.in-Some.first c.in-Some.last c.in-Some.is (sym c.follows.ensures ∙ c.if-follows.true) refl refl refl

pub returns : goal.returns
returns c = λ rest.
    let old = c.args.self.now in
    let new : Ranges = record {
      id = c.end.new.self.id;
      told = c.end.new.self.told;
      begun = Some (c.args.lnum, c.args.lnum);
    } in
    elim c.match-self.branch [
      | in-Some+else-follows w ↦ begins_apart old new c.args.lnum c.end.ensures.id c.in_ok-end.ensures.told refl rest
          w.in-Some.first w.in-Some.last w.in-Some.is (sym w.follows.ensures ∙ w.if-follows.false)
      | in_default w ↦ begins_first old new c.args.lnum c.end.ensures.id c.in_ok-end.ensures.told refl rest w.in_default.is
    ]
