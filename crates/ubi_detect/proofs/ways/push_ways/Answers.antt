use Rattle.ubi_detect.proofs.Prelude.{◌∙◌, ap, sym, page_counts, way_of}
use Rattle.ubi_detect.proofs.WaysThatFit.{fit_more, miss_more}
use Rattle.ubi_detect.proofs.ways.push_ways.Goals as goal
use Rattle.ubi_detect.proofs.ways.push_ways.Goals.{in-Some+in_ok-push, in_default}

pub loop-count-preserved : goal.loop-count-preserved
loop-count-preserved c =
    let f = way_of c.args.size c.args.offsets.now c.args.page in
    let before = c.args.found.now.items in
    elim c.match-way_of.branch [
      | in-Some+in_ok-push w ↦
          ap (λ v. v.items) w.found-is ∙ w.in_ok-push.ensures.items
          ∙ fit_more f page_counts c.loop-count.count-index 0 c.loop-count-test.true before c.loop-count.found.items c.loop-count.invariant
          w.in-Some.way (sym c.way_of.ensures ∙ w.in-Some.is)
      | in_default w ↦
          ap (λ v. v.items) w.found-is
          ∙ miss_more f page_counts c.loop-count.count-index 0 c.loop-count-test.true before c.loop-count.found.items c.loop-count.invariant
          (sym c.way_of.ensures ∙ w.in_default.is)
    ]
