use Rattle.ubi_detect.proofs.Prelude.{◌∙◌, [], ap, sym, option_map, page_sizes, plain_way}
use Rattle.ubi_detect.proofs.WaysThatFit.{fit_more, miss_more}
use Rattle.ubi_detect.proofs.ways.plain_ways.Goals as goal
use Rattle.ubi_detect.proofs.ways.plain_ways.Goals.{in-Some+in_ok-push, in_default}

pub loop-page-preserved : goal.loop-page-preserved
loop-page-preserved c =
    let f = plain_way c.args.size c.args.offsets.now in
    elim c.match-geometry_of.branch [
      | in-Some+in_ok-push w ↦
          ap (λ v. v.items) w.found-is ∙ w.in_ok-push.ensures.items
          ∙ fit_more f page_sizes c.loop-page.page-index 0 c.loop-page-test.true [] c.loop-page.found.items c.loop-page.invariant
          _ (ap (option_map (λ s. record { geometry = s; oob = 0 })) (sym c.geometry_of.ensures ∙ w.in-Some.is))
      | in_default w ↦
          ap (λ v. v.items) w.found-is
          ∙ miss_more f page_sizes c.loop-page.page-index 0 c.loop-page-test.true [] c.loop-page.found.items c.loop-page.invariant
          (ap (option_map (λ s. record { geometry = s; oob = 0 })) (sym c.geometry_of.ensures ∙ w.in_default.is))
    ]
