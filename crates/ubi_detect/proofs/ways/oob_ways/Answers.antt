use Rattle.ubi_detect.proofs.Prelude.{◌∙◌, ◌++◌, List, ap, get_or, sym, ℕ, Way, filter_map, flat_map, take_all, page_sizes, page_counts, way_of}
use Rattle.ubi_detect.proofs.WaysThatFit.{found_more}
use Rattle.ubi_detect.proofs.ways.oob_ways.Goals as goal

pub loop-page-preserved : goal.loop-page-preserved
loop-page-preserved c =
    let f : ℕ → List Way = λ page. filter_map (way_of c.args.size c.args.offsets.now page) page_counts in
    c.in_ok-push_ways.ensures ∙ ap (λ xs. xs ++ f (get_or page_sizes c.loop-page.page-index 0)) c.loop-page.invariant
    ∙ sym (found_more f page_sizes c.loop-page.page-index 0 c.loop-page-test.true)

pub returns : goal.returns
returns c =
    let f : ℕ → List Way = λ page. filter_map (way_of c.args.size c.args.offsets.now page) page_counts in
    c.loop-page.invariant ∙ ap (flat_map f) (take_all c.loop-page.page-index page_sizes c.loop-page-test.false)
