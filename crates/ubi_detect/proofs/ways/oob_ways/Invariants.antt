use Rattle.ubi_detect.proofs.Prelude.{◌≡◌, take, filter_map, flat_map, page_sizes, page_counts, way_of}
use Rattle.ubi_detect.proofs.ways.oob_ways.Given as goal

abbrev pub invariant-loop-page : goal.invariant-loop-page
invariant-loop-page l =
    l.found.items ≡ flat_map (λ page. filter_map (way_of l.size l.offsets page) page_counts) (take l.page-index page_sizes)
