use Rattle.ubi_detect.proofs.Prelude.{◌≡◌, ◌++◌, take, filter_map, page_counts, way_of}
use Rattle.ubi_detect.proofs.ways.push_ways.Given as goal

abbrev pub invariant-loop-count : goal.invariant-loop-count
invariant-loop-count l =
    l.found.items ≡ l.fn.found.items ++ filter_map (way_of l.size l.offsets l.page) (take l.count-index page_counts)
