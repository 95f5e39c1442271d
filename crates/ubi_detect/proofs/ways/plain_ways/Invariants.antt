use Rattle.ubi_detect.proofs.Prelude.{◌≡◌, ◌++◌, [], take, filter_map, page_sizes, plain_way}
use Rattle.ubi_detect.proofs.ways.plain_ways.Given as goal

abbrev pub invariant-loop-page : goal.invariant-loop-page
invariant-loop-page l = l.found.items ≡ [] ++ filter_map (plain_way l.size l.offsets) (take l.page-index page_sizes)
