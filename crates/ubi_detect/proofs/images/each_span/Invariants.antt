use Rattle.ubi_detect.proofs.Prelude.{◌≡◌, take, map, span_of}
use Rattle.ubi_detect.proofs.images.each_span.Given as goal

abbrev pub invariant-loop-group : goal.invariant-loop-group
invariant-loop-group l = l.spans.items ≡ map (span_of l.len) (take l.group-index l.images)
