use Rattle.ubi_volume.proofs.Blanks.{kept_reads, kept_some}
use Rattle.ubi_volume.proofs.block.is_kept.Goals as goal

pub returns-clause-reads : goal.returns-clause-reads
returns-clause-reads g c = λ bytes holds.
    kept_reads c.is_blank.result c.read_place.new.out _ _ c.is_blank.ensures
    (c.in_ok-read_place.ensures.bytes bytes holds) c.read_place.auto.out

pub returns-clause-some : goal.returns-clause-some
returns-clause-some g c = kept_some c.is_blank.result c.read_place.new.out _ c.is_blank.ensures
