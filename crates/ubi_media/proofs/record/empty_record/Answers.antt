use Rattle.ubi_media.proofs.Prelude.{refl, check_from, remainder, overwrite, empty_record}
use Rattle.ubi_media.proofs.record.empty_record.Goals as goal

pub returns : goal.returns
unfolding empty_record overwrite check_from remainder
returns c = rw c.put_u32.ensures refl
