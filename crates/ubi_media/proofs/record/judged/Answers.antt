use Rattle.ubi_media.proofs.Prelude.{◌∙◌, sym}
use Rattle.ubi_media.proofs.Records.{length_kept, name_kept}
use Rattle.ubi_media.proofs.record.judged.Goals as goal

pub record_of-requires-clause-room : goal.record_of-requires-clause-room
record_of-requires-clause-room c = length_kept c.args.geometry.now _ (sym c.fault_of.ensures ∙ c.in-None.is)

pub record_of-requires-clause-name : goal.record_of-requires-clause-name
record_of-requires-clause-name c = name_kept c.args.geometry.now _ (sym c.fault_of.ensures ∙ c.in-None.is)
