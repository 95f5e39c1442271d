use Rattle.ubi_media.proofs.Records.{number_faults}
use Rattle.ubi_media.proofs.record.rec_fault.Goals as goal

pub returns-clause-number : goal.returns-clause-number
returns-clause-number c =
    rw (c.fault_of.ensures, c.fields_from.ensures.value)
    (number_faults c.args.geometry.now c.args.volume.now c.fields_from.ensures.name)
