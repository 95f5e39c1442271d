use Rattle.ubi_volume.proofs.Prelude.{image_of, blocks_of}
use Rattle.ubi_volume.proofs.CaseSizes.{dynamic_case}
use Rattle.ubi_volume.proofs.AcceptedOrRefused.{are_lebs}
use Rattle.ubi_volume.proofs.cases.case_of.Goals as goal

pub returns-in-Dynamic-clause-case : goal.returns-in-Dynamic-clause-case
returns-in-Dynamic-clause-case g c = λ bytes holds.
    let s = c.args.geometry.now in
    dynamic_case s (blocks_of s bytes) c.args.id c.args.entry.now (c.requires.scan.held bytes holds).clean
    (are_lebs (image_of s bytes)) c.args.table.now (c.requires.alike bytes holds) c.requires.recorded
    c.if-entry.false c.in-Dynamic.is
