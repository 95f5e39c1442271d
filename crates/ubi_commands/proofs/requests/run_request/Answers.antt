use Rattle.ubi_commands.proofs.Prelude.{IfOk-weaker}
use Rattle.ubi_dumps.proofs.Ended.{both}
use Rattle.ubi_commands.proofs.requests.run_request.Goals as goal

pub returns-in-Extract-clause-answer : goal.returns-in-Extract-clause-answer
returns-in-Extract-clause-answer g c = rw c.in-Extract.is (IfOk-weaker c.write_file.result _ _ (λ o h. h.1) c.write_file.ensures.answer)

pub returns-in-Compose-clause-answer : goal.returns-in-Compose-clause-answer
returns-in-Compose-clause-answer g c = rw c.in-Compose.is c.compose_file.ensures.answer

pub returns-in-Normalise-clause-answer : goal.returns-in-Normalise-clause-answer
returns-in-Normalise-clause-answer g c = rw c.in-Normalise.is
    (IfOk-weaker c.write_file-in-Normalise.result _ _ (λ o h. (h.0.1, h.1))
    (both c.write_file-in-Normalise.result _ _ c.write_file-in-Normalise.ensures.answer c.write_file-in-Normalise.ensures.image))

pub returns-in-Change-clause-answer : goal.returns-in-Change-clause-answer
returns-in-Change-clause-answer g c =
    rw c.in-Change.is (both c.change_file.result _ _ c.change_file.ensures.answer c.change_file.ensures.image)

pub returns-in-Rename-clause-answer : goal.returns-in-Rename-clause-answer
returns-in-Rename-clause-answer g c =
    rw c.in-Rename.is (both c.rename_file.result _ _ c.rename_file.ensures.answer c.rename_file.ensures.image)

pub returns-in-Build-clause-answer : goal.returns-in-Build-clause-answer
returns-in-Build-clause-answer g c = rw c.in-Build.is c.build_file.ensures.answer

pub returns-in-Geometry-clause-answer : goal.returns-in-Geometry-clause-answer
returns-in-Geometry-clause-answer g c = rw (c.in-Geometry.is, ← c.greatest.ensures, ← c.given-known.ensures.dump) c.read_dump.ensures

pub returns-in-Tell-clause-answer : goal.returns-in-Tell-clause-answer
returns-in-Tell-clause-answer g c = rw c.in-Tell.is c.read_file.ensures

pub returns-in-Change-clause-others : goal.returns-in-Change-clause-others
returns-in-Change-clause-others g c =
    rw c.in-Change.is (c.change_file.ensures.stays, c.change_file.ensures.from, c.change_file.ensures.part)

pub returns-in-Rename-clause-others : goal.returns-in-Rename-clause-others
returns-in-Rename-clause-others g c = rw c.in-Rename.is (c.rename_file.ensures.stays, c.rename_file.ensures.part)

pub returns-in-Update-clause-answer : goal.returns-in-Update-clause-answer
returns-in-Update-clause-answer g c =
    rw c.in-Update.is (both c.update_file.result _ _ c.update_file.ensures.answer c.update_file.ensures.image)

pub returns-in-Update-clause-others : goal.returns-in-Update-clause-others
returns-in-Update-clause-others g c =
    rw c.in-Update.is (c.update_file.ensures.stays, c.update_file.ensures.contents, c.update_file.ensures.config, c.update_file.ensures.part)
