use Rattle.ubi_writing.proofs.AnyContents.{any_ok, each_done, each_ok, for_any, update_failed}
use Rattle.ubi_writing.proofs.Edited.{named_done, plan_done}
use Rattle.ubi_writing.proofs.Extracted.{text_done, text_failed}
use Rattle.ubi_writing.proofs.Normalised.{meant_done, meant_failed}
use Rattle.ubi_writing.proofs.Updated.{edits_done}
use Rattle.ubi_writing.proofs.writers.Writing.answer.Goals as goal

pub returns-in-Normalise-clause-done : goal.returns-in-Normalise-clause-done
returns-in-Normalise-clause-done g c = rw c.in-Normalise.is
    (for_any _ _ _ c.run_normalise.result (meant_done _ (g.S.BlockSource.known c.args.source.now) _ _ _ c.run_normalise.result c.run_normalise.ensures.image))

pub returns-in-Normalise-clause-failed : goal.returns-in-Normalise-clause-failed
returns-in-Normalise-clause-failed g c = rw c.in-Normalise.is
    (λ is bytes held. meant_failed _ (g.S.BlockSource.known c.args.source.now) _ _ _ c.run_normalise.result c.run_normalise.ensures.err is)

pub returns-in-Extract-clause-done : goal.returns-in-Extract-clause-done
returns-in-Extract-clause-done g c = rw c.in-Extract.is
    (for_any _ _ _ c.run_extract_from.result (text_done _ (g.S.BlockSource.known c.args.source.now) _ _ _ _ c.run_extract_from.result c.run_extract_from.ensures.image))

pub returns-in-Extract-clause-failed : goal.returns-in-Extract-clause-failed
returns-in-Extract-clause-failed g c = rw c.in-Extract.is
    (λ is bytes held. text_failed _ (g.S.BlockSource.known c.args.source.now) _ _ _ _ c.run_extract_from.result c.run_extract_from.ensures.err is)

pub returns-in-Change-clause-done : goal.returns-in-Change-clause-done
returns-in-Change-clause-done g c = rw c.in-Change.is
    (for_any _ _ _ c.run_change_from-answer.result (plan_done _ _ _ _ _ _ _ _ _ _ _ c.run_change_from-answer.result c.run_change_from-answer.ensures.ok))

pub returns-in-Rename-clause-done : goal.returns-in-Rename-clause-done
returns-in-Rename-clause-done g c = rw c.in-Rename.is
    (for_any _ _ _ c.run_rename_from-answer.result (named_done _ _ _ _ _ _ _ _ _ _ c.run_rename_from-answer.result c.run_rename_from-answer.ensures.ok))

pub returns-in-Change-clause-answer : goal.returns-in-Change-clause-answer
returns-in-Change-clause-answer g c = rw (c.in-Change.is, c.hold.ensures.made) (any_ok _ _ c.run_change_from-answer.result c.run_change_from-answer.ensures.ok)

pub returns-in-Rename-clause-answer : goal.returns-in-Rename-clause-answer
returns-in-Rename-clause-answer g c = rw (c.in-Rename.is, c.hold-in-Rename.ensures.made) (any_ok _ _ c.run_rename_from-answer.result c.run_rename_from-answer.ensures.ok)

pub returns-in-Update-clause-done : goal.returns-in-Update-clause-done
returns-in-Update-clause-done g c = rw c.in-Update.is
    (each_done _ _ c.run_update_from.result (λ bytes held.
    edits_done _ _ bytes _ _ (g.S.BlockSource.known c.args.source.now) _ _ _ _ c.run_update_from.result (c.run_update_from.ensures.ok bytes held)))

pub returns-in-Update-clause-answer : goal.returns-in-Update-clause-answer
returns-in-Update-clause-answer g c = rw c.in-Update.is (each_ok _ _ c.run_update_from.result c.run_update_from.ensures.ok)

pub returns-in-Update-clause-failed : goal.returns-in-Update-clause-failed
returns-in-Update-clause-failed g c = rw c.in-Update.is
    (λ is bytes held. update_failed _ _ bytes _ _ (g.S.BlockSource.known c.args.source.now) _ _ _ c.run_update_from.result (c.run_update_from.ensures.err bytes held) is)
