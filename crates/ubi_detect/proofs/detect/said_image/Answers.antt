use Rattle.ubi_detect.proofs.Prelude.{◌∙◌, ap, sym, Source}
use Rattle.ubi_detect.proofs.FailedPlaces.{read_detect_error}
use Rattle.ubi_detect.proofs.Looking.{looks_err, looks_fails, looks_on, looks_same}
use Rattle.ubi_detect.proofs.SaidGroups.{not_sure}
use Rattle.ubi_detect.proofs.detect.said_image.Goals as goal

pub returns-in-Ok-true-clause-source : goal.returns-in-Ok-true-clause-source
returns-in-Ok-true-clause-source g c = looks_same _ _ _ _ _ (looks_on _ _ _ _ _ _ c.in_ok-group.ensures.source c.in-Ok-true.ensures.source)

pub returns-in-Ok-true-clause-found : goal.returns-in-Ok-true-clause-found
returns-in-Ok-true-clause-found g c = λ bytes holds. c.in_ok-group.ensures.found bytes (c.in-Ok-true.ensures.source.narrows bytes holds)

pub returns-in-Ok-true-clause-sure : goal.returns-in-Ok-true-clause-sure
returns-in-Ok-true-clause-sure g c = λ bytes holds. sym (c.in-Ok-true.ensures.sure bytes holds) ∙ c.in-Ok-true.field-0-test

pub returns-in-Ok-true-clause-groups : goal.returns-in-Ok-true-clause-groups
returns-in-Ok-true-clause-groups g c = λ bytes holds. c.in_ok-group.ensures.groups bytes (c.in-Ok-true.ensures.source.narrows bytes holds)

pub returns-in-Ok-false-clause-source : goal.returns-in-Ok-false-clause-source
returns-in-Ok-false-clause-source g c =
    looks_err _ _ _ _ _ (looks_on _ _ _ _ _ _ c.in_ok-group.ensures.source c.in-Ok-false.ensures.source)

pub returns-in-Ok-false-clause-refused : goal.returns-in-Ok-false-clause-refused
returns-in-Ok-false-clause-refused g c = λ bytes holds.
    not_sure bytes c.in_ok-group.group (c.in_ok-group.ensures.found bytes (c.in-Ok-false.ensures.source.narrows bytes holds))
    (sym (c.in-Ok-false.ensures.sure bytes holds) ∙ c.in-Ok-false.field-0-test)

pub returns-in-Err-clause-source : goal.returns-in-Err-clause-source
returns-in-Err-clause-source g c = looks_fails _ _ _ _ (looks_on _ _ _ _ _ _ c.in_ok-group.ensures.source c.in-Err.ensures.source)

pub returns-in-Err-clause-refused : goal.returns-in-Err-clause-refused
returns-in-Err-clause-refused g c =
    read_detect_error (g.S.BlockSource.known c.args.source.now) _ _ c.in-Err.error
    (ap (λ (k : Source). k.size) c.in_ok-group.ensures.source.known) c.in-Err.ensures.failed
