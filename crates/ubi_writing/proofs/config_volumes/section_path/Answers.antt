use Rattle.ubi_writing.proofs.Prelude.{◌∙◌, Some, ap, sym}
use Rattle.ubi_writing.specs.Contents as contents
use Rattle.ubi_writing.proofs.config_volumes.section_path.Goals as goal

pub returns-in_default-from_utf8-clause-unread : goal.returns-in_default-from_utf8-clause-unread
returns-in_default-from_utf8-clause-unread c = λ d numbers.
    contents.no_path c.as_bytes.result.now (c.in-Some.is ∙ ap Some (sym c.as_bytes.ensures))
    c.in_default-from_utf8.ensures.cases.0 c.in_ok-config_line.ensures
