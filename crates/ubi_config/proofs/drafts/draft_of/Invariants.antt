use Rattle.ubi_config.proofs.Prelude.{◌≡◌, take, fold, no_draft, with_line}
use Rattle.ubi_config.proofs.drafts.draft_of.Given as goal

abbrev pub invariant-loop-line : goal.invariant-loop-line
invariant-loop-line l = l.draft ≡ fold with_line no_draft (take l.line-index l.lines)
