use Rattle.ubi_change.proofs.Prelude.{◌≡◌, ◌≤◌, ◌-◌, ◌++◌, page_lines}
use Rattle.ubi_change.proofs.outline.push_pages.Given as goal

abbrev pub invariant-loop-page : goal.invariant-loop-page
invariant-loop-page l = (l.first ≤ l.page) × (l.steps.items ≡ l.fn.steps.items ++ page_lines l.fn.p l.first (l.page - l.first))
