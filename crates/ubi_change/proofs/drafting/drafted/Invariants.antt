use Rattle.ubi_change.proofs.Prelude.{◌≡◌, ℕ, Bool, drop, map, take, None, AllByRecursion, all_records_left, first_edit_fault, writing_fault, news_of, TellsUsed, Edit}
use Rattle.ubi_change.proofs.drafting.drafted.Given as goal

abbrev pub invariant-loop-i : goal.invariant-loop-i
invariant-loop-i l = record {
  sizes : l.draft.sizes ≡ l.geometry;
  rest : (used : ℕ → ℕ → Bool) (whole : Edit → Bool) → TellsUsed l.scan.winners l.ends used → l.wholes ≡ map whole l.edits
      → first_edit_fault l.geometry used whole 0 l.fn.draft l.edits ≡ first_edit_fault l.geometry used whole l.i l.draft (drop l.i l.edits);
  left : all_records_left l.fn.draft l.edits ≡ all_records_left l.draft (drop l.i l.edits);
  sound : AllByRecursion (λ v. writing_fault l.geometry v ≡ None) (news_of (take l.i l.edits));
}
