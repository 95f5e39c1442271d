use Rattle.ubi_compose.proofs.Prelude.{◌≡◌, ◌≤◌, ◌++◌, length, vec_items, AllByRecursion, leb_size}
use Rattle.std.specs.FinMap as finite
use Rattle.ubi_compose.proofs.Puts.{dynamic_bytes}
use Rattle.ubi_compose.proofs.memory_image.put_dynamic.Given as goal

-- with those that are to come, all are there, and these fit
abbrev pub invariant-loop-lnum : goal.invariant-loop-lnum
invariant-loop-lnum l = record {
  steps : (goal.iterator-loop-lnum).can_next l.lnum-iterator × (goal.iterator-loop-lnum).is_finite l.lnum-iterator;
  fit : AllByRecursion (λ e. length e.1 ≤ leb_size l.geometry) l.lnum-iterator;
  all : vec_items l.image ++ dynamic_bytes l.geometry l.image_seq l.data_pad l.vol_id l.lnum-iterator ≡ vec_items l.initial.image
      ++ dynamic_bytes l.geometry l.image_seq l.data_pad l.vol_id (finite.entries l.lebs);
}
