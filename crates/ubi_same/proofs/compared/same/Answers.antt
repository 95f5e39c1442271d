use Rattle.ubi_scan.proofs.InMemory.{still}
use Rattle.ubi_scan.proofs.NarrowedSource.{source_narrowed}
use Rattle.ubi_scan.specs.Source.{Narrows, holds, memory, memory_sized}
use Rattle.ubi_volume.specs.Places.{ArePlacesError}
use Rattle.ubi_compare.specs.Compared.{IsCompareFault}
use Rattle.ubi_same.proofs.SameImages.{is_same}
use Rattle.ubi_scan.specs.declared.errors.StreamError.TheVariants as stream
use Rattle.ubi_compare.specs.declared.errors.CompareFault.TheVariants as fault
use Rattle.ubi_volume.proofs.Unattached.{refuses}
use Rattle.ubi_same.proofs.compared.same.Goals as goal

pub returns-in-Ok-clause-answer : goal.returns-in-Ok-clause-answer
returns-in-Ok-clause-answer c =
    let left = c.args.left.now in
    let right = c.args.right.now in
    let l : Narrows (holds left) (holds c.same_from.new.left) = rw c.new-left.ensures at c.in-Ok.ensures.left_narrows in
    let r : Narrows (holds right) (holds c.same_from.new.right) = rw c.new-right.ensures at c.in-Ok.ensures.right_narrows in
    is_same c.args.geometry.now left right c.in-Ok.answer
    (c.in-Ok.ensures.answer left (still left c.same_from.new.left l) right (still right c.same_from.new.right r))

pub returns-in-Err-Left-Refused-clause-refused : goal.returns-in-Err-Left-Refused-clause-refused
returns-in-Err-Left-Refused-clause-refused c =
    let s = c.args.geometry.now in
    let left = c.args.left.now in
    let cause = c.in-Err-Left-Refused.cause in
    let after = holds c.same_from.new.left in
    let l : Narrows (holds left) after = rw c.new-left.ensures at c.in-Err-Left-Refused.ensures.left_narrows in
    let h : ArePlacesError s (memory left) after (stream.Refused cause) =
    rw (c.in-Err-Left-Refused.field-0-is, c.in-Err-Left-Refused.field-0-0-is, c.new-left.ensures) at
    c.in-Err-Left-Refused.ensures.refused in
    refuses s (memory left) after left cause (source_narrowed (memory left) (holds left) after l
    (memory_sized left)) (still left c.same_from.new.left l) h

pub returns-in-Err-Right-Refused-clause-refused : goal.returns-in-Err-Right-Refused-clause-refused
returns-in-Err-Right-Refused-clause-refused c =
    let s = c.args.geometry.now in
    let left = c.args.left.now in
    let right = c.args.right.now in
    let cause = c.in-Err-Right-Refused.cause in
    let after = holds c.same_from.new.right in
    let l : Narrows (holds left) (holds c.same_from.new.left) =
    rw c.new-left.ensures at c.in-Err-Right-Refused.ensures.left_narrows in
    let r : Narrows (holds right) after = rw c.new-right.ensures at c.in-Err-Right-Refused.ensures.right_narrows in
    let h : IsCompareFault s (memory left) (holds c.same_from.new.left) (memory right) after
    (fault.Right (stream.Refused cause)) =
    rw (c.in-Err-Right-Refused.field-0-is, c.in-Err-Right-Refused.field-0-0-is, c.new-right.ensures)
    at c.in-Err-Right-Refused.ensures.refused in (
      h.0 left (still left c.same_from.new.left l),
      refuses s (memory right) after right cause (source_narrowed (memory right) (holds right) after r
          (memory_sized right)) (still right c.same_from.new.right r) h.1,
    )
