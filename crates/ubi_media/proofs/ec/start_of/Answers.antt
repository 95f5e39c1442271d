-- A version other than 1 and a counter above the largest are faults under any offsets.
use Rattle.ubi_media.proofs.Starts.{other_counter, other_version}
use Rattle.ubi_media.proofs.ec.start_of.Goals as goal
use Rattle.ubi_media.proofs.ec.start_of.Goals.{then-fields-ne-VERSION-via-then-fields-ne-VERSION, then-fields-ne-VERSION-via-else-fields-ne-VERSION+then-fields-gt-LARGEST_COUNTER}

pub returns-then-fields-ne-VERSION : goal.returns-then-fields-ne-VERSION
returns-then-fields-ne-VERSION c =
    elim c.then-fields-ne-VERSION.branch [
      | then-fields-ne-VERSION-via-then-fields-ne-VERSION w ↦
          other_version c.args.fields.now w.if-fields-ne-VERSION.true
      | then-fields-ne-VERSION-via-else-fields-ne-VERSION+then-fields-gt-LARGEST_COUNTER w ↦
          other_counter c.args.fields.now w.if-fields-ne-VERSION.false w.if-fields-gt-LARGEST_COUNTER.true
    ]
