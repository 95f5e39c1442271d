use Rattle.ubi_compare.proofs.Prelude.{on_ok_weaker, content_differences}
use Rattle.ubi_compare.proofs.Adding.{adds_settled}
use Rattle.ubi_compare.proofs.Differing.{both_told}
use Rattle.ubi_compare.proofs.volumes.compare_volume.Goals as goal

pub returns-then-is_settled-clause-told : goal.returns-then-is_settled-clause-told
returns-then-is_settled-clause-told g c = λ x xs y ys h k v w at bt.
    let s = c.args.geometry.now in
    let e = c.compare_records.new.found in
    both_told s c.args.here.now c.args.there.now x y h k c.args.id c.args.entry.now c.args.other.now c.requires.entry
    c.requires.other v w at bt c.args.found.now e e c.in_ok-compare_records.ensures
    (adds_settled e (content_differences s c.args.id v w) (c.is_settled.ensures.brief c.if-is_settled.true)
    (c.is_settled.ensures.some c.if-is_settled.true))

pub returns-clause-told : goal.returns-clause-told
returns-clause-told g c = on_ok_weaker c.compare_reading.result (λ told x xs y ys h k v w at bt.
    both_told c.args.geometry.now c.args.here.now c.args.there.now x y h k c.args.id c.args.entry.now c.args.other.now
    c.requires.entry c.requires.other v w at bt c.args.found.now c.compare_records.new.found c.compare_reading.new.found
    c.in_ok-compare_records.ensures (told x xs y ys h k v w at bt))
    c.compare_reading.ensures.told
