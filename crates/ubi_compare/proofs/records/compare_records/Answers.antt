use Rattle.ubi_compare.proofs.Prelude.{on_ok_weaker}
use Rattle.ubi_compare.proofs.Fields.{adds_records}
use Rattle.ubi_compare.proofs.records.compare_records.Goals as goal

pub returns : goal.returns
returns c =
    on_ok_weaker c.add_unless-5.result
    (adds_records c.args.id c.args.left.now c.args.right.now c.args.found.now c.add_unless.new.self c.add_unless-2.new.self
    c.add_unless-3.new.self c.add_unless-4.new.self c.add_unless-5.new.self
    (rw c.is_same_kind.ensures at c.in_ok-add_unless.ensures) c.in_ok-add_unless-2.ensures c.in_ok-add_unless-3.ensures
    c.in_ok-add_unless-4.ensures)
    (rw c.is_same_name.ensures at c.add_unless-5.ensures)
