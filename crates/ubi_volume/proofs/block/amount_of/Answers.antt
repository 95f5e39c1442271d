use Rattle.ubi_volume.proofs.AmountAt.{damaged_amount, dynamic_amount, static_amount, updating_amount}
use Rattle.ubi_volume.proofs.block.amount_of.Goals as goal

pub returns-in-Updating-clause-amount : goal.returns-in-Updating-clause-amount
returns-in-Updating-clause-amount g c = λ bytes holds.
    updating_amount c.args.geometry.now c.args.places.now c.args.id c.args.entry.now c.requires.recorded bytes
    c.in-Updating.ensures

pub returns-in-Damaged-clause-amount : goal.returns-in-Damaged-clause-amount
returns-in-Damaged-clause-amount g c = λ bytes holds.
    damaged_amount c.args.geometry.now c.args.places.now c.args.id c.args.entry.now c.requires.recorded bytes
    c.in-Damaged.ensures

pub returns-in-Static-clause-amount : goal.returns-in-Static-clause-amount
returns-in-Static-clause-amount g c = λ bytes holds.
    static_amount c.args.geometry.now c.args.places.now c.args.id c.args.entry.now c.requires.recorded bytes
    c.in-Static.lebs c.in-Static.bytes c.in-Static.ensures

pub returns-in_ok-count-in-Dynamic-clause-amount : goal.returns-in_ok-count-in-Dynamic-clause-amount
returns-in_ok-count-in-Dynamic-clause-amount g c = λ bytes holds.
    dynamic_amount c.args.geometry.now c.args.places.now c.args.id c.args.entry.now c.requires.recorded bytes
    c.in-Dynamic.ensures c.in_ok-count-in-Dynamic.count
    (c.in_ok-count-in-Dynamic.ensures.count bytes holds)
