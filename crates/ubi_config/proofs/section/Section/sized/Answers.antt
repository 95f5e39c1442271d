use Rattle.ubi_config.proofs.Prelude.{◌≡◌, ap, ◌∙◌, arith, rules, None, rec_fault, reserving}
use Rattle.ubi_config.proofs.Reserved.{fault_reserving}
use Rattle.ubi_config.proofs.section.Section.sized.Goals as goal

pub returns-clause-faultless : goal.returns-clause-faultless
returns-clause-faultless c =
    let none : rec_fault c.args.geometry.now (reserving c.args.self.now 1) ≡ None = search rules in
    ap (rec_fault c.args.geometry.now) c.reserving.ensures
    ∙ fault_reserving c.args.geometry.now c.args.self.now c.max-reserved.result (omega (arith, c.max-reserved.ensures)) (omega arith) ∙ none
