use Rattle.ubi_compare.proofs.Prelude.{refl, Found}
use Rattle.ubi_compare.proofs.Adding.{adds_list}
use Rattle.ubi_compare.proofs.found.Found.extend.Goals as goal

pub returns : goal.returns
returns c =
    let new : Found = record { list = c.extend_from_slice.new.self; is_brief = c.args.self.now.is_brief } in
    adds_list c.args.self.now new c.args.differences.now refl c.in_ok-extend_from_slice.ensures.items
