use Rattle.ubi_change.proofs.PageBytes.{filled_up}
use Rattle.ubi_change.proofs.pages.fill_up.Goals as goal

pub returns : goal.returns
returns c = filled_up c.resize.result c.args.size _ c.args.bytes.now.items c.resize.new.self.items c.requires
    c.args.bytes.now.ok.0 c.resize.ensures.items
