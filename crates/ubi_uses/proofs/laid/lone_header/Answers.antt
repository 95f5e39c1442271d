use Rattle.std.proofs.Common.{ap, ◌∙◌}
use Rattle.ubi_media.specs.Vid.{vid_bytes}
use Rattle.ubi_uses.proofs.laid.lone_header.Goals as goal

pub returns : goal.returns
returns c = c.write_vid.ensures.bytes ∙ ap vid_bytes c.static_header.ensures
