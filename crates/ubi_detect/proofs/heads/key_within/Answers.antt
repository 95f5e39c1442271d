use Rattle.ubi_detect.proofs.Prelude.{◌∙◌, ne_eqb}
use Rattle.ubi_detect.proofs.Magics.{no_key_there}
use Rattle.ubi_detect.proofs.heads.key_within.Goals as goal

pub returns-then-read_u32-ne-EC_MAGIC : goal.returns-then-read_u32-ne-EC_MAGIC
returns-then-read_u32-ne-EC_MAGIC c =
    no_key_there c.args.bytes.now c.args.at (ne_eqb _ _ (λ e. c.if-read_u32-ne-EC_MAGIC.true (c.read_u32.ensures ∙ e)))
