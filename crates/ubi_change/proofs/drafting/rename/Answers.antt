use Rattle.ubi_change.proofs.Prelude.{ap, sym, ◌∙◌, sound_named, is_name}
use Rattle.ubi_change.proofs.drafting.rename.Goals as goal

pub set-requires-clause-sound : goal.set-requires-clause-sound
set-requires-clause-sound c =
    let named = c.in-Some-new.ensures in
    sound_named c.args.draft.now.sizes c.in-Some.entry c.in-Some-new.name (ap is_name named.1 ∙ named.0)
    (c.get.ensures.draft.sound c.args.id c.in-Some.entry (sym c.get.ensures.value ∙ sym c.in-Some.ensures))
