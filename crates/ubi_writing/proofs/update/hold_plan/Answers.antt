use Rattle.ubi_writing.proofs.Prelude.{◌∙◌, IsSoundPlan, MadeEdits, first_within, groups_within, in_order, length, plan_groups, refl, sym}
use Rattle.ubi_writing.proofs.MadeGroups.{said_lines}
use Rattle.ubi_writing.proofs.update.hold_plan.Given as given
use Rattle.ubi_writing.proofs.update.hold_plan.Goals as goal

module _ (g : given.Over) (c : goal.Joined-pages g) where
  abbrev made : MadeEdits
  made = record { geometry = c.args.geometry.now; plan = c.args.plan; counts = c.in_ok-counts.field-0.counts; stop = c.done_of.result }

  sound : IsSoundPlan (g.T.BlockSource.known c.args.pages.now.contents).size (g.T.BlockSource.agrees c.args.pages.now.contents)
      (length c.in_ok-pages.field-0.items) made
  sound =
      let s = c.args.geometry.now in
      let p = c.args.plan in
      let n = length p.surveyed.states in
      record {
        fits = c.requires.fits;
        counted = c.in_ok-counts.ensures.groups;
        counts = λ bytes held. (c.in_ok-counts.ensures.counted bytes (c.requires.laid bytes held)).counts;
        within = λ bytes held. (
          n,
          first_within s n (in_order (plan_groups s p bytes)) c.done_of.result
              (groups_within s _ p c.requires.fits bytes (c.requires.laid bytes held)),
        );
        room = sym c.in_ok-pages.field-0.ok.0 ∙ c.in_ok-pages.ensures.len ∙ c.peb_size.ensures.value;
      }

pub returns-clause-sound : goal.returns-clause-sound
returns-clause-sound g c = sound g c

pub returns-clause-ready : goal.returns-clause-ready
returns-clause-ready g c = (refl, sound g c)

pub returns-clause-held : goal.returns-clause-held
returns-clause-held g c =
    let s = c.args.geometry.now in
    let p = c.args.plan in
    record {
      edits = made g c;
      is = refl;
      sizes = refl;
      plan = refl;
      done = λ bytes held. c.done_of.ensures (in_order (plan_groups s p bytes)) (c.in_ok-counts.ensures.counted bytes (c.requires.laid bytes held)).total;
      said = λ bytes held.
          (let laid = c.requires.laid bytes held in
          said_lines c.args.lines.items c.put_number.new.text.items c.put_word.new.text.items c.put_plan.new.text.items c.in_ok-counts.field-0.total
          (in_order (plan_groups s p bytes)) c.in_ok-put_number.ensures c.in_ok-put_word.ensures (c.in_ok-put_plan.ensures bytes laid)
          (c.in_ok-counts.ensures.counted bytes laid).total);
    }
