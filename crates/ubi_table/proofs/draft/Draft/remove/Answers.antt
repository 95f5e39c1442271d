use Rattle.ubi_table.proofs.Prelude.{ap, sym, subst, nat_cmp, VolumeRecord, AreDrafted, Records}
use Rattle.std.specs.FinMap as finite
use Rattle.ubi_table.proofs.DraftedRecords.{remove_tree, removed_drafted}
use Rattle.ubi_table.proofs.draft.Draft.remove.Goals as goal

pub invariant_of-self : goal.invariant_of-self
invariant_of-self c =
    let s = c.self.inside.geometry in
    let old = c.self.inside.held in
    record {
      ordered = c.remove.ensures.ordered;
      drafted = subst (λ (of : finite.FinMap nat_cmp VolumeRecord). AreDrafted (record { sizes = s; of = of }))
          (sym (remove_tree old c.remove.new.self c.args.id c.remove.ensures.updates))
          (removed_drafted (record { sizes = s; of = finite.from_entries old.entries }) c.args.id c.self.invariant.drafted);
    }

pub returns : goal.returns
returns c = rw (← c.self.view_is)
    (ap {B = Records} (λ (of : finite.FinMap nat_cmp VolumeRecord). record { sizes = c.self.inside.geometry; of = of })
    (remove_tree c.self.inside.held c.remove.new.self c.args.id c.remove.ensures.updates))
