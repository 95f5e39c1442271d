use Rattle.ubi_table.proofs.Prelude.{◌≡◌, ◌<◌, None, slots, rec_fault, ap, sym, subst, nat_cmp, nat_cmp_total, nat_cmp-IsAntisymmetric, VolumeRecord, AreDrafted, Records, insert_tree}
use Rattle.std.specs.FinMap as finite
use Rattle.ubi_table.proofs.DraftedRecords.{set_drafted}
use Rattle.ubi_table.proofs.draft.Draft.set.Goals as goal

pub invariant_of-self-2 : goal.invariant_of-self-2
invariant_of-self-2 c =
    let s = c.self.inside.geometry in
    let old = c.self.inside.held in
    record {
      ordered = c.in_ok-insert.ensures.ordered;
      drafted = subst (λ (of : finite.FinMap nat_cmp VolumeRecord). AreDrafted (record { sizes = s; of = of }))
          (sym (insert_tree nat_cmp_total nat_cmp-IsAntisymmetric old c.insert.new.self c.args.id c.args.volume
          c.in_ok-insert.ensures.updates))
          (set_drafted (record { sizes = s; of = finite.from_entries old.entries }) c.args.id c.args.volume
          (subst (λ (t : Records). c.args.id < slots t.sizes) (sym c.self.view_is) c.requires.slot)
          (subst (λ (t : Records). rec_fault t.sizes c.args.volume ≡ None) (sym c.self.view_is) c.requires.sound) c.self.invariant.drafted);
    }

pub returns : goal.returns
returns c = rw (← c.self.view_is)
    (ap {B = Records} (λ (of : finite.FinMap nat_cmp VolumeRecord). record { sizes = c.self.inside.geometry; of = of })
    (insert_tree nat_cmp_total nat_cmp-IsAntisymmetric c.self.inside.held c.insert.new.self c.args.id c.args.volume
    c.in_ok-insert.ensures.updates))
