use Rattle.ubi_table.proofs.Prelude.{nat_cmp, ◌+◌, ap, sym, ◌∙◌, arith, List, VolumeRecord, subst, twice, Records, option_copied}
use Rattle.std.specs.FinMap as finite
use Rattle.ubi_table.proofs.DraftedRecords.{AreBelow, below_none, below_some, listed_entries, listed_kept, listed_of, none_below}
use Rattle.ubi_table.proofs.Names.{Entry}
use Rattle.ubi_table.proofs.draft.Draft.table.Goals as goal
use Rattle.ubi_table.proofs.draft.Draft.table.Goals.{in-None, in-Some+in-Ok}

pub loop-slot-init : goal.loop-slot-init
loop-slot-init c = none_below c.self.inside.held c.new-records.result.items c.new-records.ensures.items

pub loop-slot-preserved : goal.loop-slot-preserved
loop-slot-preserved c =
    let m = c.self.inside.held in
    let slot = c.loop-slot.slot-counter in
    let es = c.loop-slot.records.items in
    elim c.match-get.branch [
      | in-None w ↦ subst (λ (x : List Entry). AreBelow m (slot + 1) x) (sym (ap (λ v. v.items) w.records-is))
          (below_none m slot es c.loop-slot.invariant
          (sym c.get.ensures.value ∙ ap option_copied w.in-None.is))
      | in-Some+in-Ok w ↦ subst (λ (x : List Entry). AreBelow m (slot + 1) x)
          (sym (ap (λ v. v.items) w.records-is ∙ w.in-Ok.ensures.items))
          (below_some m slot es c.loop-slot.invariant w.in-Some.volume.now
          (sym c.get.ensures.value ∙ ap option_copied w.in-Some.is))
    ]

pub of-requires : goal.of-requires
of-requires c =
    listed_kept c.self.inside.geometry c.self.inside.held c.self.invariant c.loop-slot.slot-counter (omega arith)
    c.loop-slot.records.items c.loop-slot.invariant
    (ap twice (sym c.as_slice.ensures.value) ∙ sym c.twice.ensures ∙ c.in-None-twice.is)

pub returns-in-Some-twice-clause-refused : goal.returns-in-Some-twice-clause-refused
returns-in-Some-twice-clause-refused c =
    let es = c.loop-slot.records.items in
    rw (← c.self.view_is)
    (ap twice (listed_entries c.self.inside.geometry c.self.inside.held c.self.invariant c.loop-slot.slot-counter (omega arith)
    es c.loop-slot.invariant) ∙ ap twice (sym c.as_slice.ensures.value) ∙ sym c.twice.ensures ∙ c.in-Some-twice.is)

pub returns-in-None-twice-clause-table : goal.returns-in-None-twice-clause-table
returns-in-None-twice-clause-table c =
    c.of.ensures
    ∙ ap {B = Records} (λ (of : finite.FinMap nat_cmp VolumeRecord). record { sizes = c.self.inside.geometry; of = of })
    (listed_of c.self.inside.geometry c.self.inside.held c.self.invariant c.loop-slot.slot-counter (omega arith)
    c.loop-slot.records.items c.loop-slot.invariant)
    ∙ c.self.view_is

pub returns-in-None-twice-clause-once : goal.returns-in-None-twice-clause-once
returns-in-None-twice-clause-once c =
    let es = c.loop-slot.records.items in
    rw (← c.self.view_is)
    (ap twice (listed_entries c.self.inside.geometry c.self.inside.held c.self.invariant c.loop-slot.slot-counter (omega arith)
    es c.loop-slot.invariant) ∙ ap twice (sym c.as_slice.ensures.value) ∙ sym c.twice.ensures ∙ c.in-None-twice.is)
