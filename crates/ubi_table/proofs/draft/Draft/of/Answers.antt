use Rattle.ubi_table.proofs.Prelude.{◌≡◌, ◌<◌, ◌+◌, suc, length, take, get_or, get_or_default, ap, sym, ◌∙◌, subst, arith, T, from_entries, is_sorted, nat_cmp, nat_cmp_total, nat_cmp-IsAntisymmetric, insert_tree, List, VolumeRecord, take-suc, AreDrafted}
use Rattle.std.specs.FinMap as finite
use Rattle.ubi_table.proofs.Names.{Entry}
use Rattle.ubi_table.proofs.DraftedRecords.{made_again, none_before}
use Rattle.ubi_table.proofs.draft.Draft.of.Goals as goal

pub loop-i-preserved : goal.loop-i-preserved
loop-i-preserved c =
    let es = c.entries-entries.result.now in
    let i = c.loop-i.i in
    let inside : i < length es = c.loop-i-test.true in
    let x : Entry = c.index-entries-i.result in
    let y : Entry = c.index-entries-i-in-loop-i.result in
    let e = get_or es i x in
    let sorted : T (is_sorted nat_cmp es) =
    subst (λ (l : List Entry). T (is_sorted nat_cmp l)) (sym c.entries-entries.ensures.value) (finite.entries_sorted c.args.table.now.of) in
    record {
      ordered = c.in_ok-insert.ensures.ordered;
      of = insert_tree nat_cmp_total nat_cmp-IsAntisymmetric c.loop-i.held c.insert.new.self e.0 (get_or es i y).1
          c.in_ok-insert.ensures.updates
          ∙ ap (λ (m : finite.FinMap nat_cmp VolumeRecord). finite.insert m e.0 (get_or es i y).1) c.loop-i.invariant.of
          ∙ ap (λ (d : Entry). finite.insert (from_entries {R = nat_cmp} (take i es)) e.0 d.1) (get_or_default es i y x inside)
          ∙ sym (finite.from_entries_push nat_cmp_total nat_cmp-IsAntisymmetric (take i es) e.0 e.1 (none_before es i x sorted inside))
          ∙ ap (λ (l : List Entry). from_entries {R = nat_cmp} l) (sym (take-suc es i x inside))
          ∙ ap (λ n. from_entries {R = nat_cmp} (take n es)) (let n : suc i ≡ i + 1 = omega arith in n);
    }

pub invariant_of-result : goal.invariant_of-result
invariant_of-result c =
    let t = c.args.table.now in
    let es = c.entries-entries.result.now in
    let of = c.loop-i.invariant.of ∙ made_again t es c.loop-i.i c.entries-entries.ensures.value c.loop-i-test.false in
    let kept : AreDrafted t = record { slot = c.geometry.ensures.table.slot; sound = c.geometry.ensures.table.sound } in
    record {
      ordered = c.loop-i.invariant.ordered;
      drafted = subst AreDrafted (λ j. record { sizes = sym c.geometry.ensures.value j; of = sym of j }) kept;
    }

pub returns : goal.returns
returns c =
    let of = c.loop-i.invariant.of
    ∙ made_again c.args.table.now c.entries-entries.result.now c.loop-i.i c.entries-entries.ensures.value c.loop-i-test.false in
    λ j. record { sizes = c.geometry.ensures.value j; of = of j }
