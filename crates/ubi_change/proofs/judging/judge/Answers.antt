use Rattle.ubi_change.proofs.Prelude.{ℕ, ◌+◌, List, inl, inr, arith, refl, ap, ap₂, sym, ◌∙◌, Records, VolumeRecord, entries, Part, space, twice, autoresized_twice}
use Rattle.ubi_change.proofs.JudgedFirst.{none_below, rank_within}
use Rattle.ubi_change.proofs.judging.judge.Goals as goal
use Rattle.ubi_change.proofs.judging.judge.Goals.{else-new-old-via-then-new-old+else-new-room, else-new-old-via-else-new-old}

pub returns-then-has-needs-clause-refused : goal.returns-then-has-needs-clause-refused
returns-then-has-needs-clause-refused c = λ used whole tells each.
    let s = c.args.geometry.now in
    let t = c.args.surveyed.now.records in
    let es = c.args.edits.now in
    let p = c.in_ok-draft.ensures.placed in
    let draft = p.draft used tells in
    record {
      stands = (p.needs, p.has used tells, c.if-has-needs.true);
      first = none_below s used whole t c.args.room es 3 (record {
        edits = λ l. p.faultless used whole tells each;
        names = λ l. ap (λ (t : Records). twice (entries t.of)) (sym draft) ∙ c.in-Ok.ensures.once;
        slots = λ l. absurd (omega arith);
        space = λ l. absurd (omega arith);
        alone = λ l. absurd (omega arith);
      });
    }

pub returns-then-new-room-clause-refused : goal.returns-then-new-room-clause-refused
returns-then-new-room-clause-refused c = λ used whole tells each.
    let s = c.args.geometry.now in
    let t = c.args.surveyed.now.records in
    let es = c.args.edits.now in
    let p = c.in_ok-draft.ensures.placed in
    let draft = p.draft used tells in
    let now = c.space-new.ensures.value ∙ ap space (c.in-Ok.ensures.table ∙ draft) in
    let old = c.space-old.ensures.value ∙ ap space c.table-3.ensures in
    record {
      stands = (ap (λ n. n + 2) now, refl, omega (arith, now, old, c.if-new-old.true), c.if-new-room.true);
      first = none_below s used whole t c.args.room es 4 (record {
        edits = λ l. p.faultless used whole tells each;
        names = λ l. ap (λ (t : Records). twice (entries t.of)) (sym draft) ∙ c.in-Ok.ensures.once;
        slots = λ l. omega (arith, p.needs, p.has used tells, c.if-has-needs.false);
        space = λ l. absurd (omega arith);
        alone = λ l. absurd (omega arith);
      });
    }

pub returns-in-Some-clause-refused : goal.returns-in-Some-clause-refused
returns-in-Some-clause-refused c = λ used whole tells each.
    let s = c.args.geometry.now in
    let t = c.args.surveyed.now.records in
    let es = c.args.edits.now in
    let p = c.in_ok-draft.ensures.placed in
    let draft = p.draft used tells in
    let now = c.space-new.ensures.value ∙ ap space (c.in-Ok.ensures.table ∙ draft) in
    let old = c.space-old.ensures.value ∙ ap space c.table-3.ensures in
    record {
      stands = ap₂ (λ (ps : List Part) (es : List (ℕ × VolumeRecord)). autoresized_twice ps es)
          (sym (c.as_slice.ensures.value ∙ p.parts used tells))
          (sym (c.entries.ensures.value ∙ ap (λ (t : Records). entries t.of) (c.in-Ok.ensures.table ∙ draft)))
          ∙ sym c.autoresized_twice.ensures ∙ c.in-Some.is;
      first = none_below s used whole t c.args.room es 5 (record {
        edits = λ l. p.faultless used whole tells each;
        names = λ l. ap (λ (t : Records). twice (entries t.of)) (sym draft) ∙ c.in-Ok.ensures.once;
        slots = λ l. omega (arith, p.needs, p.has used tells, c.if-has-needs.false);
        space = λ l. elim c.else-new-old.branch [
          | else-new-old-via-then-new-old+else-new-room w ↦ inr (omega (arith, now, w.if-new-room.false))
          | else-new-old-via-else-new-old w ↦ inl (omega (arith, now, old, w.if-new-old.false))
        ];
        alone = λ l. absurd (omega arith);
      });
    }

pub returns-clause-judged : goal.returns-clause-judged
returns-clause-judged c = λ used whole tells each.
    let s = c.args.geometry.now in
    let t = c.args.surveyed.now.records in
    let es = c.args.edits.now in
    let p = c.in_ok-draft.ensures.placed in
    let draft = p.draft used tells in
    let now = c.space-new.ensures.value ∙ ap space (c.in-Ok.ensures.table ∙ draft) in
    let old = c.space-old.ensures.value ∙ ap space c.table-3.ensures in
    record {
      none = λ cause. none_below s used whole t c.args.room es 10 (record {
        edits = λ l. p.faultless used whole tells each;
        names = λ l. ap (λ (t : Records). twice (entries t.of)) (sym draft) ∙ c.in-Ok.ensures.once;
        slots = λ l. omega (arith, p.needs, p.has used tells, c.if-has-needs.false);
        space = λ l. elim c.else-new-old.branch [
          | else-new-old-via-then-new-old+else-new-room w ↦ inr (omega (arith, now, w.if-new-room.false))
          | else-new-old-via-else-new-old w ↦ inl (omega (arith, now, old, w.if-new-old.false))
        ];
        alone = λ l. ap₂ (λ (ps : List Part) (es : List (ℕ × VolumeRecord)). autoresized_twice ps es)
            (sym (c.as_slice.ensures.value ∙ p.parts used tells))
            (sym (c.entries.ensures.value ∙ ap (λ (t : Records). entries t.of) (c.in-Ok.ensures.table ∙ draft)))
            ∙ sym c.autoresized_twice.ensures ∙ c.in-None.is;
      }) cause (rank_within cause);
      parts = p.parts used tells;
      table = c.in-Ok.ensures.table ∙ draft;
    }
