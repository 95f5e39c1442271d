use Rattle.ubi_table.proofs.Prelude.{◌≡◌, ◌∙◌, subst, arith, IfSome, err_from_is_err_and, Source, blocks_of, IsCopyOfError, IsCopyTable, HasSpace}
use Rattle.ubi_table.proofs.Deciding.{NoneDecides, both_corrupt, none_more, table_chosen}
use Rattle.ubi_table.proofs.Streamed.{error_of_copy}
use Rattle.ubi_table.proofs.choice.first_decided.Goals as goal

pub returns-in_err-table-clause-refused : goal.returns-in_err-table-clause-refused
returns-in_err-table-clause-refused g c =
    let s = c.args.geometry.now in
    let known = g.S.BlockSource.known c.args.source.now in
    let e = c.in_err-table.field-0.0 in
    let p = err_from_is_err_and c.from_residual.result c.from_residual.ensures.1 in
    let agrees = g.S.BlockSource.agrees c.decided.new.source in
    let h = subst (λ (k : Source). IsCopyOfError s k agrees c.loop-c.c e) c.loop-c.invariant.source
    c.in_err-table.ensures.refused in
    rw (p.1, p.2) (error_of_copy s known agrees c.loop-c.c e (omega arith)
    (λ bytes holds. c.loop-c.invariant.none bytes (c.in_err-table.ensures.narrows bytes holds)) h)

pub returns-in-Some-clause-table : goal.returns-in-Some-clause-table
returns-in-Some-clause-table g c =
    let s = c.args.geometry.now in
    record {
      sizes = subst (λ o. IfSome o (λ t. t.sizes ≡ s)) c.in-Some.is c.in_ok-table.ensures.sizes;
      space = subst (λ o. IfSome o (HasSpace s)) c.in-Some.is c.in_ok-table.ensures.space;
      held = λ bytes holds.
          let bs = blocks_of s bytes in
          let before = c.in_ok-table.ensures.narrows bytes holds in
          table_chosen s bs c.loop-c.c c.in-Some.table (omega arith) (c.loop-c.invariant.none bytes before)
          (subst (IsCopyTable s bs c.loop-c.c) c.in-Some.is (c.in_ok-table.ensures.table.held bytes holds));
    }

pub loop-c-preserved : goal.loop-c-preserved
loop-c-preserved g c =
    let s = c.args.geometry.now in
    record {
      source = c.in_ok-table.ensures.known ∙ c.loop-c.invariant.source;
      narrows = λ bytes holds. c.loop-c.invariant.narrows bytes (c.in_ok-table.ensures.narrows bytes holds);
      none = λ bytes holds.
          let bs = blocks_of s bytes in
          let before = c.in_ok-table.ensures.narrows bytes holds in
          none_more s bs c.loop-c.c (c.loop-c.invariant.none bytes before)
          (subst (IsCopyTable s bs c.loop-c.c) c.in-None.is (c.in_ok-table.ensures.table.held bytes holds));
    }

pub returns-clause-refused : goal.returns-clause-refused
returns-clause-refused g c =
    let s = c.args.geometry.now in
    let both : c.loop-c.c ≡ 2 = omega arith in
    rw c.into.ensures (λ bytes holds. both_corrupt s (blocks_of s bytes) c.args.scan.now c.requires.some.0
    (c.requires.scan.held bytes (c.loop-c.invariant.narrows bytes holds))
    (subst (NoneDecides s (blocks_of s bytes)) both (c.loop-c.invariant.none bytes holds)) c.requires.some.1)
