use Rattle.ubi_compose.proofs.Prelude.{◌+◌, ◌<◌, ◌∙◌, Ok, subst, arith, err_from_is_err_and, All, wrote_narrowed, IsReadIn, volume_bytes}
use Rattle.ubi_compose.proofs.Received.{both_put, firsts, next, next_failed}
use Rattle.ubi_compose.proofs.writer.put_volumes.Goals as goal

pub returns-in_err-total-clause-put : goal.returns-in_err-total-clause-put
returns-in_err-total-clause-put g c =
    let d = c.args.device.now in
    let ps = g.C.Contents.pieces c.args.contents.now in
    let agrees = g.S.BlockSource.agrees c.put_volume.new.source in
    let from = err_from_is_err_and c.from_residual.result c.from_residual.ensures.1 in
    rw (from.1, from.2)
    (next_failed (volume_bytes d ps) (IsReadIn d.geometry ps (g.S.BlockSource.failed_at c.put_volume.new.source)) agrees
    _ _ _ _ c.loop-id.id c.args.done c.loop-id.total c.in_err-total.field-0.0
    (subst (λ n. c.loop-id.id < n) c.slots-id-end.ensures.value c.loop-id-test.true)
    (wrote_narrowed _ agrees c.put_volume.ensures.narrows _ _ _ All c.args.done c.loop-id.total c.loop-id.invariant.wrote)
    c.in_err-total.ensures.put)

pub loop-id-preserved : goal.loop-id-preserved
loop-id-preserved g c =
    let d = c.args.device.now in
    let ps = g.C.Contents.pieces c.args.contents.now in
    let agrees = g.S.BlockSource.agrees c.put_volume.new.source in
    let bytes = volume_bytes d ps in
    record {
      source = c.in_ok-total.ensures.known ∙ c.loop-id.invariant.source;
      narrows = λ bytes holds. c.loop-id.invariant.narrows bytes (c.in_ok-total.ensures.narrows bytes holds);
      wrote = both_put (IsReadIn d.geometry ps (g.S.BlockSource.failed_at c.put_volume.new.source)) agrees
          (firsts bytes (c.loop-id.id + 1)) (firsts bytes c.loop-id.id) (bytes c.loop-id.id) (next bytes c.loop-id.id)
          _ _ _ c.args.done c.loop-id.total (Ok c.in_ok-total.total)
          (wrote_narrowed _ agrees c.put_volume.ensures.narrows _ _ _ All c.args.done c.loop-id.total
          c.loop-id.invariant.wrote)
          c.in_ok-total.ensures.put;
      few = (let few = c.loop-id.invariant.few in let most = c.in_ok-total.ensures.most in omega (arith, few, most));
    }
