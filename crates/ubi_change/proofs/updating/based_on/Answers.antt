use Rattle.ubi_change.proofs.Prelude.{◌≤◌, Bool, ℕ, List, Option, subst, err_from_is_err_and, Holders, touchable, IsReady, IsUnready, AreHoldersOf}
use Rattle.ubi_change.proofs.UpdateCauses.{unread_is, unready_is}
use Rattle.ubi_change.proofs.updating.based_on.Goals as goal

pub returns-in_err-ready-in-Ok-clause-refused : goal.returns-in_err-ready-in-Ok-clause-refused
returns-in_err-ready-in-Ok-clause-refused g c =
    let s = c.args.geometry.now in
    let av = c.args.avoided.now in
    let es = c.args.edits.now in
    let known = c.in-Ok.known in
    let cause = c.in_err-ready-in-Ok.field-0.0 in
    let from = err_from_is_err_and c.from_residual.result c.from_residual.ensures.1 in
    let hidden = subst (λ (ends : List ℕ). IsUnready s known.surveyed ends c.as_slice-wholes.result.now known.holders es c.touchable-room.result cause)
    c.ends-ends.ensures c.in_err-ready-in-Ok.ensures.refused in
    let first = subst (λ (ws : List Bool). IsUnready s known.surveyed av.ends ws known.holders es c.touchable-room.result cause) c.as_slice-wholes.ensures.value
    hidden in
    let second = subst (λ n. IsUnready s known.surveyed av.ends known.wholes.items known.holders es n cause) c.touchable-room.ensures.value first in
    rw (from.1, from.2)
    (unready_is s (g.S.BlockSource.known c.args.source.now) (g.S.BlockSource.agrees c.known_from.new.source) av es known c.in-Ok.ensures.read c.in_default.ensures
    cause second)

pub returns-in_ok-ready-in-Ok-clause-based : goal.returns-in_ok-ready-in-Ok-clause-based
returns-in_ok-ready-in-Ok-clause-based g c =
    let s = c.args.geometry.now in
    let av = c.args.avoided.now in
    let es = c.args.edits.now in
    let known = c.in-Ok.known in
    let seen = known.surveyed in
    let r = c.in_ok-ready-in-Ok.ready in
    let is = c.in-Ok.ensures.read in
    let ready = subst (λ (ends : List ℕ). IsReady s seen ends c.as_slice-wholes.result.now known.holders es c.touchable-room.result r)
    c.ends-ends.ensures c.in_ok-ready-in-Ok.ensures.ready in
    let first = subst (λ (ws : List Bool). IsReady s seen av.ends ws known.holders es c.touchable-room.result r) c.as_slice-wholes.ensures.value ready in
    let second = subst (λ n. IsReady s seen av.ends known.wholes.items known.holders es n r) c.touchable-room.ensures.value first in
    record {
      survey = is.survey;
      blank = c.in_default.ensures;
      wholes = known.wholes.items;
      read = is.wholes;
      holders = subst (AreHoldersOf s (g.S.BlockSource.known c.args.source.now) (g.S.BlockSource.agrees c.known_from.new.source) av seen)
          ready.both is.holders;
      ready = subst (λ (o : Option Holders). IsReady s seen av.ends known.wholes.items o es (touchable av seen.states) r) ready.both second;
      readable = c.in_ok-ready-in-Ok.ensures.readable;
      pages = record {
        paged = c.in_ok-ready-in-Ok.ensures.paged;
        short = c.in_ok-ready-in-Ok.ensures.short;
        fit = c.in_ok-ready-in-Ok.ensures.fits;
        bytes = c.in_ok-ready-in-Ok.ensures.bytes;
      };
      most = subst (λ n. n ≤ s.pebs) c.touchable-room.ensures.value c.touchable-room.ensures.most;
    }

pub returns-in-Err-clause-refused : goal.returns-in-Err-clause-refused
returns-in-Err-clause-refused g c = rw c.unread.ensures
    (unread_is c.args.geometry.now (g.S.BlockSource.known c.args.source.now) (g.S.BlockSource.agrees c.known_from.new.source) c.args.avoided.now
    c.args.edits.now c.in-Err.error c.in-Err.ensures.refused)
