use Rattle.ubi_volume.proofs.Prelude.{◌≡◌, ◌+◌, ◌*◌, length, length-take-le, take, ◌∙◌, arith, err_from_is_err_and, read_text, share_len, leb_at, lebs_at, All, IsWroteError, Wrote}
use Rattle.ubi_volume.proofs.Extracted.{lebs_failed, lebs_wrote, wanted}
use Rattle.ubi_volume.proofs.NarrowedPlaces.{wrote_narrowed}
use Rattle.ubi_volume.proofs.Received.{error_as, wrote_as}
use Rattle.ubi_volume.proofs.extract.write_places.Goals as goal

pub returns-in_err-done-clause-failed : goal.returns-in_err-done-clause-failed
returns-in_err-done-clause-failed g c =
    let s = c.args.geometry.now in
    let size = c.args.extent.size in
    let n = c.loop-lnum.lnum in
    let e = c.in_err-done.field-0.0 in
    let part = take c.share_len-len.result c.loop-lnum.buffer in
    let from = err_from_is_err_and c.from_residual.result c.from_residual.ensures.1 in
    let count : c.share_len-len.result ≡ share_len size c.args.extent.bytes n = c.share_len-len.ensures in
    let long : length part ≡ share_len size c.args.extent.bytes n =
    length-take-le c.share_len-len.result c.loop-lnum.buffer (omega (arith, count)) ∙ count in
    let agrees = g.S.BlockSource.agrees c.write_leb.new.source in
    let failed : IsWroteError s (g.S.BlockSource.known c.loop-lnum.source) agrees (g.W.Write.contents c.loop-lnum.writer)
    (g.W.Write.contents c.write_leb.new.writer) (leb_at s (length part) c.place-place.result) c.loop-lnum.done e =
    c.in_err-done.ensures.failed in
    let p = c.args.places.now in
    let k = g.S.BlockSource.known c.args.source.now in
    rw (from.1, from.2)
    (error_as k agrees s _ _ (lebs_at s p c.args.id size c.args.extent.bytes c.args.extent.lebs) (read_text s p c.args.id) 0 e
    (λ image text w. wanted s p c.args.id c.args.extent image text w c.requires.places.sizes c.requires.reads)
    (lebs_failed s p c.args.id size c.args.extent.bytes n _ _ long c.place-place.ensures k agrees _ _ _ c.loop-lnum.done
    (wrote_narrowed _ agrees c.in_err-done.ensures.narrows _ _ _ All 0 c.loop-lnum.done c.loop-lnum.invariant.wrote)
    c.args.extent.lebs e c.loop-lnum-test.true (rw (← c.loop-lnum.invariant.source) failed)))

pub loop-lnum-preserved : goal.loop-lnum-preserved
loop-lnum-preserved g c =
    let s = c.args.geometry.now in
    let size = c.args.extent.size in
    let n = c.loop-lnum.lnum in
    let part = take c.share_len-len.result c.loop-lnum.buffer in
    let count : c.share_len-len.result ≡ share_len size c.args.extent.bytes n = c.share_len-len.ensures in
    let long : length part ≡ share_len size c.args.extent.bytes n =
    length-take-le c.share_len-len.result c.loop-lnum.buffer (omega (arith, count)) ∙ count in
    let agrees = g.S.BlockSource.agrees c.write_leb.new.source in
    let written : Wrote agrees (g.W.Write.contents c.loop-lnum.writer)
    (g.W.Write.contents c.write_leb.new.writer) (leb_at s (length part) c.place-place.result) All c.loop-lnum.done
    c.in_ok-done.done = c.in_ok-done.ensures.written in
    record {
      source = c.in_ok-done.ensures.known ∙ c.loop-lnum.invariant.source;
      narrows = λ bytes holds. c.loop-lnum.invariant.narrows bytes (c.in_ok-done.ensures.narrows bytes holds);
      wrote = lebs_wrote s c.args.places.now c.args.id size c.args.extent.bytes n _ _ long
          c.place-place.ensures (g.S.BlockSource.known c.args.source.now) agrees _ _ _ c.loop-lnum.done
          (wrote_narrowed _ agrees c.in_ok-done.ensures.narrows _ _ _ All 0 c.loop-lnum.done c.loop-lnum.invariant.wrote)
          c.in_ok-done.done written;
      few = (let few = c.loop-lnum.invariant.few in let more : c.in_ok-done.done
          ≡ c.loop-lnum.done + length part = c.in_ok-done.ensures.count in
          let next : (n + 1) * size ≡ n * size + size = omega arith in
          omega (arith, few, more, next, long));
    }

pub returns-clause-written : goal.returns-clause-written
returns-clause-written g c =
    let s = c.args.geometry.now in
    let p = c.args.places.now in
    let size = c.args.extent.size in
    let agrees = g.S.BlockSource.agrees c.loop-lnum.source in
    let all : c.loop-lnum.lnum ≡ c.args.extent.lebs =
    (let end = c.loop-lnum.auto.lnum-end in let test = c.loop-lnum-test.false in omega (arith, end, test)) in
    wrote_as (g.S.BlockSource.known c.args.source.now) agrees _ _ (lebs_at s p c.args.id size c.args.extent.bytes c.args.extent.lebs)
    (read_text s p c.args.id) All 0 c.loop-lnum.done
    (λ image text w. wanted s p c.args.id c.args.extent image text w c.requires.places.sizes c.requires.reads)
    (rw all at c.loop-lnum.invariant.wrote)
