use Rattle.ubi_media.proofs.Prelude.{sym, subst, arith, List, ℕ, VidIs, Valid}
use Rattle.ubi_media.proofs.Headers.{Fits, vid_read_back}
use Rattle.ubi_media.proofs.Writes.{vid_sealed}
use Rattle.ubi_media.proofs.vid.write_vid.Goals as goal

pub returns-clause-bytes : goal.returns-clause-bytes
returns-clause-bytes c =
    rw (c.seal.ensures, c.front_of-bytes.ensures, c.fields_from.ensures) (vid_sealed c.args.header.now)

pub returns-clause-read_back : goal.returns-clause-read_back
returns-clause-read_back c =
    λ s sound.
    let made : Fits c.fields_from.result = record {
      vol_id = omega arith;
      lnum = omega arith;
      data_size = omega arith;
      used_ebs = omega arith;
      data_pad = omega arith;
      data_crc = omega arith;
      sqnum = omega arith;
    } in
    let fits = rw c.fields_from.ensures at made in
    subst (λ (bytes : List ℕ). VidIs s bytes (Valid c.args.header.now)) (sym (returns-clause-bytes c))
    (vid_read_back s c.args.header.now fits sound)
