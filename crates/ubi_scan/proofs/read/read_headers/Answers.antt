use Rattle.ubi_scan.proofs.Prelude.{rules, ◌≡◌, ◌+◌, ◌≤◌, length, slice_range, length-take-le, ap, sym, ◌∙◌, arith, ec_reading, vid_reading, block, blocks_of}
use Rattle.ubi_scan.proofs.Counters.{counter_fits}
use Rattle.ubi_scan.proofs.ReadParts.{front_of_read, part_of_read}
use Rattle.ubi_scan.proofs.FailedReads.{names_part}
use Rattle.ubi_scan.proofs.read.read_headers.Goals as goal

pub returns-clause-ec : goal.returns-clause-ec
returns-clause-ec g c = λ bytes holds.
    let s = c.args.geometry.now in
    let b = block (blocks_of s bytes) c.args.p in
    let area = c.read_part.new.out in
    let start = c.vid_offset-start.result in
    let limits = c.vid_offset-start.ensures.limits in
    let vid_from = limits.vid_from in
    let data_from = limits.data_from in
    let leb = limits.leb in
    let room : start + 64 ≤ length c.args.buffer.now = rw c.vid_offset-start.ensures.value (omega arith) in
    let count = length-take-le (start + 64) c.args.buffer.now room in
    let read : area ≡ slice_range b 0 (0 + (start + 64)) = c.in_ok-read_part.ensures.bytes bytes holds
    ∙ ap (λ n. slice_range b 0 (0 + n)) count in
    let first = rw c.unwrap.ensures at c.first_chunk.ensures.cases in
    c.read_ec-ec.ensures.value ∙ ap (ec_reading s) (first.same ∙ front_of_read b area (start + 64) (omega arith) read)

pub returns-clause-vid : goal.returns-clause-vid
returns-clause-vid g c = λ bytes holds.
    let s = c.args.geometry.now in
    let b = block (blocks_of s bytes) c.args.p in
    let area = c.read_part.new.out in
    let start = c.vid_offset-start.result in
    let limits = c.vid_offset-start.ensures.limits in
    let vid_from = limits.vid_from in
    let data_from = limits.data_from in
    let leb = limits.leb in
    let room : start + 64 ≤ length c.args.buffer.now = rw c.vid_offset-start.ensures.value (omega arith) in
    let count = length-take-le (start + 64) c.args.buffer.now room in
    let read : area ≡ slice_range b 0 (0 + (start + 64)) = c.in_ok-read_part.ensures.bytes bytes holds
    ∙ ap (λ n. slice_range b 0 (0 + n)) count in
    let size : length area ≡ start + 64 = c.read_part.auto.out ∙ count in
    let first = rw c.unwrap-2.ensures at c.first_chunk-2.ensures.cases in
    c.read_vid-vid.ensures.value ∙ ap (vid_reading s) (first.same ∙ part_of_read b area start size read
    ∙ ap (λ n. slice_range b n (n + 64)) c.vid_offset-start.ensures.value)

pub returns-clause-counter : goal.returns-clause-counter
returns-clause-counter g c = counter_fits c.args.geometry.now _ c.read_ec-ec.result (sym c.read_ec-ec.ensures.value)

pub returns-in_err-read_part-clause-named : goal.returns-in_err-read_part-clause-named
returns-in_err-read_part-clause-named g c =
    let s = c.args.geometry.now in
    let limits = c.vid_offset-start.ensures.limits in
    let vid_from = limits.vid_from in
    let data_from = limits.data_from in
    let leb = limits.leb in
    names_part s c.args.p 0 _ c.from_residual.result (omega arith) (search rules) (search rules)
