use Rattle.ubi_scan.proofs.Prelude.{◌≡◌, ◌/◌, ◌<◌, ◌≤◌, length, length-take-le, slice_range, take, ap, ◌∙◌, arith, min, crc_of, leb_size, block, leb, blocks_of, ◌==◌}
use Rattle.ubi_scan.proofs.ReadParts.{data_of_read}
use Rattle.ubi_scan.proofs.scans.is_right.Goals as goal

pub returns-clause-right : goal.returns-clause-right
returns-clause-right g c = λ bytes holds.
    let s = c.args.geometry.now in
    let h = c.args.header.now in
    let b = leb s (block (blocks_of s bytes) c.args.p) in
    let before = c.in_ok-read_leb.ensures.narrows bytes holds in
    let sized : length bytes ≡ (g.S.BlockSource.known c.args.source.now).size =
    (g.met.S.BlockSource.sized c.args.source.now).sized bytes before in
    let inside : c.args.p < length bytes / s.peb_size = rw sized c.requires.block in
    let least : c.min-size.result ≡ min h.data_size (leb_size s) = c.min-size.ensures
    ∙ ap (min h.data_size) c.leb_size.ensures.value in
    let room : c.min-size.result ≤ length c.args.buffer.now = omega arith in
    let size : length (take c.min-size.result c.args.buffer.now) ≡ min h.data_size (leb_size s) =
    length-take-le c.min-size.result c.args.buffer.now room ∙ least in
    let read = data_of_read s bytes c.read_leb.new.out c.args.p h.data_size inside
    (c.in_ok-read_leb.ensures.bytes bytes holds ∙ ap (slice_range b 0) size) in
    ap (λ n. n == h.data_crc) (c.crc.ensures ∙ ap crc_of read)
