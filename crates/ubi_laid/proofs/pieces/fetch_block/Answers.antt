use Rattle.ubi_laid.proofs.Prelude.{◌≡◌, ◌+◌, ◌*◌, ◌/◌, ◌<◌, length, slice_range, ap, ◌∙◌, refl, on_ok_weaker}
use Rattle.ubi_laid.proofs.ReadBytes.{block_of_read}
use Rattle.ubi_laid.proofs.pieces.fetch_block.Goals as goal

pub returns-clause-bytes : goal.returns-clause-bytes
returns-clause-bytes g c = on_ok_weaker c.read.result
    (λ read bytes holds.
    let s = c.args.geometry.now in
    let size : length bytes ≡ (g.S.BlockSource.known c.args.source.now).size =
    (g.met.S.BlockSource.sized c.args.source.now).sized bytes (c.read.ensures.narrows bytes holds) in
    let inside : c.args.p < length bytes / s.peb_size = rw size c.requires.block in
    let at : c.from.result * c.from-2.result ≡ c.args.p * s.peb_size =
    rw (c.from.ensures, c.from-2.ensures, c.peb_size.ensures.value) refl in
    read bytes holds ∙ ap (λ n. slice_range bytes n (n + length c.args.buffer.now)) at
    ∙ ap (λ n. slice_range bytes (c.args.p * s.peb_size) (c.args.p * s.peb_size + n)) c.requires.room
    ∙ block_of_read s bytes c.args.p inside)
    c.read.ensures.bytes
