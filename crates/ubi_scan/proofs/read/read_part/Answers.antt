use Rattle.ubi_scan.proofs.Prelude.{◌≡◌, ◌+◌, ◌*◌, ◌/◌, ◌<◌, length, slice_range, ap, ◌∙◌, refl}
use Rattle.ubi_scan.proofs.ReadParts.{part_of_block}
use Rattle.ubi_scan.proofs.read.read_part.Goals as goal

pub returns-in-Ok-clause-bytes : goal.returns-in-Ok-clause-bytes
returns-in-Ok-clause-bytes g c = λ bytes holds.
    let s = c.args.geometry.now in
    let before = c.in-Ok.ensures.narrows bytes holds in
    let size : length bytes ≡ (g.S.BlockSource.known c.args.source.now).size =
    (g.met.S.BlockSource.sized c.args.source.now).sized bytes before in
    let inside : c.args.p < length bytes / s.peb_size = rw size c.requires.block in
    let at : c.from.result * c.from-2.result + c.from-3.result ≡ c.args.p * s.peb_size + c.args.start =
    rw (c.from.ensures, c.from-2.ensures, c.peb_size.ensures.value, c.from-3.ensures) refl in
    c.in-Ok.ensures.bytes bytes holds ∙ ap (λ n. slice_range bytes n (n + length c.args.out.now)) at
    ∙ part_of_block s bytes c.args.p c.args.start (length c.args.out.now) inside c.requires.part
