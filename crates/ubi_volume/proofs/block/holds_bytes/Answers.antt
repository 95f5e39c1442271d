use Rattle.ubi_volume.proofs.Prelude.{◌+◌, ap, length, sym, ◌∙◌, is_blank, block, blocks_of}
use Rattle.std.specs.Prelude.{not, slice_range}
use Rattle.ubi_volume.proofs.Blanks.{blank_holds, leb_long, part_is}
use Rattle.ubi_volume.proofs.block.holds_bytes.Goals as goal

pub returns-in_default-clause-holds : goal.returns-in_default-clause-holds
returns-in_default-clause-holds g c = λ bytes holds.
    rw c.in_default.is (sym (ap not (blank_holds (length c.args.buffer.now))))

pub returns-clause-holds : goal.returns-clause-holds
returns-clause-holds g c = λ bytes holds.
    let s = c.args.geometry.now in
    let b = block (blocks_of s bytes) c.in-Some.p in
    let n = length c.args.buffer.now in
    rw c.in-Some.is
    (ap not (c.in_ok-blank.ensures.blank bytes holds
    ∙ ap (λ d. is_blank (slice_range b d (d + n))) c.data_offset-2.ensures.value
    ∙ ap is_blank (part_is b s.data_offset n)))

pub returns-in_default-clause-long : goal.returns-in_default-clause-long
returns-in_default-clause-long g c = λ bytes holds.
    leb_long c.args.geometry.now _ _ (g.met.S.BlockSource.sized c.args.source.now) bytes holds _ c.args.place
    c.requires.block c.requires.part

pub returns-clause-long : goal.returns-clause-long
returns-clause-long g c = λ bytes holds.
    leb_long c.args.geometry.now _ _ (g.met.S.BlockSource.sized c.args.source.now) bytes
    (c.in_ok-blank.ensures.narrows bytes holds) _ c.args.place c.requires.block c.requires.part
