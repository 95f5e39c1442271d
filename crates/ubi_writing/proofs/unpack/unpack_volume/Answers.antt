use Rattle.ubi_writing.proofs.Prelude.{ap, sym, ◌∙◌, extent_len, kept_after}
use Rattle.ubi_writing.proofs.Unpacked.{all_unpacked, can_read, none_unpacked}
use Rattle.ubi_writing.proofs.unpack.unpack_volume.Goals as goal

pub returns-in_default-clause-unpacked : goal.returns-in_default-clause-unpacked
returns-in_default-clause-unpacked g c = λ bytes holds h.
    none_unpacked _ c.extent.result c.args.path.now _ c.in_default.not-Ok (c.extent.ensures.meant _ h)

pub returns-in-Ok-work-clause-unpacked : goal.returns-in-Ok-work-clause-unpacked
returns-in-Ok-work-clause-unpacked g c = λ bytes holds h.
    all_unpacked c.args.geometry.now _ bytes holds c.args.places.now h c.args.id _
    (ap extent_len (sym c.in-Ok.is) ∙ c.extent.ensures.meant _ h) _ _ _ c.in-Ok-work.ensures.written
    (g.D.Disk.files c.args.disk.now) (g.D.Disk.files c.keep.new.self) c.args.path.now c.in-Ok-create_new.ensures.fresh
    (kept_after _ (g.D.Disk.files c.create_new.new.self) _ _ _ c.in-Ok-create_new.ensures.others
    (rw c.in-Ok-create_new.ensures.path at c.keep.ensures))

pub returns-in_default-create_new-clause-readable : goal.returns-in_default-create_new-clause-readable
returns-in_default-create_new-clause-readable g c = λ is bytes holds h.
    can_read _ _ (ap extent_len (sym c.in-Ok.is) ∙ c.extent.ensures.meant _ h)

pub returns-in-Err-Write-clause-readable : goal.returns-in-Err-Write-clause-readable
returns-in-Err-Write-clause-readable g c = λ is bytes holds h.
    can_read _ _ (ap extent_len (sym c.in-Ok.is) ∙ c.extent.ensures.meant _ h)
