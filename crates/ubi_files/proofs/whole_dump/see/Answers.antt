use Rattle.ubi_files.proofs.Prelude.{◌≡◌, ◌∙◌, length, with_items_is}
use Rattle.ubi_files.proofs.whole_dump.see.Goals as goal

pub returns : goal.returns
returns c =
    let long : length c.mask.new.bytes ≡ c.truncate.new.self.len = c.mask.auto.bytes ∙ c.as_mut_slice.ensures.len in
    with_items_is c.truncate.new.self c.mask.new.bytes long
    ∙ rw (c.peb_size-2.ensures.value, c.as_slice.ensures.value, c.as_mut_slice.ensures.value, c.truncate.ensures.items, c.in_ok-seen.ensures, c.bytes_before.ensures, c.keep_pages.ensures, c.page.ensures.value, c.pebs.ensures.value, c.peb_size.ensures.value) at c.mask.ensures
