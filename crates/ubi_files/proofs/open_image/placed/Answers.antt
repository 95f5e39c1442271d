use Rattle.ubi_files.proofs.Prelude.{◌≡◌, ◌*◌, ◌≤◌, ℕ, ap, ap₂, arith, ◌∙◌, subst, sym, Sizes, part_len}
use Rattle.ubi_files.proofs.SeenBytes.{seen_is, viewed_sized}
use Rattle.ubi_files.proofs.open_image.placed.Goals as goal

pub overflow_mul-frame : goal.overflow_mul-frame
overflow_mul-frame g c =
    let frame = c.args.frame.now in
    let size : c.from.result ≡ frame.geometry.peb_size = c.from.ensures ∙ c.peb_size.ensures.value in
    let P : ℕ → Type 0 = λ n. frame.before * n ≤ frame.dump.part.start in
    let few = subst P (sym size) frame.few in
    let part = c.of-part.result.file in
    let inside = part.inside in
    let counted = part.file.counted in
    let start = c.of-part.ensures.start in
    omega (arith, few, inside, counted, start)

pub of-behind-requires : goal.of-behind-requires
of-behind-requires g c =
    let frame = c.args.frame.now in
    let size : c.from.result ≡ frame.geometry.peb_size = c.from.ensures ∙ c.peb_size.ensures.value in
    let P : ℕ → Type 0 = λ n. frame.before * n ≤ frame.dump.part.start in
    let few = subst P (sym size) frame.few in
    let part = c.of-part.result.file in
    let inside = part.inside in
    let counted = part.file.counted in
    let pages = c.of-pages.ensures.few in
    let start = c.of-part.ensures.start in
    let len = c.of-part.ensures.len in
    let all = c.of-part.ensures.part in
    omega (arith, few, inside, counted, pages, start, len, all)

pub of-requires : goal.of-requires
of-requires g c =
    let behind = c.of-behind.result in
    rw c.new-seen.ensures.file
    (viewed_sized c.new-seen.result.size c.new-seen.result.marks.now _ c.len-len-2.result
    (rw c.len-len-2.ensures behind.sized))

pub returns-clause-held : goal.returns-clause-held
returns-clause-held g c =
    let frame = c.args.frame.now in
    let behind = c.of-behind.result.file in
    let pages = c.of-pages.result.file in
    let part = c.of-part.result.file in
    let size = c.peb_size-2.ensures.value ∙ ap (λ (s : Sizes). s.peb_size) frame.sizes in
    rw (c.of.ensures.file, c.new-seen.ensures.file, c.of-behind.ensures.file, c.of-pages.ensures.file, c.of-part.ensures.file)
    (seen_is frame.dump (g.F.PlacedFile.bytes c.args.file.file) c.new-seen.result.size pages.page pages.oob part.start part.len c.len-len.result
    behind.before c.new-seen.result.marks.now
    (c.new-seen.ensures.size ∙ size)
    (c.new-seen.ensures.marks ∙ c.as_slice.ensures.value ∙ frame.marked)
    (c.of-pages.ensures.page ∙ c.page-2.ensures.value ∙ ap (λ (s : Sizes). s.page) frame.sizes)
    c.of-pages.ensures.oob c.of-part.ensures.start (c.of-part.ensures.part ∙ c.unwrap_or-part_len.ensures)
    (c.of-behind.ensures.before
    ∙ ap₂ (λ (b n : ℕ). b * n) frame.led (c.from.ensures ∙ c.peb_size.ensures.value ∙ ap (λ (s : Sizes). s.peb_size) frame.sizes))
    (rw c.len-len.ensures c.args.file.sized))
