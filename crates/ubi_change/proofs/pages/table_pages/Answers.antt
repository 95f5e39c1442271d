use Rattle.ubi_change.proofs.Prelude.{◌≡◌, ℕ, ◌%◌, ◌*◌, ◌^◌, ◌<◌, ◌≤◌, List, length, ap, ap₂, sym, ◌∙◌, subst, arith, filled, Sizes, leb_size, slots, table_bytes, pieces, pieces_suffice}
use Rattle.ubi_change.proofs.TablePages.{pages_few, pages_paged, pages_short}
use Rattle.ubi_change.proofs.pages.table_pages.Goals as goal

pub fill_up-requires : goal.fill_up-requires
fill_up-requires c =
    let s = c.args.geometry.now in
    let old = c.in_ok-bytes.bytes.items in
    let some : 1 ≤ s.page = omega (arith, c.page.ensures.limits.page_from) in
    let count : c.page_count-count.result * c.page.result ≡ pieces s.page (length old) * s.page =
    ap₂ (λ (a b : ℕ). a * b) (c.page_count-count.ensures
    ∙ ap (λ (ys : List ℕ). pieces s.page (length ys)) c.as_slice.ensures.value) c.page.ensures.value in
    subst (λ (k : ℕ). length old ≤ k) (sym count) (pieces_suffice s.page some (length old))

pub returns-clause-pages : goal.returns-clause-pages
returns-clause-pages c =
    let s = c.args.geometry.now in
    let is : c.in_ok-bytes.bytes.items ≡ table_bytes c.args.table.now = c.in_ok-bytes.ensures.bytes in
    c.in_ok-fill_up.ensures
    ∙ ap₂ filled (ap₂ (λ (a b : ℕ). a * b) (c.page_count-count.ensures
    ∙ ap (λ (ys : List ℕ). pieces s.page (length ys)) (c.as_slice.ensures.value ∙ is)) c.page.ensures.value) is

pub returns-clause-paged : goal.returns-clause-paged
unfolding returns-clause-pages
returns-clause-paged c =
    let s = c.args.geometry.now in
    let size : length (table_bytes c.args.table.now) ≡ slots s * 172 = ap length (sym c.in_ok-bytes.ensures.bytes)
    ∙ c.in_ok-bytes.ensures.size ∙ ap (λ (z : Sizes). slots z * 172) c.requires in
    subst (λ (xs : List ℕ). length xs % s.page ≡ 0) (sym (returns-clause-pages c))
    (pages_paged s c.page.ensures.limits c.args.table.now size)

pub returns-clause-short : goal.returns-clause-short
unfolding returns-clause-pages
returns-clause-short c =
    let s = c.args.geometry.now in
    let size : length (table_bytes c.args.table.now) ≡ slots s * 172 = ap length (sym c.in_ok-bytes.ensures.bytes)
    ∙ c.in_ok-bytes.ensures.size ∙ ap (λ (z : Sizes). slots z * 172) c.requires in
    subst (λ (xs : List ℕ). length xs < 2 ^ 31) (sym (returns-clause-pages c))
    (pages_few s c.page.ensures.limits c.args.table.now size)

pub returns-clause-fits : goal.returns-clause-fits
unfolding returns-clause-pages
returns-clause-fits c =
    let s = c.args.geometry.now in
    let size : length (table_bytes c.args.table.now) ≡ slots s * 172 = ap length (sym c.in_ok-bytes.ensures.bytes)
    ∙ c.in_ok-bytes.ensures.size ∙ ap (λ (z : Sizes). slots z * 172) c.requires in
    subst (λ (xs : List ℕ). length xs ≤ leb_size s) (sym (returns-clause-pages c))
    (pages_short s c.page.ensures.limits c.args.table.now size)
