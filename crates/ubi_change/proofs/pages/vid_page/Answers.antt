use Rattle.ubi_change.proofs.Prelude.{◌≡◌, ◌++◌, ◌%◌, ◌≤◌, length, ap, ap₂, subst, sym, ℕ, ◌∙◌, filled}
use Rattle.ubi_change.proofs.PageBytes.{page_holds}
use Rattle.ubi_change.proofs.pages.vid_page.Goals as goal

-- what was written before the page is filled up
written : (c : goal.After-page-2) → c.extend_from_slice.new.self.items
    ≡ filled (c.args.geometry.now.vid_offset % c.args.geometry.now.page) c.front_of.result.now ++ c.write_vid.result
written c =
    c.in_ok-extend_from_slice.ensures.items
    ∙ ap (λ x. x ++ c.write_vid.result)
    (c.in_ok-fill_up.ensures ∙ ap₂ filled (ap₂ (λ a b. a % b) c.vid_offset.ensures.value c.page.ensures.value)
    c.in_ok-bytes.ensures.items)

pub fill_up-requires-2 : goal.fill_up-requires-2
fill_up-requires-2 c =
    subst (λ (n : ℕ). length c.extend_from_slice.new.self.items ≤ n) (sym c.page-2.ensures.value)
    (page_holds c.args.geometry.now c.page.ensures.limits c.front_of.result.now c.write_vid.result
    c.extend_from_slice.new.self.items c.front_of.ensures.fits
    (ap length c.write_vid.ensures.bytes) (written c))

pub returns : goal.returns
returns c = c.new.ensures ∙ c.in_ok-fill_up-2.ensures
    ∙ ap₂ filled c.page-2.ensures.value (c.in_ok-extend_from_slice.ensures.items
    ∙ ap₂ (λ x y. x ++ y) (c.in_ok-fill_up.ensures
    ∙ ap₂ filled (ap₂ (λ a b. a % b) c.vid_offset.ensures.value c.page.ensures.value)
    (c.in_ok-bytes.ensures.items ∙ c.front_of.ensures.value))
    c.write_vid.ensures.bytes)
