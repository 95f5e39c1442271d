use Rattle.ubi_map.proofs.Prelude.{◌∙◌, ◌++◌, ℕ, List, ap, refl, flat_map, script_byte}
use Rattle.ubi_map.proofs.page.page_of.Goals as goal

pub returns : goal.returns
returns c =
    let text = c.as_bytes-2.ensures.value ∙ c.in_ok-text.ensures.text c.requires in
    c.in_ok-extend_from_slice-2.ensures.items ∙ ap (λ (xs : List ℕ). xs ++ c.as_bytes-3.result.now)
    (c.in_ok-put_script.ensures ∙ ap (λ (xs : List ℕ). xs ++ flat_map script_byte c.as_bytes-2.result.now)
    (c.in_ok-extend_from_slice.ensures.items ∙ ap (λ (xs : List ℕ). xs ++ c.as_bytes.result.now) c.new-page.ensures.items))
    ∙ rw (c.as_bytes.ensures.value, text, c.as_bytes-3.ensures.value) refl
