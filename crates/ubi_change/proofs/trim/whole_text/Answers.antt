use Rattle.ubi_change.proofs.Prelude.{◌≡◌, ℕ, ◌+◌, ◌-◌, ◌*◌, ◌≤◌, List, ap, ap₂, ◌∙◌, arith, drop, length, length-drop, length-take-le, take, blank, ◌++◌, leb_size, pieces, div_ceil, div_ceil-pieces}
use Rattle.ubi_change.proofs.Trimmed.{enough, short}
use Rattle.ubi_change.proofs.TrimmedPages.{text_filled}
use Rattle.ubi_change.proofs.trim.whole_text.Goals as goal

pub returns-clause-text : goal.returns-clause-text
returns-clause-text c =
    let s = c.args.geometry.now in
    let g = c.page.ensures.limits in
    let len = c.args.len in
    let xs : List ℕ = drop s.data_offset c.args.buffer.now in
    let all : ℕ = c.div_ceil.result * c.page.result in
    let fits : len ≤ leb_size s = c.requires.fits in
    let behind : length xs ≡ leb_size s = length-drop s.data_offset c.args.buffer.now ∙ ap (λ n. n - s.data_offset) c.requires.room in
    let long : length (take len xs) ≡ len = length-take-le len xs (omega (arith, fits, behind)) in
    let count : c.div_ceil.result ≡ pieces s.page len =
    c.div_ceil.ensures ∙ ap (λ n. div_ceil len n) c.page.ensures.value ∙ div_ceil-pieces len s.page (omega (arith, g.page_from)) in
    let is : all ≡ pieces s.page len * s.page = ap₂ (λ (a b : ℕ). a * b) count c.page.ensures.value in
    let same : pieces s.page (length (take len xs)) * s.page ≡ pieces s.page len * s.page = ap (λ n. pieces s.page n * s.page) long in
    let few : length (take len xs) ≤ leb_size s = omega (arith, long, fits) in
    let most = short s g (take len xs) few in
    let least = enough s g (take len xs) few in
    let place : c.data_offset.result ≡ s.data_offset = c.data_offset.ensures.value in
    c.blank_behind.ensures
    ∙ ap₂ (λ (n d : ℕ). take len (take n (drop d c.args.buffer.now)) ++ blank (length (take n (drop d c.args.buffer.now)) - len))
    (let e : c.data_offset.result + all - c.data_offset.result ≡ all = omega arith in e) place
    ∙ text_filled s xs len all (omega (arith, least, long, same, is)) (omega (arith, most, same, is, behind)) is
