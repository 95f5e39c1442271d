use Rattle.ubi_change.proofs.Prelude.{◌≡◌, ◌<◌, ◌+◌, ◌-◌, ◌*◌, ◌/◌, ◌≤◌, List, ℕ, length, take, drop, ap, sym, ◌∙◌, subst, arith, length-first_chunks, get_or-first_chunks, piece_within}
use Rattle.ubi_change.proofs.image_after.page_in.Goals as goal

pub slice_bounds-block-end : goal.slice_bounds-block-end
slice_bounds-block-end c =
    let len = length c.args.image.now in
    let peb = c.args.geometry.now.peb_size in
    let e = c.peb_size-size.ensures.value in
    let limits = c.peb_size-size.ensures.limits in
    let page = limits.page_from in
    let more = limits.peb_from in
    let h : c.args.p < len / peb = subst (λ (n : ℕ). c.args.p < n)
    (length-first_chunks peb (len / peb) c.args.image.now) c.requires.lies in
    let k : c.args.p * c.peb_size-size.result + c.peb_size-size.result ≤ len =
    subst (λ (n : ℕ). c.args.p * n + n ≤ len) (sym e) (piece_within peb c.args.p len (omega arith) h) in
    omega arith

pub returns : goal.returns
returns c =
    let image = c.args.image.now in
    let len = length image in
    let peb = c.args.geometry.now.peb_size in
    let ps = c.args.geometry.now.page in
    let h : c.args.p < len / peb = subst (λ (n : ℕ). c.args.p < n)
    (length-first_chunks peb (len / peb) image) c.requires.lies in
    let size : c.args.p * c.peb_size-size.result + c.peb_size-size.result - c.args.p * c.peb_size-size.result ≡ peb =
    (let e = c.peb_size-size.ensures.value in omega arith) in
    let start : c.args.p * c.peb_size-size.result ≡ c.args.p * peb =
    ap (λ n. c.args.p * n) c.peb_size-size.ensures.value in
    let at : c.args.page * c.page.result ≡ c.args.page * ps = ap (λ n. c.args.page * n) c.page.ensures.value in
    let count : c.args.page * c.page.result + c.page-2.result - c.args.page * c.page.result
    ≡ c.args.page * ps + ps - c.args.page * ps = (let e = c.page-2.ensures.value in omega arith) in
    ap
    (λ n. take n (drop (c.args.page * c.page.result)
    (take (c.args.p * c.peb_size-size.result + c.peb_size-size.result - c.args.p * c.peb_size-size.result)
    (drop (c.args.p * c.peb_size-size.result) image)))) count
    ∙ ap (λ n. take (c.args.page * ps + ps - c.args.page * ps)
    (drop n (take (c.args.p * c.peb_size-size.result + c.peb_size-size.result - c.args.p * c.peb_size-size.result)
    (drop (c.args.p * c.peb_size-size.result) image)))) at
    ∙ ap (λ n. take (c.args.page * ps + ps - c.args.page * ps)
    (drop (c.args.page * ps) (take n (drop (c.args.p * c.peb_size-size.result) image)))) size
    ∙ ap (λ n. take (c.args.page * ps + ps - c.args.page * ps) (drop (c.args.page * ps) (take peb (drop n image))))
    start
    ∙ ap (λ (y : List ℕ). take (c.args.page * ps + ps - c.args.page * ps) (drop (c.args.page * ps) y))
    (sym (get_or-first_chunks peb (len / peb) image c.args.p _ h))
