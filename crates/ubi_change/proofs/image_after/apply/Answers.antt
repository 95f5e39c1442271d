use Rattle.ubi_change.proofs.Prelude.{◌≡◌, ◌<◌, ◌+◌, ◌-◌, ◌*◌, ◌/◌, ◌≤◌, List, [], ℕ, true, refl, length, set, take, drop, ap, sym, ◌∙◌, subst, arith, length-drop, length-take-le, overwrite, Sizes, put_all, block, eraseblocks, image_of, length-first_chunks, get_or-first_chunks, piece_within, fits, block_after, step_done, target, Step}
use Rattle.ubi_change.proofs.Stepped.{chunks-written, fits_inside, rest-written}
use Rattle.ubi_change.proofs.image_after.apply.Goals as goal

inside : (s : Sizes) (image : List ℕ) (x : Step) (p : ℕ) → p ≡ target x
    → fits s (eraseblocks (image_of s image)) x ≡ true → p < length image / s.peb_size
inside s image x p e h =
    subst (λ (n : ℕ). n < length image / s.peb_size) (sym e)
    (subst (λ (n : ℕ). target x < n) (length-first_chunks s.peb_size (length image / s.peb_size) image)
    (fits_inside s _ x h))

pub slice_bounds-apply_to-end : goal.slice_bounds-apply_to-end
slice_bounds-apply_to-end c =
    let len = length c.args.image.now in
    let s = c.args.geometry.now in
    let e = c.peb_size-size.ensures.value in
    let limits = c.peb_size-size.ensures.limits in
    let page = limits.page_from in
    let more = limits.peb_from in
    let h : c.eraseblock.result < len / s.peb_size =
    inside s c.args.image.now c.args.step.now c.eraseblock.result c.eraseblock.ensures c.requires in
    let k : c.eraseblock.result * c.peb_size-size.result + c.peb_size-size.result ≤ len =
    subst (λ (n : ℕ). c.eraseblock.result * n + n ≤ len) (sym e)
    (piece_within s.peb_size c.eraseblock.result len (omega arith) h) in
    omega arith

part_length : (image : List ℕ) (p n peb : ℕ) → n ≡ peb → 0 < peb → p < length image / peb
    → length (take (p * n + n - p * n) (drop (p * n) image)) ≡ p * n + n - p * n
part_length image p n peb e some h =
    let w : p * n + n ≤ length image = subst (λ (k : ℕ). p * k + k ≤ length image) (sym e)
    (piece_within peb p (length image) some h) in
    length-take-le (p * n + n - p * n) (drop (p * n) image) (let l = length-drop (p * n) image in omega arith)

module _ (s : Sizes) (image new : List ℕ) (x : Step) (p n : ℕ) (some : 0 < s.peb_size) (e : n ≡ s.peb_size)
    (is : p ≡ target x) (fit : fits s (eraseblocks (image_of s image)) x ≡ true)
    (size : length new ≡ p * n + n - p * n)
    (done : new ≡ block_after s (take (p * n + n - p * n) (drop (p * n) image)) x) where
  k-is : p * n + n - p * n ≡ s.peb_size
  k-is = omega arith

  long : length new ≡ s.peb_size
  long = size ∙ k-is

  here : p < length image / s.peb_size
  here = inside s image x p is fit

  block-is : take (p * n + n - p * n) (drop (p * n) image) ≡ block (eraseblocks (image_of s image)) p
  block-is =
      ap (λ k. take k (drop (p * n) image)) k-is ∙ ap (λ k. take s.peb_size (drop (p * k) image)) e
      ∙ sym (get_or-first_chunks s.peb_size (length image / s.peb_size) image p [] here)

  put-is : (at : ℕ) → at ≡ p * n → overwrite at new image ≡ overwrite (p * s.peb_size) new image
  put-is at h = ap (λ k. overwrite k new image) (h ∙ ap (λ k. p * k) e)

  blocks-is : eraseblocks (record { sizes = s; bytes = overwrite (p * s.peb_size) new image })
      ≡ step_done s (eraseblocks (image_of s image)) x
  blocks-is =
      chunks-written s.peb_size p new image some long here
      ∙ ap (set (eraseblocks (image_of s image)) p) (done ∙ ap (λ b. block_after s b x) block-is)
      ∙ ap (λ (q : ℕ). set (eraseblocks (image_of s image)) q
      (block_after s (block (eraseblocks (image_of s image)) q) x)) is

pub returns-clause-done : goal.returns-clause-done
returns-clause-done c =
    let s = c.args.geometry.now in
    let image = c.args.image.now in
    let p = c.eraseblock.result in
    let n = c.peb_size-size.result in
    let limits = c.peb_size-size.ensures.limits in
    let some : 0 < s.peb_size = (let page = limits.page_from in let more = limits.peb_from in omega arith) in
    let new = c.apply_to.new.block in
    let size : length new ≡ p * n + n - p * n = c.apply_to.auto.block
    ∙ part_length image p n s.peb_size c.peb_size-size.ensures.value some
    (inside s image c.args.step.now p c.eraseblock.ensures c.requires) in
    ap (λ (y : List ℕ). eraseblocks (image_of s y)) (put_all (p * n) (p * n + n - p * n) new image size
    ∙ put-is s image new c.args.step.now p n some c.peb_size-size.ensures.value c.eraseblock.ensures c.requires size
    c.apply_to.ensures (p * n) refl)
    ∙ blocks-is s image new c.args.step.now p n some c.peb_size-size.ensures.value c.eraseblock.ensures c.requires size
    c.apply_to.ensures

pub returns-clause-rest : goal.returns-clause-rest
returns-clause-rest c =
    let s = c.args.geometry.now in
    let image = c.args.image.now in
    let p = c.eraseblock.result in
    let n = c.peb_size-size.result in
    let limits = c.peb_size-size.ensures.limits in
    let some : 0 < s.peb_size = (let page = limits.page_from in let more = limits.peb_from in omega arith) in
    let new = c.apply_to.new.block in
    let size : length new ≡ p * n + n - p * n = c.apply_to.auto.block
    ∙ part_length image p n s.peb_size c.peb_size-size.ensures.value some
    (inside s image c.args.step.now p c.eraseblock.ensures c.requires) in
    ap (drop (length image / s.peb_size * s.peb_size)) (put_all (p * n) (p * n + n - p * n) new image size
    ∙ put-is s image new c.args.step.now p n some c.peb_size-size.ensures.value c.eraseblock.ensures c.requires size
    c.apply_to.ensures (p * n) refl)
    ∙ rest-written s.peb_size p new image some (size ∙ (let e = c.peb_size-size.ensures.value in omega arith))
    (inside s image c.args.step.now p c.eraseblock.ensures c.requires)
