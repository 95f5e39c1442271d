use Rattle.ubi_laid.proofs.Prelude.{◌≡◌, ℕ, ◌+◌, ◌-◌, ◌≤◌, ◌∙◌, ap, List, ◌++◌, length, length-drop, length-take-le, take, drop, slice_range, sym, arith, on_ok_weaker}
use borrow.Rule.Slice.PartMut.{post_of}
use Rattle.ubi_laid.proofs.ReadBytes.{text_is}
use Rattle.ubi_laid.proofs.pieces.fetch_bytes.Goals as goal

pub returns-clause-bytes : goal.returns-clause-bytes
returns-clause-bytes g c =
    let s = c.args.geometry.now in
    let old : List ℕ = c.args.buffer.now in
    let len = c.args.len in
    let begin = c.data_offset-data.result in
    let at : begin ≡ s.data_offset = c.data_offset-data.ensures.value in
    let leb = c.data_offset-data.ensures.limits.leb in
    let room : begin + len - begin ≡ len = omega arith in
    let wide : begin + len ≤ length old = omega (arith, leb, c.requires.room, c.requires.fits, at) in
    let long : length (take (begin + len - begin) (drop begin old)) ≡ len = ap (λ n. length (take n (drop begin old))) room
    ∙ length-take-le len (drop begin old) (let n = length-drop begin old in omega (arith, n, wide)) in
    let out : List ℕ = c.read.new.out in
    let whole : length out ≡ len = c.read.auto.out ∙ long in
    let behind = post_of begin (begin + len - begin) old in
    on_ok_weaker c.read.result
    (λ read bytes holds. ap (λ n. take n (drop s.data_offset (take begin old ++ (out ++ behind)))) (sym whole)
    ∙ ap (λ n. take (length out) (drop n (take begin old ++ (out ++ behind)))) (sym at)
    ∙ text_is (take begin old) out behind begin (length-take-le begin old (omega (arith, wide)))
    ∙ read bytes holds ∙ ap (λ n. slice_range bytes c.args.start (c.args.start + n)) long)
    c.read.ensures.bytes
