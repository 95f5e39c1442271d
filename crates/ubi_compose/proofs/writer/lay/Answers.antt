use Rattle.ubi_compose.proofs.Prelude.{◌≡◌, ◌-◌, List, ℕ, ◌++◌, length, length-drop, length-take-le, take, drop, ap, refl, ◌∙◌, arith, ec_bytes, blank, leb_size, vid_bytes, new_ec}
use Rattle.ubi_compose.proofs.LaidPieces.{laid_in_place}
use Rattle.ubi_compose.proofs.writer.lay.Goals as goal

pub returns : goal.returns
returns c =
    let s = c.args.geometry.now in
    let limits = c.vid_offset-vid.ensures.limits in
    let vid_from = limits.vid_from in
    let data_from = limits.data_from in
    let leb = limits.leb in
    let ec : List ℕ = ec_bytes s (new_ec c.args.image_seq) in
    let vid : List ℕ = vid_bytes c.args.header.now in
    let text : List ℕ = take c.args.len (drop s.data_offset c.args.buffer.now) in
    let ec_size : length ec ≡ 64 = refl in
    let vid_size : length vid ≡ 64 = refl in
    let vid_at = c.vid_offset-vid.ensures.value in
    let data_at = c.data_offset-data.ensures.value in
    let h_first = c.split_at_mut-first.ensures in
    let h_leb = c.split_at_mut-headers.ensures in
    let back : List ℕ = drop s.data_offset c.args.buffer.now in
    let back_is : c.split_at_mut-headers.result.1.now ≡ back = h_leb.back
    ∙ ap (λ n. drop n c.args.buffer.now) data_at in
    let back_size : length back ≡ leb_size s = length-drop s.data_offset c.args.buffer.now
    ∙ ap (λ n. n - s.data_offset) c.requires.room in
    let text_size : length text ≡ c.args.len = length-take-le c.args.len back
    (omega (arith, back_size, c.requires.text)) in
    let first_gap : length c.split_at_mut-first.result.0.now - length ec ≡ s.vid_offset - 64 =
    omega (arith, h_first.front_len, vid_at, ec_size) in
    let second_gap : length c.split_at_mut-first.result.1.now - length vid ≡ s.data_offset - s.vid_offset - 64 =
    omega (arith, h_first.back_len, h_leb.front_len, vid_at, data_at, vid_size) in
    let last_gap : length back - c.args.len ≡ leb_size s - length text = omega (arith, back_size, text_size) in
    let a = c.put_front.ensures
    ∙ ap (λ xs. xs ++ blank (length c.split_at_mut-first.result.0.now - length xs))
    (c.write_ec.ensures.bytes ∙ ap (ec_bytes s) c.new_ec.ensures)
    ∙ ap (λ n. ec ++ blank n) first_gap in
    let b = c.put_front-2.ensures
    ∙ ap (λ xs. xs ++ blank (length c.split_at_mut-first.result.1.now - length xs)) c.write_vid.ensures.bytes
    ∙ ap (λ n. vid ++ blank n) second_gap in
    let d = c.blank_behind.ensures ∙ ap (λ xs. take c.args.len xs ++ blank (length xs - c.args.len)) back_is
    ∙ ap (λ n. text ++ blank n) last_gap in
    laid_in_place s limits ec vid text c.put_front.new.part c.put_front-2.new.part c.blank_behind.new.part ec_size
    vid_size a b d
