use Rattle.ubi_writing.proofs.Prelude.{◌≡◌, ℕ, ◌/◌, List, Some, length, ap, refl, subst, ◌∙◌, image_of, Accepts, fits, blocks_line, count-composed, crowded}
use Rattle.ubi_writing.proofs.compose.compose_meaning.Goals as goal

-- how many eraseblocks bytes have
count : {len size peb_size : ℕ} {xs ys : List ℕ} → len ≡ length xs → size ≡ peb_size → xs ≡ ys
    → len / size ≡ length ys / peb_size
count e f same = rw (e, f, same) refl

pub returns-in_ok-blocks_line-in-Ok : goal.returns-in_ok-blocks_line-in-Ok
returns-in_ok-blocks_line-in-Ok c =
    let m = c.args.meaning.now in
    let bytes = c.in-Ok.ensures.bytes in
    let blocks = count-composed m c.geometry.ensures.limits c.geometry.ensures.meaning c.args.spares in
    fits c.in-Ok.ensures.room (subst (λ b. Accepts (image_of m.sizes b) m) bytes c.in-Ok.ensures.accepted) (record {
      text = c.in_ok-blocks_line-in-Ok.ensures
          ∙ ap blocks_line (count (c.len.ensures ∙ c.in-Ok.image.ok.0) (c.peb_size.ensures.value
          ∙ ap (λ s. s.peb_size) c.geometry.ensures.value) bytes ∙ blocks);
      status = refl;
      file = ap Some bytes;
    })

pub returns-in_ok-room_line-in-Err-TooMany : goal.returns-in_ok-room_line-in-Err-TooMany
returns-in_ok-room_line-in-Err-TooMany c =
    crowded (rw c.in-Err-TooMany.field-0-is at c.in-Err-TooMany.ensures.refused)
    (rw c.in_ok-room_line-in-Err-TooMany.ensures at c.saying.ensures)
