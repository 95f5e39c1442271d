-- The pieces of a part: what is written of each is the eraseblock of a LEB of its volume.
use Rattle.ubi_compose.proofs.Prelude.{◌≡◌, ℕ, ◌+◌, ◌-◌, ◌*◌, ◌<◌, ◌≤◌, cond, List, [], ◌++◌, length, slice_range, refl, ap, sym, ◌∙◌, arith, append_assoc, length-append, length-blank, None, blank, filled, is_blank, IsGeometry, leb_size, crc_of, Sizes, data_pad, usable, plain, ec_bytes, vid_bytes, VidHeader, rec_fault, piece_begins, usable_some, filled-is, length-share, pieces, share, share_most, share_len, Parts, text_of, dynamic_block, laid_bytes, new_ec, piece_header, static_part, Part, Device, piece_of_kind, piece_bytes, replicate-append-replicate, text_size, blank_filled, share_read}
use Rattle.ubi_media.specs.declared.vid.VolKind.TheVariants as kind
use Rattle.ubi_scan.proofs.Parts as parts

-- and stands in its eraseblock anyway
blank_behind : (k more rest : ℕ) (xs : List ℕ) → k + more ≡ rest → (xs ++ blank k) ++ blank more ≡ xs ++ blank rest
blank_behind k more rest xs count =
    append_assoc xs (blank k) (blank more) ∙ ap (λ x. xs ++ x) (replicate-append-replicate k more 255)
    ∙ ap (λ m. xs ++ blank m) count

filled_again : (n k : ℕ) (xs : List ℕ) → length xs + k ≤ n → filled n (xs ++ blank k) ≡ filled n xs
filled_again n k xs room =
    let long = length-append xs (blank k) in
    let size = length-blank k in
    filled-is n (xs ++ blank k)
    ∙ blank_behind k (n - length (xs ++ blank k)) (n - length xs) xs (omega (arith, long, size, room))
    ∙ sym (filled-is n xs)

laid_filled : (s : Sizes) → IsGeometry s → (seq : ℕ) (h : VidHeader) (size : ℕ) (text : List ℕ) → length text ≤ size
    → size ≤ leb_size s → laid_bytes s (new_ec seq) (record { header = h; text = filled size text })
    ≡ laid_bytes s (new_ec seq) (record { header = h; text = text })
laid_filled s g seq h size text few room =
    let ec = ec_bytes s (new_ec seq) in
    let front : List ℕ = parts.headers s g ec (vid_bytes h) refl refl in
    let long : length front ≡ s.data_offset = parts.length-headers s g ec (vid_bytes h) refl refl in
    let k : ℕ = size - length text in
    let leb = g.leb in
    let all = length-append front text in
    ap (λ t. filled s.peb_size (front ++ t)) (filled-is size text)
    ∙ ap (filled s.peb_size) (sym (append_assoc front text (blank k)))
    ∙ filled_again s.peb_size k (front ++ text) (omega (arith, long, all, few, room, leb))

-- what is written of a piece
module _ (ps : Parts) (g : IsGeometry ps.sizes) (p : Part) (sound : rec_fault ps.sizes p.entry ≡ None)
    (bytes : List ℕ) (reaches : p.start + p.len ≤ length bytes) (lnum : ℕ)
    (inside : lnum < pieces (usable ps.sizes p.entry) (length (text_of bytes p))) where
  abbrev d : Device
  d = record { geometry = ps.sizes; image_seq = ps.image_seq }

  abbrev size : ℕ
  size = usable ps.sizes p.entry

  abbrev part : List ℕ
  part = share size (text_of bytes p) lnum

  some : 1 ≤ size
  some = usable_some ps.sizes p.entry sound

  read : slice_range bytes (p.start + lnum * size) (p.start + lnum * size + share_len size p.len lnum) ≡ part
  read =
      let begins = piece_begins size some (length (text_of bytes p)) lnum inside in
      share_read bytes p size lnum (p.start + lnum * size) (share_len size p.len lnum)
      (omega (arith, begins, text_size bytes p reaches)) refl refl

  long : length part ≡ share_len size p.len lnum
  long = length-share size some (text_of bytes p) lnum
      ∙ ap (λ n. share_len size n lnum) (text_size bytes p reaches)

  pub static_written : piece_bytes d (piece_of_kind kind.Static ps.sizes p lnum) bytes
      ≡ laid_bytes ps.sizes (new_ec ps.image_seq) (static_part (data_pad ps.sizes p.entry) size p.id (text_of bytes p) lnum)
  static_written =
      let f = λ (n l : ℕ) (t : List ℕ). laid_bytes ps.sizes (new_ec ps.image_seq)
      (record { header = piece_header (plain kind.Static 0 (data_pad ps.sizes p.entry) p.id lnum) (pieces size n) l (crc_of t); text = t }) in
      ap (f p.len (share_len size p.len lnum)) read ∙ ap (λ l. f p.len l part) (sym long)
      ∙ ap (λ n. f n (length part) part) (sym (text_size bytes p reaches))

  pub dynamic_written : piece_bytes d (piece_of_kind kind.Dynamic ps.sizes p lnum) bytes
      ≡ cond (is_blank (filled size part)) []
      (laid_bytes ps.sizes (new_ec ps.image_seq) (dynamic_block (data_pad ps.sizes p.entry) p.id (lnum, filled size part)))
  dynamic_written =
      let h = plain kind.Dynamic 0 (data_pad ps.sizes p.entry) p.id lnum in
      let laid = λ (t : List ℕ). laid_bytes ps.sizes (new_ec ps.image_seq) (record { header = h; text = t }) in
      let most = share_most size some (text_of bytes p) lnum in
      ap (λ t. cond (is_blank t) [] (laid t)) read
      ∙ ap (λ b. cond b [] (laid part)) (sym (blank_filled size part))
      ∙ ap (λ x. cond (is_blank (filled size part)) [] x)
      (sym (laid_filled ps.sizes g ps.image_seq h size part most (omega arith)))
