-- What is laid out from a piece that was read into a buffer.
use Rattle.ubi_compose.proofs.Prelude.{IsInBuffer, checked_header, ◌≡◌, ℕ, ◌-◌, Bool, true, false, cond, List, [], take, drop, refl, ap, sym, ◌∙◌, VidHeader, laid_bytes, new_ec, Device, Piece, is_left_out, piece_bytes, text_held}

-- a piece that is left out, and one that isn't
module _ (d : Device) (q : Piece) (buffer bytes : List ℕ) (holds : IsInBuffer d.geometry q.origin q.len buffer bytes) where
  abbrev text : List ℕ
  text = take q.len (drop d.geometry.data_offset buffer)

  by_test : (b : Bool) → is_left_out q.header.kind text ≡ b → (h : VidHeader)
      → h ≡ checked_header q.header.kind d.geometry q.header q.origin q.len bytes
      → piece_bytes d q bytes ≡ cond b [] (laid_bytes d.geometry (new_ec d.image_seq) (record { header = h; text = text }))
  by_test b is h header =
      let laid = λ (t : List ℕ) (x : VidHeader). laid_bytes d.geometry (new_ec d.image_seq) (record { header = x; text = t }) in
      ap (λ t. cond (is_left_out q.header.kind t) []
      (laid t (checked_header q.header.kind d.geometry q.header q.origin q.len bytes)))
      (sym (text_held d.geometry q.origin q.len buffer bytes holds))
      ∙ ap (λ x. cond (is_left_out q.header.kind text) [] (laid text x)) (sym header)
      ∙ ap (λ c. cond c [] (laid text h)) is

  pub none_laid : is_left_out q.header.kind text ≡ true → piece_bytes d q bytes ≡ []
  none_laid is = by_test true is (checked_header q.header.kind d.geometry q.header q.origin q.len bytes) refl

  pub piece_laid : is_left_out q.header.kind text ≡ false → (h : VidHeader)
      → h ≡ checked_header q.header.kind d.geometry q.header q.origin q.len bytes
      → piece_bytes d q bytes ≡ laid_bytes d.geometry (new_ec d.image_seq) (record { header = h; text = text })
  piece_laid = by_test false
