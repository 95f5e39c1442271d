-- An eraseblock is laid piece by piece.
use Rattle.ubi_compose.proofs.Prelude.{◌≡◌, ℕ, ◌+◌, ◌-◌, List, [], ◌++◌, length, ap, sym, ◌∙◌, append_assoc, length-append, arith, blank, filled, Sizes, IsGeometry, leb_size, filled-by}
use Rattle.ubi_scan.proofs.Parts as parts

module _ (s : Sizes) (g : IsGeometry s) (ec vid text : List ℕ) (ec_size : length ec ≡ 64)
    (vid_size : length vid ≡ 64) where
  front : List ℕ
  front = ec ++ blank (s.vid_offset - 64)

  headers : List ℕ
  headers = (front ++ vid) ++ blank (s.data_offset - s.vid_offset - 64)

  filled-front : filled s.vid_offset ec ≡ front
  unfolding front
  filled-front = filled-by s.vid_offset 64 ec ec_size

  filled-headers : parts.headers s g ec vid ec_size vid_size ≡ headers
  unfolding headers
  filled-headers =
      let gap : s.data_offset - (s.vid_offset + 64) ≡ s.data_offset - s.vid_offset - 64 = omega arith in
      filled-by s.data_offset (s.vid_offset + 64) (filled s.vid_offset ec ++ vid)
      (parts.length-with_vid s g ec vid ec_size vid_size)
      ∙ ap (λ k. (filled s.vid_offset ec ++ vid) ++ blank k) gap
      ∙ ap (λ xs. (xs ++ vid) ++ blank (s.data_offset - s.vid_offset - 64)) filled-front

  length-headers : length headers ≡ s.data_offset
  length-headers = ap length (sym filled-headers) ∙ parts.length-headers s g ec vid ec_size vid_size

  length-with_text : length (headers ++ text) ≡ s.data_offset + length text
  length-with_text = length-append headers text ∙ omega (arith, length-headers)

  filled-all : filled s.peb_size (headers ++ text) ≡ (headers ++ text) ++ blank (leb_size s - length text)
  filled-all =
      let gap : s.peb_size - (s.data_offset + length text) ≡ leb_size s - length text = omega arith in
      filled-by s.peb_size (s.data_offset + length text) (headers ++ text) length-with_text
      ∙ ap (λ k. (headers ++ text) ++ blank k) gap

  with_headers : (image : List ℕ) → (((image ++ ec) ++ blank (s.vid_offset - 64)) ++ vid)
      ++ blank (s.data_offset - s.vid_offset - 64) ≡ image ++ headers
  unfolding headers front
  with_headers image =
      let a : List ℕ = blank (s.vid_offset - 64) in
      let b : List ℕ = blank (s.data_offset - s.vid_offset - 64) in
      ap (λ xs. (xs ++ vid) ++ b) (append_assoc image ec a)
      ∙ ap (λ xs. xs ++ b) (append_assoc image (ec ++ a) vid)
      ∙ append_assoc image ((ec ++ a) ++ vid) b

  -- the pieces, in order, are the eraseblock that is filled up
  pub laid-pieces : (image : List ℕ)
      → ((((((image ++ ec) ++ blank (s.vid_offset - 64)) ++ vid) ++ blank (s.data_offset - s.vid_offset - 64)) ++ text)
      ++ blank (leb_size s - length text))
      ≡ image ++ filled s.peb_size (filled s.data_offset (filled s.vid_offset ec ++ vid) ++ text)
  laid-pieces image =
      let rest : List ℕ = blank (leb_size s - length text) in
      ap (λ xs. (xs ++ text) ++ rest) (with_headers image)
      ∙ ap (λ xs. xs ++ rest) (append_assoc image headers text)
      ∙ append_assoc image (headers ++ text) rest
      ∙ ap (λ xs. image ++ xs) (sym filled-all ∙ ap (λ xs. filled s.peb_size (xs ++ text)) (sym filled-headers))

-- an eraseblock is laid in a buffer, part by part
pub laid_in_place : (s : Sizes) (g : IsGeometry s) (ec vid text first second back : List ℕ) → length ec ≡ 64
    → length vid ≡ 64 → first ≡ ec ++ blank (s.vid_offset - 64)
    → second ≡ vid ++ blank (s.data_offset - s.vid_offset - 64) → back ≡ text ++ blank (leb_size s - length text)
    → (first ++ second) ++ back ≡ filled s.peb_size (filled s.data_offset (filled s.vid_offset ec ++ vid) ++ text)
laid_in_place s g ec vid text first second back ec_size vid_size a b d =
    let front : List ℕ = ec ++ blank (s.vid_offset - 64) in
    let gap : List ℕ = blank (s.data_offset - s.vid_offset - 64) in
    let rest : List ℕ = blank (leb_size s - length text) in
    ap (λ xs. (xs ++ second) ++ back) a ∙ ap (λ xs. (front ++ xs) ++ back) b
    ∙ ap (λ xs. (front ++ (vid ++ gap)) ++ xs) d
    ∙ ap (λ xs. xs ++ (text ++ rest)) (sym (append_assoc front vid gap))
    ∙ sym (append_assoc ((front ++ vid) ++ gap) text rest)
    ∙ laid-pieces s g ec vid text ec_size vid_size []
