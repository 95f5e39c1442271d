-- What a buffer holds after an eraseblock or a piece was read.
use Rattle.ubi_laid.proofs.Prelude.{◌≡◌, ℕ, ◌+◌, ◌-◌, ◌*◌, ◌/◌, ◌<◌, ◌≤◌, List, [], ◌++◌, length, take, drop, slice_range, ap, sym, ◌∙◌, arith, drop-append_seam, take-append_seam, take-take, IsInBuffer, piece_text, Origin, Sizes, get_or-first_chunks, block, vid_area, blocks_of}
use Rattle.ubi_laid.specs.declared.pieces.Origin.TheVariants as origin

-- what was put behind the headers' bytes
pub text_is : (xs text rest : List ℕ) (n : ℕ) → length xs ≡ n
    → take (length text) (drop n (xs ++ (text ++ rest))) ≡ text
text_is xs text rest n size =
    ap (λ k. take (length text) (drop k (xs ++ (text ++ rest)))) (sym size)
    ∙ ap (take (length text)) (drop-append_seam xs (text ++ rest)) ∙ take-append_seam text rest

-- a whole eraseblock that was read
pub block_of_read : (s : Sizes) (bytes : List ℕ) (p : ℕ) → p < length bytes / s.peb_size
    → slice_range bytes (p * s.peb_size) (p * s.peb_size + s.peb_size) ≡ block (blocks_of s bytes) p
block_of_read s bytes p inside =
    let size = s.peb_size in
    let count : p * size + size - p * size ≡ size = omega arith in
    ap (λ n. take n (drop (p * size) bytes)) count
    ∙ sym (get_or-first_chunks size (length bytes / size) bytes p [] inside)

-- the bytes of its volume-identifier header
pub vid_area_of : (s : Sizes) (b : List ℕ) (start : ℕ) → start ≡ s.vid_offset → start + 64 ≤ length b
    → take 64 (take (length b - start) (drop start b)) ≡ vid_area s b
vid_area_of s b start begin room =
    let count : 64 ≡ start + 64 - start = omega arith in
    take-take 64 (length b - start) (drop start b) (omega arith) ∙ ap (λ n. take n (drop start b)) count
    ∙ ap (λ n. slice_range b n (n + 64)) begin

-- the bytes of a piece stand where the data of an eraseblock begin
pub text_held : (s : Sizes) (o : Origin) (len : ℕ) (buffer bytes : List ℕ) → IsInBuffer s o len buffer bytes
    → take len (drop s.data_offset buffer) ≡ piece_text s o len bytes
text_held s origin.Nowhere len buffer bytes h = ap (λ n. take n (drop s.data_offset buffer)) h
text_held s (origin.Block p) len buffer bytes h = ap (λ b. take len (drop s.data_offset b)) h
text_held s (origin.Bytes start) len buffer bytes h = h
