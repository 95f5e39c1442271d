-- What stands in bytes after numbers were written into them.
use Rattle.ubi_media.proofs.Prelude.{◌≡◌, ℕ, ◌+◌, ◌≤◌, List, [], ◌++◌, length, take, drop, set, replicate, refl, sym, ap, ◌∙◌, arith, append_assoc, length-take, length-append, min, append-nil, drop-drop, take_at, drop_of_length-le, big_bytes, crc_of, ec_magic, ec_front, ec_bytes, overwrite, sealed, Sizes, vid_magic, vid_front, vid_bytes, EcHeader, VidFields, VidHeader}
use borrow.Rule.Slice.PartMut.{put_mid, mid_of}
use Rattle.ubi_media.specs.Vid.{fields_from}

-- a write of the whole part of k bytes
pub put_all : (at k : ℕ) (xs bytes : List ℕ) → length xs ≡ k → put_mid at k bytes xs ≡ overwrite at xs bytes
unfolding overwrite
put_all at k xs bytes e =
    rw e (ap (λ (ys : List ℕ). take at bytes ++ (xs ++ ys)) (drop-drop k at bytes)
    ∙ sym (append_assoc (take at bytes) xs (drop (at + k) bytes)))

-- a write of k bytes into the part of k bytes
pub put_is : (at k : ℕ) (xs bytes : List ℕ) → length xs ≡ k → at + k ≤ length bytes
    → put_mid at k bytes (xs ++ drop k (mid_of at k bytes)) ≡ overwrite at xs bytes
put_is at k xs bytes e h =
    let count : length (take k (drop at bytes)) ≡ min k (length (drop at bytes)) = length-take k (drop at bytes) in
    let none : drop k (mid_of at k bytes) ≡ [] = drop_of_length-le (mid_of at k bytes) (omega (arith, count)) in
    rw (none, append-nil xs) (put_all at k xs bytes e)

-- a write over the end of bytes
overwrite_end : (at : ℕ) (xs front rest : List ℕ) → length front ≡ at → length rest ≡ length xs
    → overwrite at xs (front ++ rest) ≡ front ++ xs
unfolding overwrite
overwrite_end at xs front rest e h =
    let none : drop (at + length xs) (front ++ rest) ≡ [] =
    drop_of_length-le (front ++ rest) (omega (arith, length-append front rest)) in
    rw (none, take_at front rest at e) (append-nil (front ++ xs))

-- the check over the last four bytes
pub sealed_is : (at : ℕ) (front rest : List ℕ) → length front ≡ at → length rest ≡ 4
    → overwrite at (big_bytes 4 (crc_of (take at (front ++ rest)))) (front ++ rest) ≡ sealed front
sealed_is at front rest e h =
    ap (λ (part : List ℕ). overwrite at (big_bytes 4 (crc_of part)) (front ++ rest)) (take_at front rest at e)
    ∙ overwrite_end at (big_bytes 4 (crc_of front)) front rest e h

-- the fields of an erase-counter header over zeros
pub ec_assembled : (s : Sizes) (h : EcHeader)
    → overwrite 24 (big_bytes 4 h.image_seq)
    (overwrite 20 (big_bytes 4 s.data_offset)
    (overwrite 16 (big_bytes 4 s.vid_offset)
    (overwrite 8 (big_bytes 8 h.counter)
    (overwrite 0 (big_bytes 4 ec_magic) (set (replicate 64 0) 4 1)))))
    ≡ ec_front s h ++ replicate 4 0
unfolding overwrite
ec_assembled s h = refl

pub ec_sealed : (s : Sizes) (h : EcHeader)
    → overwrite 60 (big_bytes 4 (crc_of (take 60 (ec_front s h ++ replicate 4 0)))) (ec_front s h ++ replicate 4 0)
    ≡ ec_bytes s h
unfolding overwrite
ec_sealed s h = refl

-- the fields of a volume-identifier header over zeros
pub vid_assembled : (f : VidFields)
    → overwrite 40 (big_bytes 8 f.sqnum)
    (overwrite 32 (big_bytes 4 f.data_crc)
    (overwrite 28 (big_bytes 4 f.data_pad)
    (overwrite 24 (big_bytes 4 f.used_ebs)
    (overwrite 20 (big_bytes 4 f.data_size)
    (overwrite 12 (big_bytes 4 f.lnum)
    (overwrite 8 (big_bytes 4 f.vol_id)
    (overwrite 0 (big_bytes 4 vid_magic)
    (set (set (set (set (replicate 64 0) 4 1) 5 f.kind) 6 f.copy_flag) 7 f.compat))))))))
    ≡ vid_front f ++ replicate 4 0
unfolding overwrite
vid_assembled f = refl

pub vid_sealed : (h : VidHeader)
    → overwrite 60 (big_bytes 4 (crc_of (take 60 (vid_front (fields_from h) ++ replicate 4 0))))
    (vid_front (fields_from h) ++ replicate 4 0) ≡ vid_bytes h
unfolding overwrite
vid_sealed h = refl
