-- The parts of an eraseblock that was laid out: two headers and the first bytes of a LEB. A header of bytes 0xFF is
-- Blank.
use Rattle.ubi_scan.proofs.Prelude.{◌≡◌, ◌≢◌, ℕ, ◌+◌, ◌-◌, ◌≤◌, List, ◌++◌, length, take, drop, refl, ap, sym, ◌∙◌, append_assoc, length-append, arith, drop_at, take_at, All-replicate, ec_magic, ec_reading, blank, field, filled, IsGeometry, Sizes, vid_magic, vid_reading, one_ec_reading, one_vid_reading}
use Rattle.std.specs.Prelude.{slice_range}
use Rattle.ubi_media.specs.declared.ec.EcRead.TheVariants as ec_read
use Rattle.ubi_media.specs.declared.vid.VidRead.TheVariants as vid_read
use Rattle.ubi_scan.proofs.FilledWithBlanks.{filled-by, length-filled}

no_vid_magic : field 4 0 (blank 64) ≢ vid_magic
no_vid_magic e = let all : field 4 0 (blank 64) ≡ 0xFFFFFFFF = refl in omega arith

no_ec_magic : field 4 0 (blank 64) ≢ ec_magic
no_ec_magic e = let all : field 4 0 (blank 64) ≡ 0xFFFFFFFF = refl in omega arith

pub blank_vid : (s : Sizes) → vid_reading s (blank 64) ≡ vid_read.Blank
blank_vid s =
    sym ((one_vid_reading s (blank 64) vid_read.Blank).0 (no_vid_magic, All-replicate (λ byte. byte ≡ 255) 64 255 refl))

pub blank_ec : (s : Sizes) → ec_reading s (blank 64) ≡ ec_read.Blank
blank_ec s =
    sym ((one_ec_reading s (blank 64) ec_read.Blank).0 (no_ec_magic, All-replicate (λ byte. byte ≡ 255) 64 255 refl))

-- two headers and the first bytes of a LEB, each at its place, and 0xFF elsewhere
abbrev pub laid : Sizes → List ℕ → List ℕ → List ℕ → List ℕ
laid s ec vid text = filled s.peb_size (filled s.data_offset (filled s.vid_offset ec ++ vid) ++ text)

module _ (s : Sizes) (g : IsGeometry s) (ec vid : List ℕ) (ec_size : length ec ≡ 64) (vid_size : length vid ≡ 64) where
  abbrev pub front : List ℕ
  front = filled s.vid_offset ec

  abbrev pub headers : List ℕ
  headers = filled s.data_offset (front ++ vid)

  pub length-front : length front ≡ s.vid_offset
  length-front = length-filled s.vid_offset ec (omega (arith, g.vid_from, ec_size))

  pub length-with_vid : length (front ++ vid) ≡ s.vid_offset + 64
  length-with_vid = length-append front vid ∙ omega (arith, length-front, vid_size)

  pub length-headers : length headers ≡ s.data_offset
  length-headers = length-filled s.data_offset (front ++ vid) (omega (arith, length-with_vid, g.data_from))

  module _ (text : List ℕ) (fits : s.data_offset + length text ≤ s.peb_size) where
    pub length-laid : length (laid s ec vid text) ≡ s.peb_size
    length-laid = length-filled s.peb_size (headers ++ text)
        (let n = length-append headers text in omega (arith, length-headers, fits))

    behind : List ℕ
    behind = text ++ blank (s.peb_size - (s.data_offset + length text))

    laid-headers : laid s ec vid text ≡ headers ++ behind
    unfolding behind
    laid-headers =
        filled-by s.peb_size (s.data_offset + length text) (headers ++ text)
        (length-append headers text ∙ omega (arith, length-headers))
        ∙ append_assoc headers text (blank (s.peb_size - (s.data_offset + length text)))

    pub leb-laid : drop s.data_offset (laid s ec vid text) ≡ text ++ blank (s.peb_size - (s.data_offset + length text))
    unfolding behind
    leb-laid = ap (drop s.data_offset) laid-headers ∙ drop_at headers behind s.data_offset length-headers

    below : List ℕ
    below = vid ++ (blank (s.data_offset - (s.vid_offset + 64)) ++ behind)

    laid-front : laid s ec vid text ≡ front ++ below
    unfolding below
    laid-front =
        laid-headers
        ∙ ap (λ x. x ++ behind) (filled-by s.data_offset (s.vid_offset + 64) (front ++ vid) length-with_vid)
        ∙ append_assoc (front ++ vid) (blank (s.data_offset - (s.vid_offset + 64))) behind
        ∙ append_assoc front vid (blank (s.data_offset - (s.vid_offset + 64)) ++ behind)

    pub vid-laid : slice_range (laid s ec vid text) s.vid_offset (s.vid_offset + 64) ≡ vid
    unfolding below
    vid-laid =
        let count : s.vid_offset + 64 - s.vid_offset ≡ 64 = omega arith in
        let rest : drop s.vid_offset (laid s ec vid text) ≡ below = ap (drop s.vid_offset) laid-front
        ∙ drop_at front below s.vid_offset length-front in
        rw (count, rest) (take_at vid (blank (s.data_offset - (s.vid_offset + 64)) ++ behind) 64 vid_size)

    pub ec-laid : take 64 (laid s ec vid text) ≡ ec
    ec-laid =
        ap (take 64) (laid-front ∙ ap (λ x. x ++ below) (filled-by s.vid_offset 64 ec ec_size)
        ∙ append_assoc ec (blank (s.vid_offset - 64)) below)
        ∙ take_at ec (blank (s.vid_offset - 64) ++ below) 64 ec_size
