-- Readings and bytes of volume-identifier headers on literals.
use Rattle.ubi_media.proofs.Prelude.{◌≡◌, ℕ, List, VidRead, [], ◌∷◌, replicate, true, false, refl, check_from, remainder, form_of, vid_bytes, vid_fields, vid_reading, header_of, VidHeader, Valid, Dynamic, Static, ⊤, map}
use Rattle.ubi_media.specs.Vid.{fields_from, judged, first_fault, breaks}
use Rattle.ubi_media.specs.declared.vid.VidFault.TheVariants as fault
use Rattle.ubi_media.specs.declared.vid.VidRead.TheVariants.{Blank, Corrupt, Fault}
use Rattle.ubi_media.proofs.Words.{small, words}

-- the first logical eraseblock of the first volume, a dynamic one
base : VidHeader
base = record {
  kind = Dynamic;
  copy_flag = false;
  compat = 0;
  vol_id = 0;
  lnum = 0;
  data_size = 0;
  used_ebs = 0;
  data_pad = 0;
  data_crc = 0;
  sqnum = 0;
}

-- what is unfolded to compute a header on a literal
unfoldable on_literals : ⊤
unfolding base vid_reading form_of judged first_fault breaks vid_fields header_of check_from remainder
on_literals = tt

-- a header by its version, kind, copy flag and compat, its volume, its number, the size of its data, how many eraseblocks are used,
-- its pad, the check of its data, and its check, which another program has worked out
abbrev header : ℕ → ℕ → ℕ → ℕ → ℕ → ℕ → ℕ → ℕ → List ℕ
header kinds vol lnum size used pad crc sum =
    words (0x55424921 ∷ kinds ∷ vol ∷ lnum ∷ 0 ∷ size ∷ used ∷ pad ∷ crc ∷ 0 ∷ 0 ∷ 0 ∷ 0 ∷ 0 ∷ 0 ∷ sum ∷ [])

-- bytes are read as what stands beside them
abbrev HaveReadings : List (List ℕ × VidRead) → Type 0
HaveReadings rows = map (λ e. vid_reading small e.0) rows ≡ map (λ e. e.1) rows

valid : HaveReadings (
    -- plain
    (header 0x01010000 0 0 0 0 0 0 0x73b1ab57, Valid base) ∷
    -- another version, which isn't compared
    (header 0x09010000 0 0 0 0 0 0 0x9f1935ef, Valid base) ∷
    -- preserved
    (header 0x01010004 0x7fffefff 0 0 0 0 0 0xc6fdd4e9, Valid (record base { compat = 4; vol_id = 0x7fffefff })) ∷
    -- largest pad
    (header 0x01010000 0 0 0 0 0x000000bf 0 0x92418ba8, Valid (record base { data_pad = 191 })) ∷
    -- not full at the last
    (header 0x01020000 0 1 0x0000017f 2 0 0 0x4b1edffc, Valid (record base { kind = Static; used_ebs = 2; data_size = 383; lnum = 1 })) ∷
    [])
unfolding on_literals
valid = refl

faulty : HaveReadings (
    -- the copy flag 2, the first of two broken rules
    (header 0x01010200 0x000000c8 0 0 0 0 0 0xc0a9187c, Fault fault.CopyFlag) ∷
    -- negative lnum
    (header 0x01010000 0 0x80000000 0 0 0 0 0xaab5adc5, Fault fault.Negative) ∷
    -- above the users
    (header 0x01010000 0x00000080 0 0 0 0 0 0x6d695d39, Fault fault.VolumeId) ∷
    -- below the internal
    (header 0x01010000 0x7fffeffe 0 0 0 0 0 0x69b63cbf, Fault fault.VolumeId) ∷
    -- compat of a user
    (header 0x01010001 0 0 0 0 0 0 0x0d691b16, Fault fault.Compat) ∷
    -- no compat of the layout
    (header 0x01010000 0x7fffefff 0 0 0 0 0 0xe6ee13ac, Fault fault.Compat) ∷
    -- compat 3
    (header 0x01010003 0x7fffefff 0 0 0 0 0 0x6587c36f, Fault fault.Compat) ∷
    -- kind 3
    (header 0x01030000 0 0 0 0 0 0 0x37b6cd77, Fault fault.Kind) ∷
    -- pad of half
    (header 0x01010000 0 0 0 0 0x000000c0 0 0xe862e82e, Fault fault.Pad) ∷
    -- copy too large
    (header 0x01010100 0 0 0x00000181 0 0 0 0xd86c0176, Fault fault.Size) ∷
    -- not full before the last
    (header 0x01020000 0 0 0x0000017f 2 0 0 0xe888f7b0, Fault fault.Size) ∷
    -- behind the last
    (header 0x01020000 0 2 0x0000017f 2 0 0 0x74d5a169, Fault fault.Lnum) ∷
    -- static without used ebs
    (header 0x01020000 0 0 1 0 0 0 0x95456978, Fault fault.UsedEbs) ∷
    -- dynamic with used ebs
    (header 0x01010000 0 0 0 1 0 0 0x45433ba4, Fault fault.UsedEbs) ∷
    -- check of no copy
    (header 0x01010000 0 0 0 0 0 1 0xd63a3b59, Fault fault.CopyFields) ∷
    -- copy of nothing
    (header 0x01010100 0 0 0 0 0 0 0x721402e1, Fault fault.CopyFields) ∷
    -- wrong CRC
    (header 0x01010000 0 0 0 0 0 0 0x73b1ab56, Corrupt) ∷
    [])
unfolding on_literals
faulty = refl

erased : vid_reading small (replicate 64 255) ≡ Blank
unfolding vid_reading form_of
erased = refl

zeros : vid_reading small (replicate 64 0) ≡ Corrupt
unfolding vid_reading form_of
zeros = refl

layout_written : vid_bytes (record base { compat = 5; vol_id = 0x7fffefff; lnum = 1 })
    ≡ words (0x55424921 ∷ 0x01010005 ∷ 0x7fffefff ∷ 1 ∷ 0 ∷ 0 ∷ 0 ∷ 0 ∷ 0 ∷ 0 ∷ 0 ∷ 0 ∷ 0 ∷ 0 ∷ 0 ∷ 0x1bb34ce4 ∷ [])
unfolding base fields_from check_from remainder
layout_written = refl

copy_written : vid_bytes
    (record base { copy_flag = true; lnum = 2; data_size = 128; data_crc = 0x11223344; sqnum = 0x0102030405060708 })
    ≡ words (0x55424921 ∷ 0x01010100 ∷ 0 ∷ 2 ∷ 0 ∷ 0x00000080 ∷ 0 ∷ 0 ∷ 0x11223344 ∷ 0 ∷ 0x01020304 ∷ 0x05060708 ∷ 0 ∷ 0
    ∷ 0 ∷ 0x4a2291d7 ∷ [])
unfolding base fields_from check_from remainder
copy_written = refl

static_written : vid_bytes
    (record base {
      kind = Static;
      vol_id = 3;
      data_size = 1;
      used_ebs = 2;
      data_pad = 128;
      data_crc = 0x00ffffff;
      sqnum = 7;
    }) ≡ words (0x55424921 ∷ 0x01020000 ∷ 3 ∷ 0 ∷ 0 ∷ 1 ∷ 2 ∷ 0x00000080 ∷ 0x00ffffff ∷ 0 ∷ 0 ∷ 7 ∷ 0 ∷ 0 ∷ 0
    ∷ 0xce606c01 ∷ [])
unfolding base fields_from check_from remainder
static_written = refl
