-- Readings and bytes of erase-counter headers on literals.
use Rattle.ubi_media.proofs.Prelude.{◌≡◌, List, ℕ, [], ◌∷◌, replicate, refl, check_from, remainder, ec_bytes, ec_fields, ec_reading, ec_start, form_of, Version, Offsets, Counter, EcHeader, Blank, Corrupt, Fault, ⊤, map}
use Rattle.ubi_media.specs.Ec.{judged, first_fault, breaks}
use Rattle.ubi_media.specs.declared.ec.EcRead.TheVariants.{Valid}
use Rattle.ubi_media.specs.declared.ec.EcStart.TheVariants as start
use Rattle.ubi_media.proofs.Words.{small, words}

-- the image sequence number 0x12345678
base : EcHeader
base = record { counter = 0; image_seq = 0x12345678 }

base_words : List ℕ
base_words = 0x55424923 ∷ 0x01000000 ∷ 0 ∷ 0 ∷ 0x40 ∷ 0x80 ∷ 0x12345678 ∷ 0 ∷ 0 ∷ 0 ∷ 0 ∷ 0 ∷ 0 ∷ 0 ∷ 0 ∷ 0x5b73f913
    ∷ []

-- what is unfolded to compute a header on a literal
unfoldable on_literals : ⊤
unfolding base base_words ec_start ec_reading form_of judged first_fault breaks ec_fields check_from remainder
on_literals = tt

-- a header by its version, its counter, the place of its data, and its check, which another program has worked out
abbrev header : ℕ → ℕ → ℕ → ℕ → List ℕ
header version counter start sum =
    words (0x55424923 ∷ version ∷ 0 ∷ counter ∷ 0x40 ∷ start ∷ 0 ∷ 0 ∷ 0 ∷ 0 ∷ 0 ∷ 0 ∷ 0 ∷ 0 ∷ 0 ∷ sum ∷ [])

written : ec_bytes small base ≡ words base_words
unfolding on_literals
written = refl

-- bytes are read as what stands beside them
read : map (ec_reading small) (
    words base_words ∷
    header 0x02000000 0 0x80 0x51ed87bd ∷
    header 0x01000000 5 0xc0 0x648f44ce ∷
    header 0x01000000 0x80000000 0x80 0xae56b556 ∷
    header 0x01000000 0x7fffffff 0x80 0xa321f93c ∷
    header 0x01000000 0x7fffffff 0x80 0xa321f93d ∷
    replicate 64 255 ∷
    replicate 64 0 ∷
    [])
    ≡
    Valid base ∷
    Fault Version ∷
    Fault Offsets ∷
    Fault Counter ∷
    Valid (record { counter = 0x7fffffff; image_seq = 0 }) ∷
    Corrupt ∷
    Blank ∷
    Corrupt ∷
    []
unfolding on_literals
read = refl

-- the same where no geometry is known
started : map ec_start (
    words base_words ∷
    header 0x01000000 5 0xc0 0x648f44ce ∷
    header 0x02000000 0 0x80 0x51ed87bd ∷
    header 0x01000000 0x80000000 0x80 0xae56b556 ∷
    header 0x01000000 0x7fffffff 0x80 0xa321f93d ∷
    replicate 64 255 ∷
    [])
    ≡
    start.Header (record { vid_offset = 64; data_offset = 128 }) ∷
    start.Header (record { vid_offset = 64; data_offset = 192 }) ∷
    start.Other ∷
    start.Other ∷
    start.Other ∷
    start.Blank ∷
    []
unfolding on_literals
started = refl
