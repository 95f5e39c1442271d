-- Readings and bytes of records of the volume table on literals.
use Rattle.ubi_media.proofs.Prelude.{◌≡◌, RecRead, ℕ, ◌*◌, ◌-◌, List, [], ◌∷◌, ◌++◌, length, replicate, true, false, refl, Some, None, check_from, remainder, with_page, data_pad, rec_bytes, rec_fault, rec_fields, rec_reading, empty_record, fields_from, record_of, judged, first_fault, breaks, usable, Empty, BadCrc, VolumeRecord, Dynamic, Static, ⊤, map}
use Rattle.ubi_media.specs.declared.record.RecFault.TheVariants as fault
use Rattle.ubi_media.specs.declared.record.RecRead.TheVariants.{Fault, Valid}
use Rattle.ubi_media.proofs.Words.{small, words}

-- 168 bytes that begin with words and end with zeros, and a check
abbrev slot : List ℕ → ℕ → List ℕ
slot ws sum = words ws ++ replicate (168 - 4 * length ws) 0 ++ words (sum ∷ [])

-- a dynamic volume of 20 eraseblocks with the name root
root : VolumeRecord
root = record {
  reserved = 20;
  alignment = 1;
  kind = Dynamic;
  marker = false;
  name = 114 ∷ 111 ∷ 111 ∷ 116 ∷ [];
  flags = 0;
}

-- what is unfolded to compute a record on a literal
unfoldable on_literals : ⊤
unfolding root rec_reading judged first_fault breaks rec_fields record_of empty_record check_from remainder
on_literals = tt

-- bytes are read as what stands beside them
abbrev HaveReadings : List (List ℕ × RecRead) → Type 0
HaveReadings rows = map (λ e. rec_reading small e.0) rows ≡ map (λ e. e.1) rows

valid : HaveReadings (
    -- sound
    (slot (0x00000014 ∷ 1 ∷ 0 ∷ 0x01000004 ∷ 0x726f6f74 ∷ []) 0x71dfb11d, Valid root) ∷
    -- alignment 256
    (
      slot (0x00000014 ∷ 0x00000100 ∷ 0x00000080 ∷ 0x01000004 ∷ 0x726f6f74 ∷ []) 0x30ed19e0,
      Valid (record root { alignment = 256 }),
    ) ∷
    -- longest name
    (
      slot (0x00000014 ∷ 1 ∷ 0 ∷ 0x0100007f ∷ (replicate 31 0x61616161 ++ (0x61616100 ∷ []))) 0x4529d27c,
      Valid (record root { name = replicate 127 97 }),
    ) ∷
    -- what stands behind the zero of the name is nothing
    (slot (0x00000014 ∷ 1 ∷ 0 ∷ 0x01000004 ∷ 0x726f6f74 ∷ 0x00010000 ∷ []) 0xa4dcaedb, Valid root) ∷
    -- and neither is what stands in the padding
    (slot (0x00000014 ∷ 1 ∷ 0 ∷ 0x01000004 ∷ 0x726f6f74 ∷ (replicate 31 0 ++ (0x00010000 ∷ []))) 0xeaac5bc9, Valid root) ∷
    -- static and marked
    (
      slot (0x00000014 ∷ 1 ∷ 0 ∷ 0x02010004 ∷ 0x726f6f74 ∷ (replicate 31 0 ++ (0xff000000 ∷ []))) 0xb52a4690,
      Valid (record root { kind = Static; marker = true; flags = 0xff }),
    ) ∷
    -- empty
    (slot [] 0xf116c36b, Empty) ∷
    [])
unfolding on_literals
valid = refl

faulty : HaveReadings (
    -- none reserved
    (slot (0 ∷ 1 ∷ 0 ∷ 0x01000004 ∷ 0x726f6f74 ∷ []) 0xff452c6c, Fault fault.NotEmpty) ∷
    -- one byte that isn't zero, and the right CRC
    (slot (replicate 41 0 ++ (1 ∷ [])) 0x8611f3fd, Fault fault.NotEmpty) ∷
    -- many reserved
    (slot (0x80000000 ∷ 1 ∷ 0 ∷ 0x01000004 ∷ 0x726f6f74 ∷ []) 0xcd67473e, Fault fault.Negative) ∷
    -- negative pad
    (slot (0x00000014 ∷ 1 ∷ 0x80000000 ∷ 0x01000004 ∷ 0x726f6f74 ∷ []) 0x6a47c859, Fault fault.Negative) ∷
    -- alignment 0
    (slot (0x00000014 ∷ 0 ∷ 0 ∷ 0x01000004 ∷ 0x726f6f74 ∷ []) 0xd136075e, Fault fault.Alignment) ∷
    -- alignment above
    (slot (0x00000014 ∷ 0x000001c0 ∷ 0 ∷ 0x01000004 ∷ 0x726f6f74 ∷ []) 0x773cedca, Fault fault.Alignment) ∷
    -- alignment 65
    (slot (0x00000014 ∷ 0x00000041 ∷ 0 ∷ 0x01000004 ∷ 0x726f6f74 ∷ []) 0x490abfe5, Fault fault.AlignmentPage) ∷
    -- no pad
    (slot (0x00000014 ∷ 0x00000100 ∷ 0 ∷ 0x01000004 ∷ 0x726f6f74 ∷ []) 0x3e43fec2, Fault fault.DataPad) ∷
    -- kind 3
    (slot (0x00000014 ∷ 1 ∷ 0 ∷ 0x03000004 ∷ 0x726f6f74 ∷ []) 0x4b642d95, Fault fault.Kind) ∷
    -- marker 2
    (slot (0x00000014 ∷ 1 ∷ 0 ∷ 0x01020004 ∷ 0x726f6f74 ∷ []) 0x7f12f77c, Fault fault.Marker) ∷
    -- name of 128
    (slot (0x00000014 ∷ 1 ∷ 0 ∷ 0x01000080 ∷ 0x726f6f74 ∷ []) 0x4a3dc51a, Fault fault.NameTooLong) ∷
    -- no name
    (slot (0x00000014 ∷ 1 ∷ 0 ∷ 0x01000000 ∷ []) 0xc238261d, Fault fault.NameBlank) ∷
    -- name too short
    (slot (0x00000014 ∷ 1 ∷ 0 ∷ 0x01000003 ∷ 0x726f6f74 ∷ []) 0xf1fcc4f2, Fault fault.NameLength) ∷
    -- name without end
    (slot (0x00000014 ∷ 1 ∷ 0 ∷ 0x0100007f ∷ replicate 32 0x61616161) 0xeba19757, Fault fault.NameLength) ∷
    -- wrong CRC
    (slot (0x00000014 ∷ 1 ∷ 0 ∷ 0x01000004 ∷ 0x726f6f74 ∷ []) 0x71dfb11c, BadCrc) ∷
    [])
unfolding on_literals
faulty = refl

written : rec_bytes small (Some root) ≡ slot (0x00000014 ∷ 1 ∷ 0 ∷ 0x01000004 ∷ 0x726f6f74 ∷ []) 0x71dfb11d
unfolding root rec_bytes check_from remainder
written = refl

no_record_written : rec_bytes small None ≡ slot [] 0xf116c36b
unfolding rec_bytes empty_record check_from remainder
no_record_written = refl

-- what an alignment of 256 leaves free of 384 bytes, and what it uses
pad_of_256 : data_pad small (record root { alignment = 256 }) ≡ 128
unfolding root
pad_of_256 = refl

usable_of_256 : usable small (record root { alignment = 256 }) ≡ 256
unfolding root
usable_of_256 = refl

-- the rules that a value breaks
no_fault : rec_fault small root ≡ None
unfolding root fields_from first_fault breaks
no_fault = refl

fault_of_none_reserved : rec_fault small (record root { reserved = 0 }) ≡ Some fault.NotEmpty
unfolding root fields_from first_fault breaks
fault_of_none_reserved = refl

fault_of_alignment_0 : rec_fault small (record root { alignment = 0 }) ≡ Some fault.Alignment
unfolding root fields_from first_fault breaks
fault_of_alignment_0 = refl

fault_of_alignment_65 : rec_fault small (record root { alignment = 65 }) ≡ Some fault.AlignmentPage
unfolding root fields_from first_fault breaks
fault_of_alignment_65 = refl

-- an alignment of 256 is good with each page that divides it, and with no greater one
alignment_256_of_page_256 : rec_reading (with_page small 256)
    (slot (0x00000014 ∷ 0x00000100 ∷ 0x00000080 ∷ 0x01000004 ∷ 0x726f6f74 ∷ []) 0x30ed19e0)
    ≡ Valid (record root { alignment = 256 })
unfolding on_literals
alignment_256_of_page_256 = refl

alignment_256_of_page_512 : rec_reading (with_page small 512)
    (slot (0x00000014 ∷ 0x00000100 ∷ 0x00000080 ∷ 0x01000004 ∷ 0x726f6f74 ∷ []) 0x30ed19e0)
    ≡ Fault fault.AlignmentPage
unfolding rec_reading judged first_fault breaks rec_fields record_of empty_record check_from remainder
alignment_256_of_page_512 = refl

fault_of_page_512 : rec_fault (with_page small 512) (record root { alignment = 256 }) ≡ Some fault.AlignmentPage
unfolding root fields_from first_fault breaks
fault_of_page_512 = refl

-- an alignment of 1 is good with each page
no_fault_of_page_512 : rec_fault (with_page small 512) root ≡ None
unfolding root fields_from first_fault breaks
no_fault_of_page_512 = refl
