-- A file that shows an image, on literals: four eraseblocks of 384 bytes, with other bytes before them and behind.
use Rattle.ubi_detect.proofs.Prelude.{◌≡◌, ℕ, ◌+◌, ◌-◌, ◌*◌, ◌/◌, ◌<◌, ◌≤◌, Bool, true, List, [], ◌∷◌, ◌++◌, length, zero, suc, inl, inr, refl, ap, sym, ◌∙◌, arith, list_all, range_with_len, ◌==◌, ◌&&◌, ◌||◌, IsTrue, Some, is_none, nat_lt, and_parts, eqb-true, ltb-true, or_cases, first_broken, ec_fields, ec_reading, ec_start, form_of, AreHeadersOf, HoldsTable, ShowsImage, is_of, key_at, step, layout_sizes, block_at, Group, Key, replicate, ⊤, check_from, remainder, breaks, first_fault, judged, words}
use Rattle.ubi_detect.proofs.Tested.{passes}

abbrev key : ℕ → Key
key seq = record { offsets = record { vid_offset = 64; data_offset = 128 }; image_seq = seq }

-- headers, with their checks, which another program has worked out
abbrev ec_header : ℕ → ℕ → List ℕ
ec_header seq sum =
    words (0x55424923 ∷ 0x01000000 ∷ 0 ∷ 0 ∷ 64 ∷ 128 ∷ seq ∷ 0 ∷ 0 ∷ 0 ∷ 0 ∷ 0 ∷ 0 ∷ 0 ∷ 0 ∷ sum ∷ [])

abbrev vid_header : ℕ → ℕ → List ℕ
vid_header lnum sum =
    words (0x55424921 ∷ 0x01010005 ∷ 0x7FFFEFFF ∷ lnum ∷ 0 ∷ 0 ∷ 0 ∷ 0 ∷ 0 ∷ 0 ∷ 0 ∷ 0 ∷ 0 ∷ 0 ∷ 0 ∷ sum ∷ [])

-- an eraseblock with a copy of a volume table, which has room for one record, and it is empty
abbrev table_block : ℕ → ℕ → List ℕ
table_block lnum sum =
    ec_header 0x12345678 0x5B73F913 ++ vid_header lnum sum ++ replicate 168 0 ++ words (0xF116C36B ∷ []) ++ replicate 84 0xFF

-- a spare one
abbrev spare_block : ℕ → ℕ → List ℕ
spare_block seq sum = ec_header seq sum ++ replicate 320 0xFF

-- the last one names no number
file : List ℕ
file =
    replicate 64 0x2A ++ table_block 0 0xB82564A8 ++ table_block 1 0x1BB34CE4 ++ spare_block 0x12345678 0x5B73F913
    ++ spare_block 0 0x7752B3C4 ++ replicate 70 0x2A

abbrev group : Group
group = record { key = key 0x12345678; first = 64; last = 1216; count = 4; size = 384 }

-- what is unfolded to compute what stands in the file
unfoldable on_literals : ⊤
unfolding file ec_start ec_reading form_of judged first_fault breaks ec_fields check_from remainder first_broken
on_literals = tt

file_length : length file ≡ 1670
unfolding on_literals
file_length = refl

-- an eraseblock starts with a header of the image
each_there : (i : ℕ) → i < 4 → (k : Key) × (key_at file (block_at group i) ≡ Some k) × IsTrue (is_of group.key k)
unfolding on_literals
each_there zero below = (key 0x12345678, refl, refl)
each_there (suc zero) below = (key 0x12345678, refl, refl)
each_there (suc (suc zero)) below = (key 0x12345678, refl, refl)
each_there (suc (suc (suc zero))) below = (key 0, refl, refl)
each_there (suc (suc (suc (suc i)))) below = absurd (omega (arith, below))

-- no header stands elsewhere
abbrev number_of : ℕ → ℕ
number_of u = (u * step - 64) / 384

abbrev is_none_or_start : ℕ → Bool
is_none_or_start u =
    is_none (key_at file (u * step)) || (nat_lt (number_of u) 4 && (u * step == block_at group (number_of u)))

all_units : list_all is_none_or_start (range_with_len 0 26) ≡ true
unfolding on_literals
all_units = refl

only_there : (u : ℕ) (k : Key) → u * step + step ≤ length file → key_at file (u * step) ≡ Some k
    → (i : ℕ) × (i < 4) × (u * step ≡ block_at group i)
only_there u k inside here =
    let n = file_length in
    let test = passes is_none_or_start 26 u all_units (omega (arith, inside, n)) in
    elim (or_cases _ _ test) [
      | inl none ↦ absurd (let e = sym (ap is_none here) ∙ none in cc)
      | inr start ↦ (let both = and_parts _ _ start in
          (number_of u, ltb-true (number_of u) 4 both.0, eqb-true (u * step) (block_at group (number_of u)) both.1))
    ]

headers_there : AreHeadersOf file group
unfolding on_literals
headers_there = record {
  two = omega arith;
  unit = refl;
  last = refl;
  whole = (let n = file_length in omega (arith, n));
  each = each_there;
  named = (0, omega arith, refl);
  only = only_there;
}

table_there : (i : ℕ) → i < 2 → HoldsTable file (layout_sizes 384 group.key.offsets 64) (block_at group i) i
unfolding on_literals
table_there zero below = record { magic = refl; volume = refl; leb = refl; last = refl }
table_there (suc zero) below = record { magic = refl; volume = refl; leb = refl; last = refl }
table_there (suc (suc i)) below = absurd (omega (arith, below))

shown : ShowsImage file group 64
unfolding on_literals
shown = record {
  headers = headers_there;
  sizes = refl;
  data_offset = refl;
  tables = record {
    index = 0;
    inside = omega arith;
    lnum = 0;
    other = 1;
    unlike = λ e. omega (arith, e);
    first = table_there 0 (omega arith);
    second = table_there 1 (omega arith);
  };
  blank = (0, omega arith, refl);
  seen = refl;
  without = refl;
}
