-- The pages that eraseblocks of a size and of offsets may have, on literals: the least first, and each a divisor of
-- those after it.
use Rattle.ubi_detect.proofs.Prelude.{◌≡◌, ℕ, List, [], ◌∷◌, refl, first_broken, EcOffsets, plain_ways, ways, Way}
use Rattle.std.proofs.Common.{map}

abbrev offsets : ℕ → ℕ → EcOffsets
offsets vid first = record { vid_offset = vid; data_offset = first }

abbrev pages : List Way → List ℕ
pages ws = map (λ w. w.geometry.page) ws

-- and the out-of-band bytes behind each
abbrev pages_and_oob : List Way → List (ℕ × ℕ)
pages_and_oob ws = map (λ w. (w.geometry.page, w.oob)) ws

-- the sizes of two pages that fit are the same but for the page
two_pages : plain_ways 131072 (offsets 2048 4096) ≡
    record {
      geometry = record { peb_size = 131072; page = 2048; vid_offset = 2048; data_offset = 4096; pebs = 1048576 };
      oob = 0;
    }
    ∷ record {
      geometry = record { peb_size = 131072; page = 4096; vid_offset = 2048; data_offset = 4096; pebs = 1048576 };
      oob = 0;
    }
    ∷ []
unfolding first_broken
two_pages = refl

-- a header behind a page of 64, or in the first one of 128
first_pages : pages (plain_ways 65536 (offsets 64 128)) ≡ 64 ∷ 128 ∷ []
unfolding first_broken
first_pages = refl

-- a header in the first page, which ends where the data begin: no other page fits
one_page : pages (plain_ways 131072 (offsets 512 2048)) ≡ 2048 ∷ []
unfolding first_broken
one_page = refl

-- a header right before the data
many_pages : pages (plain_ways 262144 (offsets 16320 16384))
    ≡ 64 ∷ 128 ∷ 256 ∷ 512 ∷ 1024 ∷ 2048 ∷ 4096 ∷ 8192 ∷ 16384 ∷ []
unfolding first_broken
many_pages = refl

-- with out-of-band bytes a page of twice the size has twice as many
oob_pages : pages_and_oob (ways 135168 (offsets 2048 4096)) ≡ (2048, 64) ∷ (4096, 128) ∷ []
unfolding first_broken
oob_pages = refl
