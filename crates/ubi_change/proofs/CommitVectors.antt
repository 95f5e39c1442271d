-- The steps that write a LEB as an orphan, computed by the definitions.
use Rattle.ubi_change.proofs.Prelude.{◌≡◌, ℕ, List, [], ◌∷◌, ◌++◌, replicate, refl, ⊤, FinMap, check_from, remainder, ec_fields, ec_reading, filled, overwrite, form_of, Sizes, vid_fields, vid_reading, leb_cmp, AttachValue, Meant, turn, Laid, static_block, lay_all}
use Rattle.ubi_media.specs.Ec as ec
use Rattle.ubi_media.specs.Vid as vid
use Rattle.ubi_volume.specs.declared.attached.BlockState.TheVariants as state
use Rattle.ubi_change.specs.declared.step.Step.TheVariants as step

abbrev g1 : Sizes
g1 = record { peb_size = 512; page = 64; vid_offset = 64; data_offset = 128; pebs = 32 }

-- a header with the counter 2, and no image sequence number
abbrev ec_2 : List ℕ
ec_2 = (85 ∷ 66 ∷ 73 ∷ 35 ∷ 1 ∷ []) ++ replicate 10 0 ++ (2 ∷ 0 ∷ 0 ∷ 0 ∷ 64 ∷ 0 ∷ 0 ∷ 0 ∷ 128 ∷ []) ++ replicate 36 0
    ++ (235 ∷ 15 ∷ 229 ∷ 29 ∷ [])

-- LEB 0 of the static volume 1, which has one LEB of 3 bytes, with the sequence number 8
abbrev static_1_at_8 : List ℕ
static_1_at_8 = (85 ∷ 66 ∷ 73 ∷ 33 ∷ 1 ∷ 2 ∷ []) ++ replicate 5 0 ++ (1 ∷ []) ++ replicate 11 0 ++ (3 ∷ 0 ∷ 0 ∷ 0 ∷ 1 ∷ [])
    ++ replicate 4 0 ++ (170 ∷ 67 ∷ 127 ∷ 226 ∷ []) ++ replicate 11 0 ++ (8 ∷ []) ++ replicate 12 0
    ++ (5 ∷ 55 ∷ 140 ∷ 21 ∷ [])

abbrev image : List (List ℕ)
image = replicate 512 255 ∷ filled 512 ec_2 ∷ []

abbrev attached : Meant → FinMap leb_cmp ℕ → AttachValue
attached m w = record {
  meaning = m;
  scan = record { winners = w; states = []; top_sqnum = 7; image_seq = 0; carriers = 0; mean_ec = 0 };
  states = state.Blank ∷ state.Free ∷ [];
}

abbrev laid : List Laid
laid = static_block 0 1 1 0 (1 ∷ 2 ∷ 3 ∷ []) ∷ []

-- what is unfolded to compute a plan on literals
unfoldable pub on_literals : ⊤
unfolding filled overwrite ec_reading ec_fields ec.first_fault ec.breaks ec.judged vid_reading vid_fields
    vid.first_fault vid.breaks vid.judged vid.header_of vid.fields_from form_of check_from remainder
on_literals = tt

-- the clean eraseblock comes first; the header has its page, and the text its own, up to its last byte that isn't 0xFF
written : (m : Meant) (w : FinMap leb_cmp ℕ)
    → lay_all g1 image (attached m w) 0 laid
    ≡ step.Program 1 1 static_1_at_8 ∷ step.Program 1 2 (1 ∷ 2 ∷ 3 ∷ replicate 61 255) ∷ []
unfolding on_literals
written m w = refl

-- none of the steps is the commit point's
no_turn : turn g1 (step.Program 1 1 static_1_at_8 ∷ step.Program 1 2 (1 ∷ 2 ∷ 3 ∷ replicate 61 255) ∷ []) [] ≡ 3
unfolding on_literals
no_turn = refl
