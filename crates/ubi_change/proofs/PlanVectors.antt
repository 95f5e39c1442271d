-- Plans, their commit points, and the images that they leave, computed by the definitions.
use Rattle.ubi_change.proofs.Prelude.{◌≡◌, ℕ, List, [], ◌∷◌, ◌++◌, false, replicate, refl, ⊤, FinMap, check_from, remainder, ec_fields, ec_reading, filled, overwrite, form_of, Sizes, vid_fields, vid_reading, VolumeRecord, leb_cmp, AttachValue, Meant, BlockState, turn, mapped_plan, unmapped_plan, blocks_after, takeable, Step}
use Rattle.ubi_media.specs.Ec as ec
use Rattle.ubi_media.specs.Vid as vid
use Rattle.ubi_media.specs.declared.vid.VolKind.TheVariants as kind
use Rattle.ubi_volume.specs.declared.attached.BlockState.TheVariants as state
use Rattle.ubi_change.specs.declared.step.Step.TheVariants as step

abbrev g1 : Sizes
g1 = record { peb_size = 512; page = 64; vid_offset = 64; data_offset = 128; pebs = 32 }

abbrev g2 : Sizes
g2 = record { peb_size = 1024; page = 256; vid_offset = 64; data_offset = 256; pebs = 32 }

abbrev root : VolumeRecord
root = record {
  reserved = 20;
  alignment = 1;
  kind = kind.Dynamic;
  marker = false;
  name = 114 ∷ 111 ∷ 111 ∷ 116 ∷ [];
  flags = 0;
}

-- an attached image, by its states, greatest sequence number, image sequence number and mean counter; its plans don't ask
-- for the number of carriers that the scan found
abbrev attached : Meant → FinMap leb_cmp ℕ → List BlockState → ℕ → ℕ → ℕ → AttachValue
attached m w states top seq mean = record {
  meaning = m;
  scan = record { winners = w; states = []; top_sqnum = top; image_seq = seq; carriers = 0; mean_ec = mean };
  states = states;
}

-- the headers, by their erase counters, logical eraseblocks and sequence numbers
abbrev ec_0_named : List ℕ
ec_0_named = (85 ∷ 66 ∷ 73 ∷ 35 ∷ 1 ∷ []) ++ replicate 14 0 ++ (64 ∷ 0 ∷ 0 ∷ 0 ∷ 128 ∷ 18 ∷ 52 ∷ 86 ∷ 120 ∷ [])
    ++ replicate 32 0 ++ (91 ∷ 115 ∷ 249 ∷ 19 ∷ [])

abbrev table_0 : List ℕ
table_0 = (85 ∷ 66 ∷ 73 ∷ 33 ∷ 1 ∷ 1 ∷ 0 ∷ 5 ∷ 127 ∷ 255 ∷ 239 ∷ 255 ∷ []) ++ replicate 48 0
    ++ (184 ∷ 37 ∷ 100 ∷ 168 ∷ [])

abbrev table_1 : List ℕ
table_1 = (85 ∷ 66 ∷ 73 ∷ 33 ∷ 1 ∷ 1 ∷ 0 ∷ 5 ∷ 127 ∷ 255 ∷ 239 ∷ 255 ∷ 0 ∷ 0 ∷ 0 ∷ 1 ∷ []) ++ replicate 44 0
    ++ (27 ∷ 179 ∷ 76 ∷ 228 ∷ [])

abbrev leb_0 : List ℕ
leb_0 = (85 ∷ 66 ∷ 73 ∷ 33 ∷ 1 ∷ 1 ∷ []) ++ replicate 54 0 ++ (115 ∷ 177 ∷ 171 ∷ 87 ∷ [])

abbrev leb_1 : List ℕ
leb_1 = (85 ∷ 66 ∷ 73 ∷ 33 ∷ 1 ∷ 1 ∷ []) ++ replicate 9 0 ++ (1 ∷ []) ++ replicate 44 0 ++ (208 ∷ 39 ∷ 131 ∷ 27 ∷ [])

abbrev leb_2 : List ℕ
leb_2 = (85 ∷ 66 ∷ 73 ∷ 33 ∷ 1 ∷ 1 ∷ []) ++ replicate 9 0 ++ (2 ∷ []) ++ replicate 44 0 ++ (239 ∷ 236 ∷ 253 ∷ 142 ∷ [])

abbrev copy_leb_1_at_1 : List ℕ
copy_leb_1_at_1 = (85 ∷ 66 ∷ 73 ∷ 33 ∷ 1 ∷ 1 ∷ 1 ∷ []) ++ replicate 8 0 ++ (1 ∷ []) ++ replicate 7 0 ++ (128 ∷ [])
    ++ replicate 8 0 ++ (14 ∷ 212 ∷ 201 ∷ 115 ∷ []) ++ replicate 11 0 ++ (1 ∷ []) ++ replicate 12 0
    ++ (226 ∷ 117 ∷ 167 ∷ 157 ∷ [])

abbrev ec_1_named : List ℕ
ec_1_named = (85 ∷ 66 ∷ 73 ∷ 35 ∷ 1 ∷ []) ++ replicate 10 0
    ++ (1 ∷ 0 ∷ 0 ∷ 0 ∷ 64 ∷ 0 ∷ 0 ∷ 0 ∷ 128 ∷ 18 ∷ 52 ∷ 86 ∷ 120 ∷ []) ++ replicate 32 0 ++ (248 ∷ 229 ∷ 209 ∷ 95 ∷ [])

abbrev ec_0_wide : List ℕ
ec_0_wide = (85 ∷ 66 ∷ 73 ∷ 35 ∷ 1 ∷ []) ++ replicate 14 0 ++ (64 ∷ 0 ∷ 0 ∷ 1 ∷ []) ++ replicate 37 0
    ++ (93 ∷ 218 ∷ 167 ∷ 76 ∷ [])

abbrev copy_leb_0_at_1 : List ℕ
copy_leb_0_at_1 = (85 ∷ 66 ∷ 73 ∷ 33 ∷ 1 ∷ 1 ∷ 1 ∷ []) ++ replicate 15 0 ++ (1 ∷ []) ++ replicate 9 0
    ++ (79 ∷ 130 ∷ 201 ∷ 166 ∷ []) ++ replicate 11 0 ++ (1 ∷ []) ++ replicate 12 0 ++ (87 ∷ 9 ∷ 43 ∷ 82 ∷ [])

abbrev ec_1_wide : List ℕ
ec_1_wide = (85 ∷ 66 ∷ 73 ∷ 35 ∷ 1 ∷ []) ++ replicate 10 0 ++ (1 ∷ 0 ∷ 0 ∷ 0 ∷ 64 ∷ 0 ∷ 0 ∷ 1 ∷ []) ++ replicate 37 0
    ++ (254 ∷ 76 ∷ 143 ∷ 0 ∷ [])

abbrev leb_7_at_1 : List ℕ
leb_7_at_1 = (85 ∷ 66 ∷ 73 ∷ 33 ∷ 1 ∷ 1 ∷ []) ++ replicate 9 0 ++ (7 ∷ []) ++ replicate 31 0 ++ (1 ∷ [])
    ++ replicate 12 0 ++ (114 ∷ 39 ∷ 167 ∷ 180 ∷ [])

abbrev copy_leb_7_at_2 : List ℕ
copy_leb_7_at_2 = (85 ∷ 66 ∷ 73 ∷ 33 ∷ 1 ∷ 1 ∷ 1 ∷ []) ++ replicate 8 0 ++ (7 ∷ []) ++ replicate 7 0 ++ (64 ∷ [])
    ++ replicate 8 0 ++ (118 ∷ 75 ∷ 154 ∷ 170 ∷ []) ++ replicate 11 0 ++ (2 ∷ []) ++ replicate 12 0
    ++ (18 ∷ 195 ∷ 66 ∷ 114 ∷ [])

abbrev ec_0 : List ℕ
ec_0 = (85 ∷ 66 ∷ 73 ∷ 35 ∷ 1 ∷ []) ++ replicate 14 0 ++ (64 ∷ 0 ∷ 0 ∷ 0 ∷ 128 ∷ []) ++ replicate 36 0
    ++ (119 ∷ 82 ∷ 179 ∷ 196 ∷ [])

abbrev ec_4 : List ℕ
ec_4 = (85 ∷ 66 ∷ 73 ∷ 35 ∷ 1 ∷ []) ++ replicate 10 0 ++ (4 ∷ 0 ∷ 0 ∷ 0 ∷ 64 ∷ 0 ∷ 0 ∷ 0 ∷ 128 ∷ []) ++ replicate 36 0
    ++ (148 ∷ 153 ∷ 24 ∷ 55 ∷ [])

abbrev leb_0_at_5 : List ℕ
leb_0_at_5 = (85 ∷ 66 ∷ 73 ∷ 33 ∷ 1 ∷ 1 ∷ []) ++ replicate 41 0 ++ (5 ∷ []) ++ replicate 12 0
    ++ (110 ∷ 158 ∷ 24 ∷ 68 ∷ [])

abbrev copy_leb_0_at_7 : List ℕ
copy_leb_0_at_7 = (85 ∷ 66 ∷ 73 ∷ 33 ∷ 1 ∷ 1 ∷ 1 ∷ []) ++ replicate 16 0 ++ (64 ∷ []) ++ replicate 8 0
    ++ (107 ∷ 255 ∷ 33 ∷ 186 ∷ []) ++ replicate 11 0 ++ (7 ∷ []) ++ replicate 12 0 ++ (87 ∷ 191 ∷ 22 ∷ 99 ∷ [])

abbrev copy_leb_0_at_9 : List ℕ
copy_leb_0_at_9 = (85 ∷ 66 ∷ 73 ∷ 33 ∷ 1 ∷ 1 ∷ 1 ∷ []) ++ replicate 16 0 ++ (64 ∷ []) ++ replicate 8 0
    ++ (241 ∷ 236 ∷ 82 ∷ 230 ∷ []) ++ replicate 11 0 ++ (9 ∷ []) ++ replicate 12 0 ++ (168 ∷ 90 ∷ 213 ∷ 14 ∷ [])

abbrev ec_5 : List ℕ
ec_5 = (85 ∷ 66 ∷ 73 ∷ 35 ∷ 1 ∷ []) ++ replicate 10 0 ++ (5 ∷ 0 ∷ 0 ∷ 0 ∷ 64 ∷ 0 ∷ 0 ∷ 0 ∷ 128 ∷ []) ++ replicate 36 0
    ++ (55 ∷ 15 ∷ 48 ∷ 123 ∷ [])

abbrev copy_leb_0_at_10 : List ℕ
copy_leb_0_at_10 = (85 ∷ 66 ∷ 73 ∷ 33 ∷ 1 ∷ 1 ∷ 1 ∷ []) ++ replicate 16 0 ++ (64 ∷ []) ++ replicate 8 0
    ++ (118 ∷ 75 ∷ 154 ∷ 170 ∷ []) ++ replicate 11 0 ++ (10 ∷ []) ++ replicate 12 0 ++ (148 ∷ 192 ∷ 68 ∷ 121 ∷ [])

abbrev ec_1 : List ℕ
ec_1 = (85 ∷ 66 ∷ 73 ∷ 35 ∷ 1 ∷ []) ++ replicate 10 0 ++ (1 ∷ 0 ∷ 0 ∷ 0 ∷ 64 ∷ 0 ∷ 0 ∷ 0 ∷ 128 ∷ []) ++ replicate 36 0
    ++ (212 ∷ 196 ∷ 155 ∷ 136 ∷ [])

abbrev ec_worn_named : List ℕ
ec_worn_named = (85 ∷ 66 ∷ 73 ∷ 35 ∷ 1 ∷ []) ++ replicate 7 0
    ++ (127 ∷ 255 ∷ 255 ∷ 255 ∷ 0 ∷ 0 ∷ 0 ∷ 64 ∷ 0 ∷ 0 ∷ 0 ∷ 128 ∷ 18 ∷ 52 ∷ 86 ∷ 120 ∷ []) ++ replicate 32 0
    ++ (143 ∷ 0 ∷ 179 ∷ 235 ∷ [])

abbrev erased_ec : List ℕ
erased_ec = replicate 64 255

abbrev copy_leb_1_at_1_of_64 : List ℕ
copy_leb_1_at_1_of_64 = (85 ∷ 66 ∷ 73 ∷ 33 ∷ 1 ∷ 1 ∷ 1 ∷ []) ++ replicate 8 0 ++ (1 ∷ []) ++ replicate 7 0 ++ (64 ∷ [])
    ++ replicate 8 0 ++ (118 ∷ 75 ∷ 154 ∷ 170 ∷ []) ++ replicate 11 0 ++ (1 ∷ []) ++ replicate 12 0
    ++ (208 ∷ 159 ∷ 211 ∷ 150 ∷ [])

abbrev leb_20_at_8 : List ℕ
leb_20_at_8 = (85 ∷ 66 ∷ 73 ∷ 33 ∷ 1 ∷ 1 ∷ []) ++ replicate 9 0 ++ (20 ∷ []) ++ replicate 31 0 ++ (8 ∷ [])
    ++ replicate 12 0 ++ (243 ∷ 181 ∷ 112 ∷ 135 ∷ [])

abbrev static_leb_20_at_7 : List ℕ
static_leb_20_at_7 = (85 ∷ 66 ∷ 73 ∷ 33 ∷ 1 ∷ 2 ∷ []) ++ replicate 9 0 ++ (20 ∷ []) ++ replicate 6 0
    ++ (1 ∷ 128 ∷ 0 ∷ 0 ∷ 0 ∷ 21 ∷ []) ++ replicate 4 0 ++ (17 ∷ 116 ∷ 99 ∷ 109 ∷ []) ++ replicate 11 0 ++ (7 ∷ [])
    ++ replicate 12 0 ++ (87 ∷ 73 ∷ 3 ∷ 232 ∷ [])

abbrev corrupt_vid : List ℕ
corrupt_vid = (84 ∷ 66 ∷ 73 ∷ 33 ∷ 1 ∷ 1 ∷ []) ++ replicate 9 0 ++ (9 ∷ []) ++ replicate 44 0
    ++ (204 ∷ 193 ∷ 210 ∷ 188 ∷ [])

abbrev internal : List ℕ
internal = (85 ∷ 66 ∷ 73 ∷ 33 ∷ 1 ∷ 1 ∷ 0 ∷ 1 ∷ 127 ∷ 255 ∷ 240 ∷ []) ++ replicate 36 0 ++ (12 ∷ []) ++ replicate 12 0
    ++ (36 ∷ 243 ∷ 112 ∷ 106 ∷ [])

abbrev corrupt_ec : List ℕ
corrupt_ec = (84 ∷ 66 ∷ 73 ∷ 35 ∷ 1 ∷ []) ++ replicate 14 0 ++ (64 ∷ 0 ∷ 0 ∷ 0 ∷ 128 ∷ []) ++ replicate 36 0
    ++ (119 ∷ 82 ∷ 179 ∷ 196 ∷ [])

abbrev copy_leb_0_at_13 : List ℕ
copy_leb_0_at_13 = (85 ∷ 66 ∷ 73 ∷ 33 ∷ 1 ∷ 1 ∷ 1 ∷ []) ++ replicate 16 0 ++ (64 ∷ []) ++ replicate 8 0
    ++ (118 ∷ 75 ∷ 154 ∷ 170 ∷ []) ++ replicate 11 0 ++ (13 ∷ []) ++ replicate 12 0 ++ (233 ∷ 179 ∷ 66 ∷ 33 ∷ [])

abbrev leb_1_at_13 : List ℕ
leb_1_at_13 = (85 ∷ 66 ∷ 73 ∷ 33 ∷ 1 ∷ 1 ∷ []) ++ replicate 9 0 ++ (1 ∷ []) ++ replicate 31 0 ++ (13 ∷ [])
    ++ replicate 12 0 ++ (151 ∷ 11 ∷ 227 ∷ 101 ∷ [])

abbrev copy_leb_1_at_14 : List ℕ
copy_leb_1_at_14 = (85 ∷ 66 ∷ 73 ∷ 33 ∷ 1 ∷ 1 ∷ 1 ∷ []) ++ replicate 8 0 ++ (1 ∷ []) ++ replicate 7 0 ++ (64 ∷ [])
    ++ replicate 8 0 ++ (118 ∷ 75 ∷ 154 ∷ 170 ∷ []) ++ replicate 11 0 ++ (14 ∷ []) ++ replicate 12 0
    ++ (247 ∷ 239 ∷ 6 ∷ 163 ∷ [])

abbrev ec_2 : List ℕ
ec_2 = (85 ∷ 66 ∷ 73 ∷ 35 ∷ 1 ∷ []) ++ replicate 10 0 ++ (2 ∷ 0 ∷ 0 ∷ 0 ∷ 64 ∷ 0 ∷ 0 ∷ 0 ∷ 128 ∷ []) ++ replicate 36 0
    ++ (235 ∷ 15 ∷ 229 ∷ 29 ∷ [])

abbrev table : List ℕ
table = (0 ∷ 0 ∷ 0 ∷ 20 ∷ 0 ∷ 0 ∷ 0 ∷ 1 ∷ []) ++ replicate 4 0 ++ (1 ∷ 0 ∷ 0 ∷ 4 ∷ 114 ∷ 111 ∷ 111 ∷ 116 ∷ [])
    ++ replicate 148 0 ++ (113 ∷ 223 ∷ 177 ∷ 29 ∷ []) ++ replicate 168 0 ++ (241 ∷ 22 ∷ 195 ∷ 107 ∷ [])

abbrev wide_table : List ℕ
wide_table = (0 ∷ 0 ∷ 0 ∷ 20 ∷ 0 ∷ 0 ∷ 0 ∷ 1 ∷ []) ++ replicate 4 0 ++ (1 ∷ 0 ∷ 0 ∷ 4 ∷ 114 ∷ 111 ∷ 111 ∷ 116 ∷ [])
    ++ replicate 148 0 ++ (113 ∷ 223 ∷ 177 ∷ 29 ∷ []) ++ replicate 168 0 ++ (241 ∷ 22 ∷ 195 ∷ 107 ∷ [])
    ++ replicate 168 0 ++ (241 ∷ 22 ∷ 195 ∷ 107 ∷ []) ++ replicate 168 0 ++ (241 ∷ 22 ∷ 195 ∷ 107 ∷ [])

-- an eraseblock of 512 bytes: its headers, the first bytes of its data, and 0xFF behind them
abbrev peb : List ℕ → List ℕ → List ℕ → List ℕ
peb e v text = filled 512 (e ++ v ++ text)

-- one of 1,024, whose data begin at byte 256
abbrev wide_peb : List ℕ → List ℕ → List ℕ → List ℕ
wide_peb e v text = filled 1024 (filled 256 (e ++ v) ++ text)

-- what is unfolded to compute a plan on literals
unfoldable on_literals : ⊤
unfolding filled overwrite ec_reading ec_fields ec.first_fault ec.breaks ec.judged vid_reading vid_fields
    vid.first_fault vid.breaks vid.judged vid.header_of vid.fields_from form_of check_from remainder
on_literals = tt

abbrev copied_image : List (List ℕ)
copied_image = peb ec_0_named table_0 table ∷ peb ec_0_named table_1 table ∷ peb ec_0_named leb_0 (replicate 384 65)
    ∷ peb ec_0_named leb_1 (replicate 384 66) ∷ peb ec_0_named leb_2 (replicate 384 67) ∷ filled 512 ec_0_named ∷ []

abbrev copied_steps : List Step
copied_steps = step.Program 5 1 copy_leb_1_at_1 ∷ step.Program 5 2 (replicate 64 97)
    ∷ step.Program 5 3 (replicate 64 97) ∷ step.Erase 3 ∷ step.Program 3 0 ec_1_named ∷ []

abbrev copied_new : List ℕ
copied_new = replicate 128 97

abbrev copied_at : Meant → FinMap leb_cmp ℕ → AttachValue
copied_at m w = attached m w (state.Table ∷ state.Table ∷ state.Used ∷ state.Used ∷ state.Used ∷ state.Free ∷ []) 0
    305419896 0

copied : (takeable g1 copied_image
    (state.Table ∷ state.Table ∷ state.Used ∷ state.Used ∷ state.Used ∷ state.Free ∷ []) ≡ 5 ∷ [])
    × ((m : Meant) (w : FinMap leb_cmp ℕ)
    → mapped_plan g1 copied_image (copied_at m w) root 0 1 copied_new 5 3 ≡ copied_steps)
    × (turn g1 copied_steps copied_new ≡ 3)
    × (blocks_after g1 copied_image copied_steps 5
    ≡ peb ec_0_named table_0 table ∷ peb ec_0_named table_1 table ∷ peb ec_0_named leb_0 (replicate 384 65)
    ∷ filled 512 ec_1_named ∷ peb ec_0_named leb_2 (replicate 384 67)
    ∷ peb ec_0_named copy_leb_1_at_1 (replicate 128 97) ∷ [])
unfolding on_literals
copied = (refl, λ m w. refl, refl, refl)

abbrev shared_page_image : List (List ℕ)
shared_page_image = wide_peb ec_0_wide table_0 wide_table ∷ wide_peb ec_0_wide table_1 wide_table
    ∷ wide_peb ec_0_wide leb_0 (replicate 768 65) ∷ filled 1024 ec_0_wide ∷ []

abbrev shared_page_steps : List Step
shared_page_steps = step.Program 3 0 (filled 256 (ec_0_wide ++ copy_leb_0_at_1)) ∷ step.Program 3 1 (replicate 256 97)
    ∷ step.Erase 2 ∷ step.Program 2 0 (filled 256 ec_1_wide) ∷ []

abbrev shared_page_new : List ℕ
shared_page_new = replicate 256 97

abbrev shared_page_at : Meant → FinMap leb_cmp ℕ → AttachValue
shared_page_at m w = attached m w (state.Table ∷ state.Table ∷ state.Used ∷ state.Free ∷ []) 0 0 0

shared_page : (takeable g2 shared_page_image (state.Table ∷ state.Table ∷ state.Used ∷ state.Free ∷ []) ≡ 3 ∷ [])
    × ((m : Meant) (w : FinMap leb_cmp ℕ)
    → mapped_plan g2 shared_page_image (shared_page_at m w) root 0 0 shared_page_new 3 2 ≡ shared_page_steps)
    × (turn g2 shared_page_steps shared_page_new ≡ 2)
    × (blocks_after g2 shared_page_image shared_page_steps 4
    ≡ wide_peb ec_0_wide table_0 wide_table ∷ wide_peb ec_0_wide table_1 wide_table ∷ filled 1024 ec_1_wide
    ∷ wide_peb ec_0_wide copy_leb_0_at_1 (replicate 256 97) ∷ [])
unfolding on_literals
shared_page = (refl, λ m w. refl, refl, refl)

abbrev blank_leb_image : List (List ℕ)
blank_leb_image = peb ec_0_named table_0 table ∷ peb ec_0_named table_1 table ∷ peb ec_0_named leb_0 (replicate 384 65)
    ∷ peb ec_0_named leb_1 (replicate 384 66) ∷ peb ec_0_named leb_2 (replicate 384 67) ∷ filled 512 ec_0_named
    ∷ filled 512 ec_0_named ∷ []

abbrev blank_leb_steps : List Step
blank_leb_steps = step.Program 5 1 leb_7_at_1 ∷ step.Program 6 1 copy_leb_7_at_2 ∷ step.Program 6 2 (replicate 64 97)
    ∷ step.Erase 5 ∷ step.Program 5 0 ec_1_named ∷ []

abbrev blank_leb_new : List ℕ
blank_leb_new = replicate 64 97

abbrev blank_leb_at : Meant → FinMap leb_cmp ℕ → AttachValue
blank_leb_at m w = attached m w (state.Table ∷ state.Table ∷ state.Used ∷ state.Used ∷ state.Used ∷ state.Free
    ∷ state.Free ∷ []) 0 305419896 0

blank_leb : (takeable g1 blank_leb_image
    (state.Table ∷ state.Table ∷ state.Used ∷ state.Used ∷ state.Used ∷ state.Free ∷ state.Free ∷ []) ≡ 5 ∷ 6 ∷ [])
    × ((m : Meant) (w : FinMap leb_cmp ℕ)
    → unmapped_plan g1 blank_leb_image (blank_leb_at m w) root 0 7 blank_leb_new 5 6 ≡ blank_leb_steps)
    × (turn g1 blank_leb_steps blank_leb_new ≡ 3)
    × (blocks_after g1 blank_leb_image blank_leb_steps 5
    ≡ peb ec_0_named table_0 table ∷ peb ec_0_named table_1 table ∷ peb ec_0_named leb_0 (replicate 384 65)
    ∷ peb ec_0_named leb_1 (replicate 384 66) ∷ peb ec_0_named leb_2 (replicate 384 67) ∷ filled 512 ec_1_named
    ∷ peb ec_0_named copy_leb_7_at_2 (replicate 64 97) ∷ [])
unfolding on_literals
blank_leb = (refl, λ m w. refl, refl, refl)

abbrev reused_image : List (List ℕ)
reused_image = peb ec_0 table_0 table ∷ peb ec_0 table_1 table ∷ peb ec_4 leb_0_at_5 (replicate 384 53)
    ∷ peb ec_0 copy_leb_0_at_7 (replicate 64 55) ∷ peb ec_0 copy_leb_0_at_9 (replicate 64 57) ∷ []

abbrev reused_steps : List Step
reused_steps = step.Erase 2 ∷ step.Program 2 0 ec_5 ∷ step.Program 2 1 copy_leb_0_at_10
    ∷ step.Program 2 2 (replicate 64 97) ∷ step.Erase 3 ∷ step.Program 3 0 ec_1 ∷ []

abbrev reused_new : List ℕ
reused_new = replicate 64 97

abbrev reused_at : Meant → FinMap leb_cmp ℕ → AttachValue
reused_at m w = attached m w (state.Table ∷ state.Table ∷ state.Stale ∷ state.Used ∷ state.Stale ∷ []) 9 0 0

reused : (takeable g1 reused_image (state.Table ∷ state.Table ∷ state.Stale ∷ state.Used ∷ state.Stale ∷ [])
    ≡ 2 ∷ 4 ∷ [])
    × ((m : Meant) (w : FinMap leb_cmp ℕ)
    → mapped_plan g1 reused_image (reused_at m w) root 0 0 reused_new 2 3 ≡ reused_steps)
    × (turn g1 reused_steps reused_new ≡ 4)
    × (blocks_after g1 reused_image reused_steps 6
    ≡ peb ec_0 table_0 table ∷ peb ec_0 table_1 table ∷ peb ec_5 copy_leb_0_at_10 (replicate 64 97) ∷ filled 512 ec_1
    ∷ peb ec_0 copy_leb_0_at_9 (replicate 64 57) ∷ [])
unfolding on_literals
reused = (refl, λ m w. refl, refl, refl)

abbrev worn_image : List (List ℕ)
worn_image = peb ec_0_named table_0 table ∷ peb ec_0_named table_1 table ∷ peb ec_0_named leb_0 (replicate 384 65)
    ∷ peb ec_worn_named leb_1 (replicate 384 66) ∷ peb ec_0_named leb_2 (replicate 384 67) ∷ filled 512 ec_0_named ∷ []

abbrev worn_steps : List Step
worn_steps = step.Program 5 1 copy_leb_1_at_1 ∷ step.Program 5 2 (replicate 64 97) ∷ step.Program 5 3 (replicate 64 97)
    ∷ []

abbrev worn_new : List ℕ
worn_new = replicate 128 97

abbrev worn_at : Meant → FinMap leb_cmp ℕ → AttachValue
worn_at m w = attached m w (state.Table ∷ state.Table ∷ state.Used ∷ state.Used ∷ state.Used ∷ state.Free ∷ []) 0
    305419896 357913941

worn : (takeable g1 worn_image (state.Table ∷ state.Table ∷ state.Used ∷ state.Used ∷ state.Used ∷ state.Free ∷ [])
    ≡ 5 ∷ [])
    × ((m : Meant) (w : FinMap leb_cmp ℕ) → mapped_plan g1 worn_image (worn_at m w) root 0 1 worn_new 5 3
    ≡ worn_steps)
    × (turn g1 worn_steps worn_new ≡ 3)
    × (blocks_after g1 worn_image worn_steps 3
    ≡ peb ec_0_named table_0 table ∷ peb ec_0_named table_1 table ∷ peb ec_0_named leb_0 (replicate 384 65)
    ∷ peb ec_worn_named leb_1 (replicate 384 66) ∷ peb ec_0_named leb_2 (replicate 384 67)
    ∷ peb ec_0_named copy_leb_1_at_1 (replicate 128 97) ∷ [])
unfolding on_literals
worn = (refl, λ m w. refl, refl, refl)

abbrev blank_image : List (List ℕ)
blank_image = peb ec_0_named table_0 table ∷ peb ec_0_named table_1 table ∷ peb ec_0_named leb_0 (replicate 384 65)
    ∷ peb ec_0_named leb_1 (replicate 384 66) ∷ peb ec_0_named leb_2 (replicate 384 67) ∷ filled 512 erased_ec ∷ []

abbrev blank_steps : List Step
blank_steps = step.Erase 5 ∷ step.Program 5 0 ec_0_named ∷ step.Program 5 1 copy_leb_1_at_1_of_64
    ∷ step.Program 5 2 (replicate 64 97) ∷ step.Erase 3 ∷ step.Program 3 0 ec_1_named ∷ []

abbrev blank_new : List ℕ
blank_new = replicate 64 97

abbrev blank_at : Meant → FinMap leb_cmp ℕ → AttachValue
blank_at m w = attached m w (state.Table ∷ state.Table ∷ state.Used ∷ state.Used ∷ state.Used ∷ state.Blank ∷ []) 0
    305419896 0

blank : (takeable g1 blank_image
    (state.Table ∷ state.Table ∷ state.Used ∷ state.Used ∷ state.Used ∷ state.Blank ∷ []) ≡ 5 ∷ [])
    × ((m : Meant) (w : FinMap leb_cmp ℕ) → mapped_plan g1 blank_image (blank_at m w) root 0 1 blank_new 5 3
    ≡ blank_steps)
    × (turn g1 blank_steps blank_new ≡ 4)
    × (blocks_after g1 blank_image blank_steps 6
    ≡ peb ec_0_named table_0 table ∷ peb ec_0_named table_1 table ∷ peb ec_0_named leb_0 (replicate 384 65)
    ∷ filled 512 ec_1_named ∷ peb ec_0_named leb_2 (replicate 384 67)
    ∷ peb ec_0_named copy_leb_1_at_1_of_64 (replicate 64 97) ∷ [])
unfolding on_literals
blank = (refl, λ m w. refl, refl, refl)

abbrev mixed_mapped_image : List (List ℕ)
mixed_mapped_image = peb ec_0 table_0 table ∷ peb ec_0 table_1 table ∷ peb ec_0 leb_0_at_5 (replicate 384 53)
    ∷ peb ec_0 copy_leb_0_at_9 (replicate 64 57) ∷ peb ec_0 leb_20_at_8 (replicate 384 68)
    ∷ peb ec_0 static_leb_20_at_7 (replicate 384 68) ∷ peb ec_0 corrupt_vid [] ∷ peb ec_0 internal []
    ∷ filled 512 corrupt_ec ∷ []

abbrev mixed_mapped_steps : List Step
mixed_mapped_steps = step.Erase 3 ∷ step.Program 3 0 ec_1 ∷ step.Program 3 1 copy_leb_0_at_13
    ∷ step.Program 3 2 (replicate 64 97) ∷ step.Erase 2 ∷ step.Program 2 0 ec_1 ∷ []

abbrev mixed_mapped_new : List ℕ
mixed_mapped_new = replicate 64 97

abbrev mixed_mapped_at : Meant → FinMap leb_cmp ℕ → AttachValue
mixed_mapped_at m w = attached m w (state.Table ∷ state.Table ∷ state.Used ∷ state.Stale ∷ state.Orphan ∷ state.Orphan
    ∷ state.Garbage ∷ state.Dropped ∷ state.Corrupt ∷ []) 12 0 0

mixed_mapped : (takeable g1 mixed_mapped_image
    (state.Table ∷ state.Table ∷ state.Used ∷ state.Stale ∷ state.Orphan ∷ state.Orphan ∷ state.Garbage ∷ state.Dropped
    ∷ state.Corrupt ∷ []) ≡ 3 ∷ 4 ∷ 5 ∷ 6 ∷ 7 ∷ [])
    × ((m : Meant) (w : FinMap leb_cmp ℕ)
    → mapped_plan g1 mixed_mapped_image (mixed_mapped_at m w) root 0 0 mixed_mapped_new 3 2 ≡ mixed_mapped_steps)
    × (turn g1 mixed_mapped_steps mixed_mapped_new ≡ 4)
    × (blocks_after g1 mixed_mapped_image mixed_mapped_steps 6
    ≡ peb ec_0 table_0 table ∷ peb ec_0 table_1 table ∷ filled 512 ec_1 ∷ peb ec_1 copy_leb_0_at_13 (replicate 64 97)
    ∷ peb ec_0 leb_20_at_8 (replicate 384 68) ∷ peb ec_0 static_leb_20_at_7 (replicate 384 68) ∷ peb ec_0 corrupt_vid []
    ∷ peb ec_0 internal [] ∷ filled 512 corrupt_ec ∷ [])
unfolding on_literals
mixed_mapped = (refl, λ m w. refl, refl, refl)

abbrev mixed_unmapped_image : List (List ℕ)
mixed_unmapped_image = peb ec_0 table_0 table ∷ peb ec_0 table_1 table ∷ peb ec_0 leb_0_at_5 (replicate 384 53)
    ∷ peb ec_0 copy_leb_0_at_9 (replicate 64 57) ∷ peb ec_0 leb_20_at_8 (replicate 384 68)
    ∷ peb ec_0 static_leb_20_at_7 (replicate 384 68) ∷ peb ec_0 corrupt_vid [] ∷ peb ec_0 internal []
    ∷ filled 512 corrupt_ec ∷ []

abbrev mixed_unmapped_steps : List Step
mixed_unmapped_steps = step.Erase 3 ∷ step.Program 3 0 ec_1 ∷ step.Program 3 1 leb_1_at_13 ∷ step.Erase 4
    ∷ step.Program 4 0 ec_1 ∷ step.Program 4 1 copy_leb_1_at_14 ∷ step.Program 4 2 (replicate 64 97) ∷ step.Erase 3
    ∷ step.Program 3 0 ec_2 ∷ []

abbrev mixed_unmapped_new : List ℕ
mixed_unmapped_new = replicate 64 97

abbrev mixed_unmapped_at : Meant → FinMap leb_cmp ℕ → AttachValue
mixed_unmapped_at m w = attached m w
    (state.Table ∷ state.Table ∷ state.Used ∷ state.Stale ∷ state.Orphan ∷ state.Orphan ∷ state.Garbage ∷ state.Dropped
    ∷ state.Corrupt ∷ []) 12 0 0

mixed_unmapped : (takeable g1 mixed_unmapped_image
    (state.Table ∷ state.Table ∷ state.Used ∷ state.Stale ∷ state.Orphan ∷ state.Orphan ∷ state.Garbage ∷ state.Dropped
    ∷ state.Corrupt ∷ []) ≡ 3 ∷ 4 ∷ 5 ∷ 6 ∷ 7 ∷ [])
    × ((m : Meant) (w : FinMap leb_cmp ℕ)
    → unmapped_plan g1 mixed_unmapped_image (mixed_unmapped_at m w) root 0 1 mixed_unmapped_new 3 4
    ≡ mixed_unmapped_steps)
    × (turn g1 mixed_unmapped_steps mixed_unmapped_new ≡ 7)
    × (blocks_after g1 mixed_unmapped_image mixed_unmapped_steps 9
    ≡ peb ec_0 table_0 table ∷ peb ec_0 table_1 table ∷ peb ec_0 leb_0_at_5 (replicate 384 53) ∷ filled 512 ec_2
    ∷ peb ec_1 copy_leb_1_at_14 (replicate 64 97) ∷ peb ec_0 static_leb_20_at_7 (replicate 384 68)
    ∷ peb ec_0 corrupt_vid [] ∷ peb ec_0 internal [] ∷ filled 512 corrupt_ec ∷ [])
unfolding on_literals
mixed_unmapped = (refl, λ m w. refl, refl, refl)
