-- The power fails during a step: what may be left of the eraseblock that it works on, and what has to hold whatever is left.
use Rattle.std.specs.Prelude.{◌≡◌, ◌≢◌, ℕ, ◌+◌, ◌<◌, ◌≤◌, ◌⊎◌, true, false, List, length, take, None, Some, slice_get, slice_set, drop}
use Rattle.ubi_media.specs.declared.ec.EcFault.{EcFault}
use Rattle.ubi_media.specs.declared.ec.EcHeader.{EcHeader}
use Rattle.ubi_media.specs.declared.ec.EcRead.TheVariants as ec_read
use Rattle.ubi_media.specs.declared.vid.VidFault.{VidFault}
use Rattle.ubi_media.specs.declared.vid.VidHeader.{VidHeader}
use Rattle.ubi_media.specs.declared.vid.VidRead.TheVariants as vid_read
use Rattle.ubi_media.specs.Fields.{AreBytes, is_blank}
use Rattle.ubi_media.specs.Geometry.{IsGeometry, Sizes}
use Rattle.ubi_scan.specs.Clean.{IsSound}
use Rattle.ubi_scan.specs.Image.{block, ec, leb, vid}
use Rattle.ubi_scan.specs.Members.{Leb, Wins, good_in, is_right, named_in, sqnum_in}
use Rattle.ubi_scan.specs.Numbers.{image_seq, seq_of}
use Rattle.ubi_table.specs.Table.{AllBlank}
use Rattle.ubi_volume.specs.Accepts.{AcceptsBlocks}
use Rattle.ubi_volume.specs.Attached.{IsOutside}
use Rattle.ubi_volume.specs.Meant.{Meant}
use Rattle.ubi_change.specs.Fitting.{only_clears}
use Rattle.ubi_change.specs.Steps.{block_after, blocks_after, target}
use Rattle.ubi_change.specs.Takeable.{is_sole_carrier}
use Rattle.ubi_change.specs.declared.step.Step.{Step}
use Rattle.ubi_change.specs.declared.step.Step.TheVariants as step

-- what an eraseblock b may hold if the power fails during a step on it: an erase may leave anything, but an erase-counter
-- header of 0xFF bytes stays one if the volume-identifier header isn't 0xFF; a program clears only bits that it is to clear
abbrev pub MayBeLeft : Sizes → List ℕ → Step → List ℕ → Type 0
MayBeLeft s b (step.Erase p) t = ec s b ≡ ec_read.Blank → vid s b ≢ vid_read.Blank → ec s t ≡ ec_read.Blank
MayBeLeft s b (step.Program p page bytes) t =
    (only_clears b t ≡ true) × (only_clears t (block_after s b (step.Program p page bytes)) ≡ true)

-- what it may hold if more goes wrong: a program may harm any page that was programmed since the erase, and only what lies
-- after all of them is still 0xFF
abbrev pub MayBeHarmed : Sizes → List ℕ → Step → List ℕ → Type 0
MayBeHarmed s b (step.Erase p) t = MayBeLeft s b (step.Erase p) t
MayBeHarmed s b (step.Program p page bytes) t =
    (n : ℕ) → is_blank (drop n b) ≡ true → is_blank (drop n (block_after s b (step.Program p page bytes))) ≡ true
    → drop n t ≡ drop n b

-- no CRC is right by chance: what reads as a header in t is the header that b has, or that of c; and if the data of a copy
-- have its CRC, they are those of b or of c, under the same header
pub record NoChance (s : Sizes) (b c t : List ℕ) : Type 0 where
  pub ec_valid : (h : EcHeader) → ec s t ≡ ec_read.Valid h → (ec s b ≡ ec_read.Valid h) ⊎ (ec s c ≡ ec_read.Valid h)
  pub ec_fault : (f : EcFault) → ec s t ≡ ec_read.Fault f → (ec s b ≡ ec_read.Fault f) ⊎ (ec s c ≡ ec_read.Fault f)
  pub vid_valid : (h : VidHeader) → vid s t ≡ vid_read.Valid h → (vid s b ≡ vid_read.Valid h) ⊎ (vid s c ≡ vid_read.Valid h)
  pub vid_fault : (f : VidFault) → vid s t ≡ vid_read.Fault f → (vid s b ≡ vid_read.Fault f) ⊎ (vid s c ≡ vid_read.Fault f)
  pub copied : (h : VidHeader) → vid s t ≡ vid_read.Valid h → h.copy_flag ≡ true → is_right s t h ≡ true
      → ((vid s b ≡ vid_read.Valid h) × (take h.data_size (leb s t) ≡ take h.data_size (leb s b)))
      ⊎ ((vid s c ≡ vid_read.Valid h) × (take h.data_size (leb s t) ≡ take h.data_size (leb s c)))

-- the power may fail at any instant of a plan: during a step before the one that reaches the commit point the old is meant,
-- during a step after it the new, and during that one either of them
pub record SurvivesTears (s : Sizes) (bs : List (List ℕ)) (m n : Meant) (steps : List Step) (turn : ℕ) : Type 0 where
  pub each : (k : ℕ) (next : Step) (t : List ℕ) → slice_get steps k ≡ Some next
      → let b = block (blocks_after s bs steps k) (target next) in MayBeLeft s b next t
      → NoChance s b (block_after s b next) t
      → let cs = slice_set (blocks_after s bs steps k) (target next) t in
      ((k < turn) × AcceptsBlocks s cs m) ⊎ ((turn ≤ k + 1) × AcceptsBlocks s cs n)

-- if more goes wrong, the old is still meant before the commit point, and from it on either of them until all pages of the copy
-- are programmed, which is after `last` steps; from then on the new
pub record SurvivesHarm (s : Sizes) (bs : List (List ℕ)) (m n : Meant) (steps : List Step) (turn last : ℕ) : Type 0 where
  pub each : (k : ℕ) (next : Step) (t : List ℕ) → slice_get steps k ≡ Some next
      → let b = block (blocks_after s bs steps k) (target next) in MayBeHarmed s b next t
      → NoChance s b (block_after s b next) t
      → let cs = slice_set (blocks_after s bs steps k) (target next) t in
      ((k < last) × AcceptsBlocks s cs m) ⊎ ((turn ≤ k + 1) × AcceptsBlocks s cs n)

-- x in the place of b does no harm: it has no fault, names the image of the others or none, and is no member, or the member
-- that b was, and good only if b was
pub record IsHarmless (s : Sizes) (seq : ℕ) (b x : List ℕ) : Type 0 where
  pub sound : IsSound s x
  pub image : seq_of s x ≢ 0 → seq_of s x ≡ seq
  pub member : (named_in s x ≡ None)
      ⊎ ((named_in s x ≡ named_in s b) × (sqnum_in s x ≡ sqnum_in s b) × (good_in s x ≡ true → good_in s b ≡ true))

-- an eraseblock that wins no LEB that counts, and isn't the sole carrier, may be torn: the meaning stays
abbrev pub TearIsHarmless : Type 0
TearIsHarmless = (s : Sizes) (bs : List (List ℕ)) (m : Meant) (p : ℕ) (x : List ℕ) → p < length bs
    → (a : AcceptsBlocks s bs m) → (AllBlank s bs → ⊥)
    → ((of : Leb) → (IsOutside a.records of → ⊥) → Wins s bs of p → ⊥) → is_sole_carrier s bs p ≡ false
    → IsHarmless s (image_seq s bs) (block bs p) x → AcceptsBlocks s (slice_set bs p x) m

-- a program only clears bits
abbrev pub OnlyClears : Sizes → List ℕ → Step → Type 0
OnlyClears s b (step.Erase p) = Unit {0}
OnlyClears s b (step.Program p page bytes) = only_clears b (block_after s b (step.Program p page bytes)) ≡ true

-- what may be left of a step: what was there before it, what is there after it, and, of an erase, bytes in which it only set bits
abbrev pub TearsCover : Type 0
TearsCover = (s : Sizes) → IsGeometry s → (b : List ℕ)
    → ((next : Step) → OnlyClears s b next → let c = block_after s b next in
    (MayBeLeft s b next b × NoChance s b c b) × (MayBeLeft s b next c × NoChance s b c c))
    × ((p : ℕ) (t : List ℕ) → AreBytes t → only_clears t b ≡ true → MayBeLeft s b (step.Erase p) t)
