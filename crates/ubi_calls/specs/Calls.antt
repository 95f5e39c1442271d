-- What is answered to callers in other languages.
use Rattle.std.specs.Prelude.{◌≡◌, ◌≢◌, ℕ, List, [], ◌++◌, None, Some, drop, length, take}
use Rattle.ubi_media.specs.Geometry.{Sizes}
use Rattle.ubi_media.specs.Limits.{first_broken}
use Rattle.ubi_media.specs.declared.geometry.GeometryError.{GeometryError}
use Rattle.ubi_files.specs.Lines.{geometry_line}
use Rattle.ubi_files.specs.declared.outcome.Outcome.{Outcome}
use Rattle.ubi_calls.specs.declared.numbers.DeviceSizes.{DeviceSizes}

-- the sizes that the numbers name
abbrev pub named_sizes : DeviceSizes → Sizes
named_sizes n = record {
  peb_size = n.peb_size;
  page = n.page;
  vid_offset = n.vid_offset;
  data_offset = n.data_offset;
  pebs = n.pebs;
}

-- what may be answered: which bytes, with which status
abbrev pub MayTell : Type 1
MayTell = List ℕ → ℕ → Type 0

-- what a command prints, with its status
abbrev pub printed : (Outcome → Type 0) → MayTell
printed answers text status = (o : Outcome) × answers o × (text ≡ o.text.items) × (status ≡ o.status)

-- what is answered under numbers: what is answered under these sizes, or the line of the first limit that they break
pub data Under (n : DeviceSizes) (told : Sizes → MayTell) (bytes : List ℕ) (status : ℕ) : Type 0 where
  under : first_broken (named_sizes n) ≡ None → told (named_sizes n) bytes status → Under n told bytes status
  bad_limit : (e : GeometryError) → first_broken (named_sizes n) ≡ Some e → bytes ≡ geometry_line e → status ≡ 2 → Under n told bytes status

-- a buffer after as many of some bytes were put into it as it has room for
abbrev pub put_into : List ℕ → List ℕ → List ℕ
put_into bytes room = take (length room) bytes ++ drop (length bytes) room

-- what a call leaves: the buffer with the first of the bytes, how many there are, and the status; or the buffer as it was,
-- if memory ran out
pub data Fills (told : MayTell) (old new : List ℕ) (len result : ℕ) : Type 0 where
  filled : (bytes : List ℕ) (status : ℕ) → told bytes status → new ≡ put_into bytes old → len ≡ length bytes → result ≡ status
      → Fills told old new len result
  no_memory : new ≡ old → len ≡ 0 → result ≡ 3 → Fills told old new len result

-- what a call that fills the buffer bit by bit leaves: the same, or only the first bytes, if memory ran out before they were
-- counted
pub data Streams (told : MayTell) (old new : List ℕ) (len result : ℕ) : Type 0 where
  ended : Fills told old new len result → Streams told old new len result
  uncounted : (bytes : List ℕ) (status n : ℕ) → told bytes status → new ≡ put_into (take n bytes) old → len ≡ 0 → result ≡ 3
      → Streams told old new len result

-- what a call that fills two buffers leaves: one with what is answered with pages, and one with these pages, of which there
-- are none if the status isn't 0; or both as they were, if memory ran out
pub data FillsBoth (told : List ℕ → MayTell) (old new : List ℕ) (len : ℕ) (old_pages new_pages : List ℕ) (pages_len result : ℕ) : Type 0 where
  both : (pages bytes : List ℕ) (status : ℕ) → told pages bytes status → (status ≢ 0 → pages ≡ [])
      → new ≡ put_into bytes old → len ≡ length bytes → new_pages ≡ put_into pages old_pages → pages_len ≡ length pages → result ≡ status
      → FillsBoth told old new len old_pages new_pages pages_len result
  neither : new ≡ old → len ≡ 0 → new_pages ≡ old_pages → pages_len ≡ 0 → result ≡ 3
      → FillsBoth told old new len old_pages new_pages pages_len result
