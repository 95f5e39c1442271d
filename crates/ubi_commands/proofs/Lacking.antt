-- Words that lack what a command needs are no request of it. Each list of cases names one of the commands that read an
-- image, and one of those that compare two, so the last case is tried for each of the others.
use Rattle.ubi_commands.proofs.Prelude.{◌≡◌, ◌∙◌, ◌∷◌, [], Bool, List, ap, false, refl, sym, true, true≢false, ℕ, list_any, bytes_eq, bytes_eq-Decides, Row, Text, AsksAsked, AsksChange, AsksDump, AsksExtract, AsksNewImage, AsksNumbers, AsksPart, AsksPaths, AsksRename, HasNumber, finds, plans, IsAskedBy, Asked, Change, Dump, Extract, NewImage, Paths, Rename, Request, FilePart, Numbers, AsksFormat, comparison_format, formats, Format, AsksUpdate, Update}
use Rattle.std.proofs.Common.{codes}
use Rattle.ubi_reading.specs.declared.comparison.Comparison.TheVariants as comparison
use Rattle.ubi_reading.specs.declared.readers.Reading.TheVariants as reading
use Rattle.ubi_commands.specs.declared.requests.Request.TheVariants as request

-- the commands that make an image of no other
abbrev pub makes : Text → Bool
makes name = list_any (bytes_eq name) (codes "compose" ∷ codes "build" ∷ [])

-- a name that passes a test isn't one that doesn't
other_test : (test : Text → Bool) (a b : Text) → test a ≡ false → test b ≡ true → a ≡ b → ⊥
other_test test a b fails passes same = true≢false (sym passes ∙ sym (ap test same) ∙ fails)

pub apart : (a b : Text) → bytes_eq a b ≡ false → a ≡ b → ⊥
apart a b differ same = true≢false (sym ((bytes_eq-Decides a b).1 same) ∙ differ)

-- of a command that is asked with the numbers of a new image's geometry
pub no_numbers : (name : Text) → makes name ≡ true → (rows : List Row) → ((n : Numbers) → AsksNumbers rows n → ⊥)
    → (r : Request) → IsAskedBy name rows r → ⊥
no_numbers name made rows none (request.Compose n new) asked = none n asked.1.0
no_numbers name made rows none (request.Build n new) asked = none n asked.1.0
no_numbers name made rows none (request.Tell d image (reading.List format)) asked = other_test makes _ _ refl made asked.0
no_numbers name made rows none (request.Compare (comparison.Same format) d left right) asked = other_test makes _ _ refl made asked.0
no_numbers name made rows none _ asked = other_test makes _ _ refl made asked.0

-- of a command that plans, over a dump
pub no_dump : (name : Text) → plans name ≡ true → (rows : List Row) → ((d : Dump) → AsksDump rows d → ⊥) → (r : Request)
    → IsAskedBy name rows r → ⊥
no_dump name planned rows none (request.Change d change) asked = none d asked.1.0
no_dump name planned rows none (request.Rename d rename) asked = none d asked.1.0
no_dump name planned rows none (request.Update d update) asked = none d asked.1.0
no_dump name planned rows none (request.Tell d image (reading.List format)) asked = other_test plans _ _ refl planned asked.0
no_dump name planned rows none (request.Compare (comparison.Same format) d left right) asked = other_test plans _ _ refl planned asked.0
no_dump name planned rows none _ asked = other_test plans _ _ refl planned asked.0

-- of a command that finds how a dump is read
pub no_asked : (name : Text) → finds name ≡ true → (rows : List Row) → ((d : Asked) → AsksAsked rows d → ⊥) → (r : Request)
    → IsAskedBy name rows r → ⊥
no_asked name found rows none (request.Tell d image what) asked = none d asked.1.0
no_asked name found rows none (request.Map d image page) asked = none d asked.1.0
no_asked name found rows none (request.Extract d extract) asked = none d asked.1.0
no_asked name found rows none (request.Unpack d paths) asked = none d asked.1.0
no_asked name found rows none (request.Normalise d paths) asked = none d asked.1.0
no_asked name found rows none (request.Compare how d left right) asked = none d asked.1.0
no_asked name found rows none _ asked = other_test finds _ _ refl found asked.0

-- of a command that answers in a format
pub no_format : (name : Text) → formats name ≡ true → (rows : List Row) → ((f : Format) → AsksFormat rows f → ⊥) → (r : Request)
    → IsAskedBy name rows r → ⊥
no_format name told rows none (request.Geometry part image f) asked = none f asked.1.2
no_format name told rows none (request.Tell d image (reading.List f)) asked = none f asked.1.2
no_format name told rows none (request.Tell d image (reading.Check f)) asked = none f asked.1.2
no_format name told rows none (request.Tell d image (reading.Geometry part f)) asked = absurd asked.1.2
no_format name told rows none (request.Tell d image (reading.Show block)) asked = other_test formats _ _ refl told asked.0
no_format name told rows none (request.Compare how d left right) asked = none (comparison_format how) asked.1.3
no_format name told rows none _ asked = other_test formats _ _ refl told asked.0

pub no_part : (rows : List Row) → ((p : FilePart) → AsksPart rows p → ⊥) → (r : Request) → IsAskedBy (codes "geometry") rows r → ⊥
no_part rows none (request.Geometry part image format) asked = none part asked.1.0
no_part rows none (request.Tell d image (reading.Geometry part f)) asked = absurd asked.1.2
no_part rows none (request.Tell d image (reading.List format)) asked = apart _ _ refl asked.0
no_part rows none (request.Compare (comparison.Same format) d left right) asked = apart _ _ refl asked.0
no_part rows none _ asked = apart _ _ refl asked.0

pub no_block : (rows : List Row) → ((n : ℕ) → HasNumber rows (codes "block") n → ⊥) → (r : Request)
    → IsAskedBy (codes "show") rows r → ⊥
no_block rows none (request.Tell n image (reading.Show block)) asked = none block asked.1.2
no_block rows none (request.Compare (comparison.Same format) d left right) asked = apart _ _ refl asked.0
no_block rows none _ asked = apart _ _ refl asked.0

pub no_extract : (rows : List Row) → ((x : Extract) → AsksExtract rows x → ⊥) → (r : Request)
    → IsAskedBy (codes "extract") rows r → ⊥
no_extract rows none (request.Extract n extract) asked = none extract asked.1.1
no_extract rows none (request.Tell d image (reading.List format)) asked = apart _ _ refl asked.0
no_extract rows none (request.Compare (comparison.Same format) d left right) asked = apart _ _ refl asked.0
no_extract rows none _ asked = apart _ _ refl asked.0

pub no_unpack : (rows : List Row) → ((p : Paths) → AsksPaths rows p → ⊥) → (r : Request)
    → IsAskedBy (codes "unpack") rows r → ⊥
no_unpack rows none (request.Unpack n paths) asked = none paths asked.1.1
no_unpack rows none (request.Tell d image (reading.List format)) asked = apart _ _ refl asked.0
no_unpack rows none (request.Compare (comparison.Same format) d left right) asked = apart _ _ refl asked.0
no_unpack rows none _ asked = apart _ _ refl asked.0

pub no_normalise : (rows : List Row) → ((p : Paths) → AsksPaths rows p → ⊥) → (r : Request)
    → IsAskedBy (codes "normalise") rows r → ⊥
no_normalise rows none (request.Normalise n paths) asked = none paths asked.1.1
no_normalise rows none (request.Tell d image (reading.List format)) asked = apart _ _ refl asked.0
no_normalise rows none (request.Compare (comparison.Same format) d left right) asked = apart _ _ refl asked.0
no_normalise rows none _ asked = apart _ _ refl asked.0

pub no_compose : (rows : List Row) → ((i : NewImage) → AsksNewImage rows (codes "SPEC") i → ⊥) → (r : Request)
    → IsAskedBy (codes "compose") rows r → ⊥
no_compose rows none (request.Compose n new) asked = none new asked.1.1
no_compose rows none (request.Tell d image (reading.List format)) asked = apart _ _ refl asked.0
no_compose rows none (request.Compare (comparison.Same format) d left right) asked = apart _ _ refl asked.0
no_compose rows none _ asked = apart _ _ refl asked.0

pub no_build : (rows : List Row) → ((i : NewImage) → AsksNewImage rows (codes "CONFIG") i → ⊥) → (r : Request)
    → IsAskedBy (codes "build") rows r → ⊥
no_build rows none (request.Build n new) asked = none new asked.1.1
no_build rows none (request.Tell d image (reading.List format)) asked = apart _ _ refl asked.0
no_build rows none (request.Compare (comparison.Same format) d left right) asked = apart _ _ refl asked.0
no_build rows none _ asked = apart _ _ refl asked.0

pub no_change : (rows : List Row) → ((c : Change) → AsksChange rows c → ⊥) → (r : Request)
    → IsAskedBy (codes "change") rows r → ⊥
no_change rows none (request.Change n change) asked = none change asked.1.1
no_change rows none (request.Tell d image (reading.List format)) asked = apart _ _ refl asked.0
no_change rows none (request.Compare (comparison.Same format) d left right) asked = apart _ _ refl asked.0
no_change rows none _ asked = apart _ _ refl asked.0

pub no_rename : (rows : List Row) → ((c : Rename) → AsksRename rows c → ⊥) → (r : Request)
    → IsAskedBy (codes "rename") rows r → ⊥
no_rename rows none (request.Rename n rename) asked = none rename asked.1.1
no_rename rows none (request.Tell d image (reading.List format)) asked = apart _ _ refl asked.0
no_rename rows none (request.Compare (comparison.Same format) d left right) asked = apart _ _ refl asked.0
no_rename rows none _ asked = apart _ _ refl asked.0

pub no_update : (rows : List Row) → ((u : Update) → AsksUpdate rows u → ⊥) → (r : Request)
    → IsAskedBy (codes "update") rows r → ⊥
no_update rows none (request.Update n update) asked = none update asked.1.1
no_update rows none (request.Tell d image (reading.List format)) asked = apart _ _ refl asked.0
no_update rows none (request.Compare (comparison.Same format) d left right) asked = apart _ _ refl asked.0
no_update rows none _ asked = apart _ _ refl asked.0
