-- What private functions find when edits are judged.
use Rattle.std.specs.Prelude.{◌≡◌, ℕ, ◌<◌, Bool, List, [], None, length, map}
use Rattle.ubi_media.specs.Geometry.{Sizes}
use Rattle.ubi_table.specs.Records.{Records, space}
use Rattle.ubi_volume.specs.Survey.{Seen}
use Rattle.ubi_change.specs.EditsAsked.{news_of}
use Rattle.ubi_change.specs.Placed.{edited_parts, edited_records, free_slots}
use Rattle.ubi_change.specs.UpdateRefused.{RecordsStand, update_rank}
use Rattle.ubi_change.specs.inner.Drafting.{IsFirstEditFault, TellsUsed}
use Rattle.ubi_change.specs.declared.edit.Edit.{Edit}
use Rattle.ubi_change.specs.declared.errors.UpdateRefusal.{UpdateRefusal}
use Rattle.ubi_change.specs.declared.errors.UpdateRefusal.TheVariants as refusal
use Rattle.ubi_change.specs.declared.judging.Judged.{Judged}
use Rattle.ubi_change.specs.declared.judging.Placed.{Placed}

-- the records with those of the new volumes, in as many slots as are free
pub record IsPlaced (s : Sizes) (v : Seen) (ends : List ℕ) (wholes : List Bool) (es : List Edit) (p : Placed) : Type 0 where
  pub faultless : IsFirstEditFault s v.scan.winners ends wholes v.records es None
  pub needs : p.needs ≡ length (news_of es)
  pub has : (used : ℕ → ℕ → Bool) → TellsUsed v.scan.winners ends used → p.has ≡ length (free_slots used v.records)
  pub parts : (used : ℕ → ℕ → Bool) → TellsUsed v.scan.winners ends used → p.parts.items ≡ edited_parts used v.records es
  pub draft : (used : ℕ → ℕ → Bool) → TellsUsed v.scan.winners ends used → p.draft ≡ edited_records used v.records es

-- the records reserve as much as before, and no volume is written
pub record IsRenamedAlone (t : Records) (p : Placed) : Type 0 where
  pub needs : p.needs ≡ 0
  pub parts : p.parts.items ≡ []
  pub same : space p.draft ≡ space t

-- no cause applies that the records and the members say, and this is what the edits make
pub record IsMade (s : Sizes) (v : Seen) (used : ℕ → ℕ → Bool) (whole : Edit → Bool) (es : List Edit) (room : ℕ) (j : Judged) : Type 0 where
  pub none : (c : UpdateRefusal) → RecordsStand s used whole v.records room es c → ⊥
  pub parts : j.parts.items ≡ edited_parts used v.records es
  pub table : j.table ≡ edited_records used v.records es

-- a cause applies that the records and the members say, and none before it does
pub record IsFirstJudged (s : Sizes) (v : Seen) (used : ℕ → ℕ → Bool) (whole : Edit → Bool) (es : List Edit) (room : ℕ) (c : UpdateRefusal) : Type 0 where
  pub stands : RecordsStand s used whole v.records room es c
  pub first : (d : UpdateRefusal) → update_rank d < update_rank c → RecordsStand s used whole v.records room es d → ⊥

-- what edits make of a survey, by what is known of each volume that gets another size
abbrev pub IsJudged : Sizes → Seen → List ℕ → List Bool → List Edit → ℕ → Judged → Type 0
IsJudged s v ends wholes es room j = (used : ℕ → ℕ → Bool) (whole : Edit → Bool) → TellsUsed v.scan.winners ends used → wholes ≡ map whole es
    → IsMade s v used whole es room j

-- why they make nothing: the first cause that applies; or memory ran out
abbrev pub IsUnjudged : Sizes → Seen → List ℕ → List Bool → List Edit → ℕ → UpdateRefusal → Type 0
IsUnjudged s v ends wholes es room refusal.Memory = Unit {0}
IsUnjudged s v ends wholes es room (refusal.Attach _) = ⊥
IsUnjudged s v ends wholes es room refusal.NeedsRepair = ⊥
IsUnjudged s v ends wholes es room (refusal.WeakCheck _) = ⊥
IsUnjudged s v ends wholes es room refusal.Exhausted = ⊥
IsUnjudged s v ends wholes es room (refusal.NoFree _ _) = ⊥
IsUnjudged s v ends wholes es room c = (used : ℕ → ℕ → Bool) (whole : Edit → Bool) → TellsUsed v.scan.winners ends used → wholes ≡ map whole es
    → IsFirstJudged s v used whole es room c
