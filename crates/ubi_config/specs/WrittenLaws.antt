-- How the config that is written is read.
use Rattle.std.specs.Prelude.{◌≡◌, ℕ, ◌+◌, ◌<◌, ◌≤◌, ◌==◌, ◌^◌, All, Bool, List, [], ◌∷◌, ◌++◌, None, Ok, Option, Some, false, length, map}
use Rattle.std.specs.List.{IsDistinct}
use Rattle.ubi_media.specs.Fields.{same_bytes}
use Rattle.ubi_media.specs.Geometry.{IsGeometry, Sizes, slots}
use Rattle.ubi_media.specs.Record.{rec_fault}
use Rattle.ubi_config.specs.Above.{most_sections}
use Rattle.ubi_config.specs.Config.{first_config_fault, line_number, sections_of}
use Rattle.ubi_media.specs.declared.vid.VolKind.TheVariants as kind
use Rattle.ubi_config.specs.Records.{record_in}
use Rattle.ubi_config.specs.Written.{bytes_reserved, config_text, left_out, may_grow, volume_lines}
use Rattle.ubi_config.specs.declared.section.Section.{Section}
use Rattle.ubi_config.specs.declared.volume.ConfigVolume.{ConfigVolume}
use Rattle.ubi_config.specs.declared.volume.LeftOut.{LeftOut}

-- volumes of a device: there are not too many, their records break no rule, and no two have one number, or one name
pub record AreVolumes (s : Sizes) (vs : List ConfigVolume) : Type 0 where
  pub geometry : IsGeometry s
  pub few : length vs ≤ most_sections
  pub numbers : All (λ v. v.id < 2 ^ 32) vs
  pub sound : All (λ v. rec_fault s v.entry ≡ None) vs
  pub ids : IsDistinct (λ a b. a == b) (map (λ v. v.id) vs)
  pub names : IsDistinct same_bytes (map (λ v. v.entry.name) vs)

-- the section of a volume, which begins at a line
abbrev pub section_for : Sizes → ℕ → ConfigVolume → Section
section_for s number v = record {
  line = number;
  id = v.id;
  name = v.entry.name;
  kind = v.entry.kind;
  alignment = v.entry.alignment;
  flags = v.entry.flags;
  size = Some (bytes_reserved s v.entry);
  image = v.image;
}

-- the section of a volume whose lines begin at a place; there is none if it's left out
abbrev pub section_at : Sizes → ℕ → ConfigVolume → Option LeftOut → List Section
section_at s place v None = section_for s (line_number (place + 1)) v ∷ []
section_at s place v (Some _) = []

-- the sections of volumes whose lines begin at a place
abbrev pub sections_at : Sizes → Bool → ℕ → List ConfigVolume → List Section
sections_at s grow place [] = []
sections_at s grow place (v ∷ vs) =
    section_at s place v (left_out grow v) ++ sections_at s grow (place + length (volume_lines s grow v)) vs

-- the sections of a config: the lines of its volumes begin after its first
abbrev pub sections_written : Sizes → List ConfigVolume → List Section
sections_written s vs = sections_at s (may_grow vs) 1 vs

-- the config that is written of volumes is read as their sections, and has no fault
abbrev pub WrittenReads : Type 0
WrittenReads =
    (s : Sizes) (seq : ℕ) (vs : List ConfigVolume) → seq < 2 ^ 32 → AreVolumes s vs
    → (first_config_fault (config_text s seq vs) ≡ None) × (sections_of (config_text s seq vs) ≡ sections_written s vs)

-- the section of a volume gives back its record, for a file with the bytes that it can read: no more than it reserves, and
-- some if it is dynamic
abbrev pub SectionGivesRecord : Type 0
SectionGivesRecord =
    (s : Sizes) (n len : ℕ) (v : ConfigVolume) → rec_fault s v.entry ≡ None → v.entry.marker ≡ false
    → v.id < slots s → len ≤ bytes_reserved s v.entry → (v.entry.kind ≡ kind.Dynamic → 1 ≤ len)
    → record_in s (section_for s n v) (Some len) ≡ Ok v.entry
