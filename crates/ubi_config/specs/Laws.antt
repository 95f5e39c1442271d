-- What holds for the sections of every config that is read.
use Rattle.std.specs.Prelude.{◌≡◌, ℕ, ◌≤◌, ◌==◌, List, None, count_by, length, map}
use Rattle.std.specs.List.{IsDistinct}
use Rattle.ubi_media.specs.Fields.{same_bytes}
use Rattle.ubi_config.specs.Above.{most_sections}
use Rattle.ubi_config.specs.Config.{first_config_fault, sections_of}
use Rattle.ubi_config.specs.declared.section.Section.{Section}

-- there are not too many sections; no two have one volume number, or one name; and at most one volume grows
pub record AreApart (sections : List Section) : Type 0 where
  pub few : length sections ≤ most_sections
  pub ids : IsDistinct (λ a b. a == b) (map (λ s. s.id) sections)
  pub names : IsDistinct same_bytes (map (λ s. s.name) sections)
  pub grows : count_by (λ s. s.flags == 1) sections ≤ 1

-- so are the sections of every config that is read
abbrev pub SectionsDiffer : Type 0
SectionsDiffer = (text : List ℕ) → first_config_fault text ≡ None → AreApart (sections_of text)
