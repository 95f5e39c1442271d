-- A config: its sections, or the first fault.
use Rattle.std.specs.Prelude.{◌≡◌, ℕ, ◌+◌, ◌==◌, min, List, [], ◌∷◌, ◌++◌, filter_map, map, take, Option, Some, None, Result, Ok, Err, option_and_then, option_map}
use Rattle.std.specs.List.{before_first, enumerate_from, slice_split}
use Rattle.std.specs.Result.{result_ok, result_err, result_unwrap_or}
use Rattle.ubi_config.specs.Above.{first_some, is_heading, later_cause}
use Rattle.ubi_config.specs.Lines.{line_of}
use Rattle.ubi_config.specs.Sections.{draft_of, finished}
use Rattle.ubi_config.specs.declared.errors.ConfigCause.{ConfigCause}
use Rattle.ubi_config.specs.declared.errors.ConfigError.{ConfigError}
use Rattle.ubi_config.specs.declared.errors.ConfigError.TheVariants as error
use Rattle.ubi_config.specs.declared.line.Line.{Line}
use Rattle.ubi_config.specs.declared.line.Line.TheVariants as line
use Rattle.ubi_config.specs.declared.section.Section.{Section}

-- the lines of a text
abbrev pub lines : List ℕ → List (List ℕ)
lines text = slice_split (λ b. b == 10) text

-- lines are counted from 1, up to 4294967295
abbrev pub line_number : ℕ → ℕ
line_number place = min (place + 1) 0xFFFF_FFFF

-- what the line at a place says by itself; places are counted from 0
abbrev pub line_at : ℕ × List ℕ → Result (Option Line) ConfigCause
line_at e = line_of (line_number e.0) e.1

-- what the line at a place says, if it isn't skipped and has no fault by itself
unfoldable pub saying : ℕ × List ℕ → Option Line
saying e = result_unwrap_or (line_at e) None

-- what lines say
unfoldable pub sayings : List (List ℕ) → List Line
sayings ls = filter_map saying (enumerate_from 0 ls)

-- what is wrong with a line, by how it was read: by itself, or else by those above it
abbrev pub cause_after : List Line → Result (Option Line) ConfigCause → Option ConfigCause
cause_after above (Err c) = Some c
cause_after above (Ok said) = option_and_then (later_cause above) said

-- a fault: the number of a line, and what is wrong with it
abbrev pub Fault : Type 0
Fault = ℕ × ConfigCause

-- the fault of the line at a place
unfoldable pub cause_at : List (List ℕ) → ℕ × List ℕ → Option Fault
cause_at ls e = option_map (λ c. (line_number e.0, c)) (cause_after (sayings (take e.0 ls)) (line_at e))

-- the fault of the first line that has one
unfoldable pub line_fault : List ℕ → Option Fault
line_fault text = first_some (map (cause_at (lines text)) (enumerate_from 0 (lines text)))

-- a section: the number of its first line, and what its other lines say
abbrev pub Group : Type 0
Group = ℕ × List Line

-- the section that a line begins, with the lines below it up to the next that begins one
abbrev pub group_of : Line → List Line → List Group
group_of (line.Heading number _) below = (number, before_first is_heading below) ∷ []
group_of _ below = []

-- the sections of lines
abbrev pub groups : List Line → List Group
groups [] = []
groups (l ∷ below) = group_of l below ++ groups below

-- what a section is
abbrev pub section_of : Group → Result Section ConfigCause
section_of g = finished g.0 (draft_of g.1)

-- the fault of a section: its first line, and the key that it lacks
abbrev pub lack_of : Group → Option Fault
lack_of g = option_map (λ c. (g.0, c)) (result_err (section_of g))

-- the fault of the first section that has one
unfoldable pub section_fault : List Group → Option Fault
section_fault gs = first_some (map lack_of gs)

-- the sections of a text
abbrev pub groups_of : List ℕ → List Group
groups_of text = groups (sayings (lines text))

-- the sections that lack no key
unfoldable pub sections_in : List Group → List Section
sections_in gs = filter_map (λ g. result_ok (section_of g)) gs

-- the sections that a text gives
abbrev pub sections_of : List ℕ → List Section
sections_of text = sections_in (groups_of text)

-- the first fault: of a line, or else of a section
unfoldable pub first_config_fault : List ℕ → Option Fault
first_config_fault text = first_some (line_fault text ∷ section_fault (groups_of text) ∷ [])

-- the error is the first fault, or that memory ran out
abbrev pub IsFault : Option Fault → ConfigError → Type 0
IsFault first (error.Refused number what) = first ≡ Some (number, what)
IsFault first error.Memory = Unit {0}
