-- The first fault of a text: of a line, or else of a section.
use Rattle.ubi_config.proofs.Prelude.{◌≡◌, ℕ, List, ap, refl, sym, ◌∙◌, Option, Some, None, option_or, Fault, IsFault, first_config_fault, groups, groups_of, line_fault, lines, sayings, section_fault, sections_in, sections_of, Line, Section, ConfigError}
use Rattle.ubi_config.specs.declared.errors.ConfigError.TheVariants as error

pub by_parts : (text : List ℕ) (lines sections : Option Fault) → line_fault text ≡ lines
    → section_fault (groups_of text) ≡ sections → first_config_fault text ≡ option_or lines (option_or sections None)
unfolding first_config_fault
by_parts text lines sections l s =
    ap (λ (o : Option Fault). option_or o (option_or (section_fault (groups_of text)) None)) l
    ∙ ap (λ (o : Option Fault). option_or lines (option_or o None)) s

-- a line has a fault
pub line_refused : (text : List ℕ) (e : ConfigError) → IsFault (line_fault text) e → IsFault (first_config_fault text) e
line_refused text (error.Refused n c) h = by_parts text (Some (n, c)) (section_fault (groups_of text)) h refl
line_refused text error.Memory h = tt

-- no line has a fault, and a section has
pub section_refused : (text : List ℕ) (said : List Line) (e : ConfigError) → said ≡ sayings (lines text)
    → line_fault text ≡ None → IsFault (section_fault (groups said)) e → IsFault (first_config_fault text) e
section_refused text said (error.Refused n c) is l h =
    by_parts text None (Some (n, c)) l (ap (λ ls. section_fault (groups ls)) (sym is) ∙ h)
section_refused text said error.Memory is l h = tt

module _ (text : List ℕ) (said : List Line) (made : List Section) (is : said ≡ sayings (lines text))
    (l : line_fault text ≡ None) (h : (section_fault (groups said) ≡ None) × (made ≡ sections_in (groups said))) where
  pub made_is : made ≡ sections_of text
  made_is = h.1 ∙ ap (λ ls. sections_in (groups ls)) is

  -- neither a line nor a section has a fault
  pub no_fault : first_config_fault text ≡ None
  no_fault = by_parts text None None l (ap (λ ls. section_fault (groups ls)) (sym is) ∙ h.0)
