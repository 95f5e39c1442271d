-- The sections of lines, in order.
use Rattle.ubi_config.proofs.Prelude.{◌≡◌, ◌<◌, ◌≤◌, ◌+◌, ◌-◌, ℕ, List, [], ◌∷◌, ◌++◌, append-nil, append_assoc, drop, get_or, length, length-drop, take, refl, ap, ◌∙◌, sym, take-length, drop_all, drop_more, Option, Some, None, Result, Ok, map, option_map, option_to_list, cons_option, option_or, result_err, result_ok, filter_map-append, first_some, Fault, Group, IsFault, group_of, groups, lack_of, section_fault, section_of, sections_in, IsRefused, error_at, ConfigCause, ConfigError, LineError, Line, Section}
use Rattle.ubi_config.specs.declared.errors.ConfigError.TheVariants as error
use Rattle.ubi_config.specs.declared.errors.LineError.TheVariants as line_error
use Rattle.ubi_config.specs.declared.line.Line.TheVariants as line

or_assoc : {X : Type 0} (a b c : Option X) → option_or a (option_or b c) ≡ option_or (option_or a b) c
or_assoc None b c = refl
or_assoc (Some x) b c = refl

or_none : {X : Type 0} (a : Option X) → option_or a None ≡ a
or_none None = refl
or_none (Some x) = refl

first_of_both : (gs hs : List Group)
    → first_some (map lack_of (gs ++ hs)) ≡ option_or (first_some (map lack_of gs)) (first_some (map lack_of hs))
first_of_both [] hs = refl
first_of_both (g ∷ gs) hs =
    ap (option_or (lack_of g)) (first_of_both gs hs)
    ∙ or_assoc (lack_of g) (first_some (map lack_of gs)) (first_some (map lack_of hs))

-- the first fault of sections, and of more that follow
pub fault-append : (gs hs : List Group) → section_fault (gs ++ hs) ≡ option_or (section_fault gs) (section_fault hs)
unfolding section_fault
fault-append gs hs = first_of_both gs hs

-- the sections that lack no key, of sections and of more that follow
pub sections-append : (gs hs : List Group) → sections_in (gs ++ hs) ≡ sections_in gs ++ sections_in hs
unfolding sections_in
sections-append gs hs = filter_map-append (λ g. result_ok (section_of g)) gs hs

option_one : (o : Option Section) → cons_option o [] ≡ option_to_list o
option_one None = refl
option_one (Some s) = refl

fault_one : (g : Group) → section_fault (g ∷ []) ≡ lack_of g
unfolding section_fault
fault_one g = or_none (lack_of g)

sections_one : (g : Group) → sections_in (g ∷ []) ≡ option_to_list (result_ok (section_of g))
unfolding sections_in
sections_one g = option_one (result_ok (section_of g))

-- a section that lacks no key
pub one_made : (g : Group) (section : Section) → section_of g ≡ Ok section
    → (section_fault (g ∷ []) ≡ None) × (section ∷ [] ≡ sections_in (g ∷ []))
one_made g section made = (
  fault_one g ∙ ap (λ (r : Result Section ConfigCause). option_map (λ c. (g.0, c)) (result_err r)) made,
  sym (sections_one g ∙ ap (λ (r : Result Section ConfigCause). option_to_list (result_ok r)) made),
)

-- a section that isn't finished
pub one_refused : (g : Group) (e : LineError) → IsRefused (section_of g) e
    → IsFault (section_fault (g ∷ [])) (error_at g.0 e)
one_refused g (line_error.Cause c) h =
    fault_one g ∙ ap (λ (r : Result Section ConfigCause). option_map (λ c. (g.0, c)) (result_err r)) h
one_refused g line_error.Memory h = tt

-- no section
pub none_made : (section_fault [] ≡ None) × ([] ≡ sections_in [])
unfolding section_fault sections_in
none_made = (refl, refl)

-- the sections before this one, and this one, lack no key
pub fault_kept : (all gs hs : List Group) → section_fault all ≡ section_fault (gs ++ hs) → section_fault gs ≡ None
    → section_fault all ≡ section_fault hs
fault_kept all gs hs is none =
    is ∙ fault-append gs hs ∙ ap (λ (o : Option Fault). option_or o (section_fault hs)) none

-- the first fault is that of this section
pub fault_found : (all gs hs : List Group) (e : ConfigError) → section_fault all ≡ section_fault (gs ++ hs)
    → IsFault (section_fault gs) e → IsFault (section_fault all) e
fault_found all gs hs (error.Refused n c) is some =
    is ∙ fault-append gs hs ∙ ap (λ (o : Option Fault). option_or o (section_fault hs)) some
fault_found all gs hs error.Memory is some = tt

-- a line that begins no section
pub no_group : (l : Line) (below : List Line) → ((n : ℕ) (name : List ℕ) → l ≡ line.Heading n name → ⊥)
    → group_of l below ≡ []
no_group (line.Heading n name) below h = absurd (h n name refl)
no_group line.Mode below h = refl
no_group (line.Image path) below h = refl
no_group (line.Id id) below h = refl
no_group (line.Size bytes) below h = refl
no_group (line.Kind k) below h = refl
no_group (line.Name name) below h = refl
no_group line.Autoresize below h = refl
no_group line.SkipCheck below h = refl
no_group (line.Alignment alignment) below h = refl

-- what is known of the sections of lines as far as they were made
pub record IsMadeSoFar (said : List Line) (n : ℕ) (made : List Section) : Type 0 where
  pub fault : section_fault (groups said) ≡ section_fault (groups (drop n said))
  pub sections : made ++ sections_in (groups (drop n said)) ≡ sections_in (groups said)

module _ (said : List Line) (n : ℕ) (made : List Section) (l : Line) (k : IsMadeSoFar said n made)
    (within : n < length said) (is : l ≡ get_or said n l) where
  here : List Group
  here = group_of l (drop (n + 1) said)

  after : List Group
  after = groups (drop (n + 1) said)

  this_line : groups (drop n said) ≡ here ++ after
  unfolding here after
  this_line = ap groups (drop_more said n l within ∙ ap (λ (l : Line). l ∷ drop (n + 1) said) (sym is))

  fault_is : section_fault (groups said) ≡ section_fault (here ++ after)
  fault_is = k.fault ∙ ap section_fault this_line

  below_is : take (length said - (n + 1)) (drop (n + 1) said) ≡ drop (n + 1) said
  below_is =
      ap (λ k. take k (drop (n + 1) said)) (sym (length-drop (n + 1) said)) ∙ take-length (drop (n + 1) said)

  -- a line more, with the section that it begins
  pub made_more : (found : Option Section) (more : List Section)
      → (section_fault (group_of l (take (length said - (n + 1)) (drop (n + 1) said))) ≡ None)
      × (option_to_list found ≡ sections_in (group_of l (take (length said - (n + 1)) (drop (n + 1) said))))
      → more ≡ made ++ option_to_list found → IsMadeSoFar said (n + 1) more
  unfolding here after
  made_more found more h added = record {
    fault =
        fault_kept (groups said) here after fault_is
        (ap (λ below. section_fault (group_of l below)) (sym below_is) ∙ h.0);
    sections = ap (λ (ss : List Section). ss ++ sections_in after)
        (added ∙ ap (λ ss. made ++ ss) (h.1 ∙ ap (λ below. sections_in (group_of l below)) below_is))
        ∙ append_assoc made (sections_in here) (sections_in after)
        ∙ ap (λ ss. made ++ ss) (sym (sections-append here after))
        ∙ ap (λ gs. made ++ sections_in gs) (sym this_line)
        ∙ k.sections;
  }

  -- a line whose section lacks a key
  pub lacks_here : (e : ConfigError)
      → IsFault (section_fault (group_of l (take (length said - (n + 1)) (drop (n + 1) said)))) e
      → IsFault (section_fault (groups said)) e
  unfolding here after
  lacks_here e h = fault_found (groups said) here after e fault_is (rw below_is at h)

pub made_all : (said : List Line) (n : ℕ) (made : List Section) → IsMadeSoFar said n made → length said ≤ n
    → (section_fault (groups said) ≡ None) × (made ≡ sections_in (groups said))
made_all said n made k h =
    let none : drop n said ≡ [] = drop_all n said h in (
      k.fault ∙ ap (λ ls. section_fault (groups ls)) none ∙ none_made.0,
      sym (append-nil made) ∙ ap (λ ss. made ++ ss) none_made.1 ∙ ap (λ ls. made ++ sections_in (groups ls)) (sym none)
          ∙ k.sections,
    )
