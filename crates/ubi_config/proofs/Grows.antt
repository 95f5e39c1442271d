-- Lines have no more sections whose volume grows than they have lines that let one grow.
use Rattle.ubi_config.proofs.Prelude.{◌≡◌, ◌≤◌, ◌+◌, ◌∙◌, ℕ, Bool, true, false, List, [], ◌∷◌, ap, arith, drop, refl, sym, Result, Ok, Err, ◌==◌, cond, count_by, before_first, cons_option, list_any, position_or_len, result_ok, take-append-drop, is_autoresize, is_heading, Group, groups, section_of, sections_in, ConfigCause, Line, Section}
use Rattle.ubi_config.specs.declared.line.Line.TheVariants as line
use Rattle.ubi_config.proofs.DistinctSections.{from_heading, from_next, no_sections, sections_cons}
use Rattle.ubi_config.proofs.Counts.{count_both, count_cons, some_counted}
use Rattle.ubi_config.proofs.Fields.{no_growth}

-- whether a section's volume grows
abbrev grows : Section → Bool
grows s = s.flags == 1

at_most_one : (b : Bool) → cond b 1 0 ≤ 1
at_most_one true = omega arith
at_most_one false = omega arith

grows_by : (g : Group) (s : Section) → section_of g ≡ Ok s → (b : Bool) → list_any is_autoresize g.1 ≡ b
    → cond (grows s) 1 0 ≤ count_by is_autoresize g.1
grows_by g s is true h = omega (arith, at_most_one (grows s), some_counted is_autoresize g.1 h)
grows_by g s is false h =
    let none : cond {A = ℕ} (grows s) 1 0 ≡ 0 = ap (λ b. cond {A = ℕ} b 1 0) (no_growth g.0 g.1 s is h) in
    omega (arith, none)

first_grows : (g : Group) (ss : List Section) (r : Result Section ConfigCause) → section_of g ≡ r
    → count_by grows (cons_option (result_ok r) ss) ≤ count_by is_autoresize g.1 + count_by grows ss
first_grows g ss (Err c) is = omega arith
first_grows g ss (Ok s) is =
    omega (arith, count_cons grows s ss, grows_by g s is (list_any is_autoresize g.1) refl)

both_parts : (ls : List Line)
    → count_by is_autoresize (before_first is_heading ls) + count_by is_autoresize (from_heading ls)
    ≡ count_by is_autoresize ls
both_parts ls =
    sym (count_both is_autoresize (before_first is_heading ls) (from_heading ls))
    ∙ ap (count_by is_autoresize) (take-append-drop (position_or_len is_heading ls) ls)

next : (l : Line) (below : List Line) → count_by is_autoresize (from_heading below)
    ≡ count_by is_autoresize (drop (1 + position_or_len is_heading below) (l ∷ below))
next l below = ap (count_by is_autoresize) (from_next l below)

grow_from : (ls : List Line) → count_by grows (sections_in (groups ls)) ≤ count_by is_autoresize (from_heading ls)
grow_from [] = rw no_sections (omega arith)
grow_from (line.Heading n t ∷ below) =
    let g : Group = (n, before_first is_heading below) in
    omega (
      arith,
      ap (count_by grows) (sections_cons g (groups below)),
      first_grows g (sections_in (groups below)) (section_of g) refl,
      grow_from below,
      both_parts below,
      count_cons is_autoresize (line.Heading n t) below,
    )
grow_from (line.Mode ∷ below) = omega (arith, grow_from below, next line.Mode below)
grow_from (line.Image p ∷ below) = omega (arith, grow_from below, next (line.Image p) below)
grow_from (line.Id n ∷ below) = omega (arith, grow_from below, next (line.Id n) below)
grow_from (line.Size b ∷ below) = omega (arith, grow_from below, next (line.Size b) below)
grow_from (line.Kind k ∷ below) = omega (arith, grow_from below, next (line.Kind k) below)
grow_from (line.Name t ∷ below) = omega (arith, grow_from below, next (line.Name t) below)
grow_from (line.Autoresize ∷ below) = omega (arith, grow_from below, next line.Autoresize below)
grow_from (line.SkipCheck ∷ below) = omega (arith, grow_from below, next line.SkipCheck below)
grow_from (line.Alignment a ∷ below) = omega (arith, grow_from below, next (line.Alignment a) below)

pub sections_grow : (ls : List Line) → count_by grows (sections_in (groups ls)) ≤ count_by is_autoresize ls
sections_grow ls = omega (arith, grow_from ls, both_parts ls)
