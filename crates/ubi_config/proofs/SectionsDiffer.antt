-- There are not too many sections in a config that is read, and they differ.
use Rattle.ubi_config.proofs.Prelude.{◌≡◌, ◌≤◌, ◌<◌, ◌+◌, ◌∙◌, ℕ, Bool, true, false, List, [], ◌∷◌, ◌++◌, ap, arith, length, refl, sym, Option, Some, None, ◌==◌, count_by, filter_map, nat_le, not, then_some, IsDistinct, before_first, cons_option, list_any, option_map_or, option_or, result_ok, nat_tests, same_bytes, gives_id, gives_name, heading_cause, is_autoresize, is_heading, is_titled, later_cause, own, sets, setting_cause, shared_cause, Group, first_config_fault, groups, line_fault, lines, section_of, sayings, sections_in, SectionsDiffer, ConfigCause, Line, Section, Key}
use Rattle.std.specs.Prelude.{◌||◌}
use Rattle.ubi_config.specs.declared.errors.ConfigCause.TheVariants as cause
use Rattle.ubi_config.specs.declared.line.Line.TheVariants as line
use Rattle.ubi_config.proofs.DistinctSections.{distinct_keys, distinct_more, distinct_same, no_sections, sections_cons}
use Rattle.ubi_config.proofs.Counts.{count_cons, count_more, none_counted}
use Rattle.ubi_config.proofs.Distinct.{distinct_none}
use Rattle.ubi_config.proofs.Fields.{id_given, id_in, name_given, name_in}
use Rattle.ubi_config.proofs.Grows.{sections_grow}
use Rattle.ubi_config.proofs.FaultlessLines.{kept, or_none}

id_any : (n : ℕ) (ls : List Line)
    → list_any (gives_id n) ls ≡ list_any (λ l. option_map_or (λ x. x == n) (id_in l) false) ls
id_any n [] = refl
id_any n (line.Heading m t ∷ ls) = id_any n ls
id_any n (line.Mode ∷ ls) = id_any n ls
id_any n (line.Image p ∷ ls) = id_any n ls
id_any n (line.Id m ∷ ls) = ap (λ b. (m == n) || b) (id_any n ls)
id_any n (line.Size b ∷ ls) = id_any n ls
id_any n (line.Kind k ∷ ls) = id_any n ls
id_any n (line.Name t ∷ ls) = id_any n ls
id_any n (line.Autoresize ∷ ls) = id_any n ls
id_any n (line.SkipCheck ∷ ls) = id_any n ls
id_any n (line.Alignment a ∷ ls) = id_any n ls

name_any : (n : List ℕ) (ls : List Line)
    → list_any (gives_name n) ls ≡ list_any (λ l. option_map_or (λ x. same_bytes x n) (name_in l) false) ls
name_any n [] = refl
name_any n (line.Heading m t ∷ ls) = name_any n ls
name_any n (line.Mode ∷ ls) = name_any n ls
name_any n (line.Image p ∷ ls) = name_any n ls
name_any n (line.Id m ∷ ls) = name_any n ls
name_any n (line.Size b ∷ ls) = name_any n ls
name_any n (line.Kind k ∷ ls) = name_any n ls
name_any n (line.Name t ∷ ls) = ap (λ b. same_bytes t n || b) (name_any n ls)
name_any n (line.Autoresize ∷ ls) = name_any n ls
name_any n (line.SkipCheck ∷ ls) = name_any n ls
name_any n (line.Alignment a ∷ ls) = name_any n ls

last_none : (a b : Bool) (c d : ConfigCause) (o : Option ConfigCause)
    → option_or (then_some a c) (option_or (then_some b d) (option_or o None)) ≡ None → o ≡ None
last_none true b c d o h = absurd (cc)
last_none false true c d o h = absurd (cc)
last_none false false c d None h = refl
last_none false false c d (Some x) h = absurd (cc)

shared_none : (above : List Line) (k : Key) (l : Line) → setting_cause above k l ≡ None → shared_cause above l ≡ None
unfolding setting_cause
shared_none above k l h =
    last_none (not (list_any is_heading above)) (list_any (sets k) (own above)) cause.NoSection cause.Again
    (shared_cause above l) h

none_then : (b : Bool) (c : ConfigCause) → then_some b c ≡ None → b ≡ false
none_then false c h = refl
none_then true c h = absurd (cc)

same_ids : (above : List Line) (l : Line) → id_in l ≡ None → IsDistinct (λ a b. a == b) (filter_map id_in above)
    → IsDistinct (λ a b. a == b) (filter_map id_in (above ++ l ∷ []))
same_ids above l is d =
    distinct_same (λ a b. a == b) id_in (λ s. s.id) (λ n t. refl) (λ g s. id_given g.0 g.1 s) above l is d

same_names : (above : List Line) (l : Line) → name_in l ≡ None → IsDistinct same_bytes (filter_map name_in above)
    → IsDistinct same_bytes (filter_map name_in (above ++ l ∷ []))
same_names above l is d =
    distinct_same same_bytes name_in (λ s. s.name) (λ n t. refl) (λ g s. name_given g.0 g.1 s) above l is d

id_step : (above : List Line) (l : Line) → IsDistinct (λ a b. a == b) (filter_map id_in above)
    → later_cause above l ≡ None → IsDistinct (λ a b. a == b) (filter_map id_in (above ++ l ∷ []))
unfolding later_cause
id_step above (line.Id n) d h =
    distinct_more (λ a b. a == b) id_in (λ s. s.id) (λ n t. refl) (λ g s. id_given g.0 g.1 s) above (line.Id n) n refl d
    (sym (id_any n above) ∙ none_then _ _ (shared_none above _ (line.Id n) h))
id_step above (line.Heading m t) d h = same_ids above (line.Heading m t) refl d
id_step above line.Mode d h = same_ids above line.Mode refl d
id_step above (line.Image p) d h = same_ids above (line.Image p) refl d
id_step above (line.Size b) d h = same_ids above (line.Size b) refl d
id_step above (line.Kind k) d h = same_ids above (line.Kind k) refl d
id_step above (line.Name t) d h = same_ids above (line.Name t) refl d
id_step above line.Autoresize d h = same_ids above line.Autoresize refl d
id_step above line.SkipCheck d h = same_ids above line.SkipCheck refl d
id_step above (line.Alignment a) d h = same_ids above (line.Alignment a) refl d

name_step : (above : List Line) (l : Line) → IsDistinct same_bytes (filter_map name_in above)
    → later_cause above l ≡ None → IsDistinct same_bytes (filter_map name_in (above ++ l ∷ []))
unfolding later_cause
name_step above (line.Name n) d h =
    distinct_more same_bytes name_in (λ s. s.name) (λ n t. refl) (λ g s. name_given g.0 g.1 s) above (line.Name n) n
    refl d (sym (name_any n above) ∙ none_then _ _ (shared_none above _ (line.Name n) h))
name_step above (line.Heading m t) d h = same_names above (line.Heading m t) refl d
name_step above line.Mode d h = same_names above line.Mode refl d
name_step above (line.Image p) d h = same_names above (line.Image p) refl d
name_step above (line.Size b) d h = same_names above (line.Size b) refl d
name_step above (line.Kind k) d h = same_names above (line.Kind k) refl d
name_step above (line.Id i) d h = same_names above (line.Id i) refl d
name_step above line.Autoresize d h = same_names above line.Autoresize refl d
name_step above line.SkipCheck d h = same_names above line.SkipCheck refl d
name_step above (line.Alignment a) d h = same_names above (line.Alignment a) refl d

few_none : (a b : Bool) (c d : ConfigCause)
    → option_or (then_some a c) (option_or (then_some b d) None) ≡ None → b ≡ false
few_none true b c d h = absurd (cc)
few_none false true c d h = absurd (cc)
few_none false false c d h = refl

heading_none : (above : List Line) (name : List ℕ) → heading_cause above name ≡ None
    → nat_le 128 (count_by is_heading above) ≡ false
unfolding heading_cause
heading_none above name h =
    few_none (list_any (is_titled name) above) (nat_le 128 (count_by is_heading above)) cause.Again cause.TooMany h

few_step : (above : List Line) (l : Line) → count_by is_heading above ≤ 128 → later_cause above l ≡ None
    → count_by is_heading (above ++ l ∷ []) ≤ 128
unfolding later_cause
few_step above (line.Heading n t) d h =
    let small = heading_none above t h in
    let less : count_by is_heading above < 128 = grind (arith, nat_tests) in
    omega (arith, count_more is_heading above (line.Heading n t))
few_step above line.Mode d h = omega (arith, count_more is_heading above line.Mode)
few_step above (line.Image p) d h = omega (arith, count_more is_heading above (line.Image p))
few_step above (line.Id n) d h = omega (arith, count_more is_heading above (line.Id n))
few_step above (line.Size b) d h = omega (arith, count_more is_heading above (line.Size b))
few_step above (line.Kind k) d h = omega (arith, count_more is_heading above (line.Kind k))
few_step above (line.Name t) d h = omega (arith, count_more is_heading above (line.Name t))
few_step above line.Autoresize d h = omega (arith, count_more is_heading above line.Autoresize)
few_step above line.SkipCheck d h = omega (arith, count_more is_heading above line.SkipCheck)
few_step above (line.Alignment a) d h = omega (arith, count_more is_heading above (line.Alignment a))

one_more : (o : Option Section) (ss : List Section) → length (cons_option o ss) ≤ length ss + 1
one_more None ss = omega arith
one_more (Some s) ss = omega arith

-- lines have no more sections than they begin
sections_few : (ls : List Line) → length (sections_in (groups ls)) ≤ count_by is_heading ls
sections_few [] = rw no_sections (omega arith)
sections_few (line.Heading n t ∷ below) =
    let g : Group = (n, before_first is_heading below) in
    omega (
      arith,
      ap length (sections_cons g (groups below)),
      one_more (result_ok (section_of g)) (sections_in (groups below)),
      sections_few below,
      count_cons is_heading (line.Heading n t) below,
    )
sections_few (line.Mode ∷ below) = omega (arith, sections_few below, count_cons is_heading line.Mode below)
sections_few (line.Image p ∷ below) = omega (arith, sections_few below, count_cons is_heading (line.Image p) below)
sections_few (line.Id n ∷ below) = omega (arith, sections_few below, count_cons is_heading (line.Id n) below)
sections_few (line.Size b ∷ below) = omega (arith, sections_few below, count_cons is_heading (line.Size b) below)
sections_few (line.Kind k ∷ below) = omega (arith, sections_few below, count_cons is_heading (line.Kind k) below)
sections_few (line.Name t ∷ below) = omega (arith, sections_few below, count_cons is_heading (line.Name t) below)
sections_few (line.Autoresize ∷ below) = omega (arith, sections_few below, count_cons is_heading line.Autoresize below)
sections_few (line.SkipCheck ∷ below) = omega (arith, sections_few below, count_cons is_heading line.SkipCheck below)
sections_few (line.Alignment a ∷ below) =
    omega (arith, sections_few below, count_cons is_heading (line.Alignment a) below)

grow_step : (above : List Line) (l : Line) → count_by is_autoresize above ≤ 1 → later_cause above l ≡ None
    → count_by is_autoresize (above ++ l ∷ []) ≤ 1
unfolding later_cause
grow_step above line.Autoresize d h =
    omega (
      arith,
      count_more is_autoresize above line.Autoresize,
      none_counted is_autoresize above (none_then _ _ (shared_none above _ line.Autoresize h)),
    )
grow_step above (line.Heading n t) d h = omega (arith, count_more is_autoresize above (line.Heading n t))
grow_step above line.Mode d h = omega (arith, count_more is_autoresize above line.Mode)
grow_step above line.SkipCheck d h = omega (arith, count_more is_autoresize above line.SkipCheck)
grow_step above (line.Image p) d h = omega (arith, count_more is_autoresize above (line.Image p))
grow_step above (line.Id n) d h = omega (arith, count_more is_autoresize above (line.Id n))
grow_step above (line.Size b) d h = omega (arith, count_more is_autoresize above (line.Size b))
grow_step above (line.Kind k) d h = omega (arith, count_more is_autoresize above (line.Kind k))
grow_step above (line.Name t) d h = omega (arith, count_more is_autoresize above (line.Name t))
grow_step above (line.Alignment a) d h = omega (arith, count_more is_autoresize above (line.Alignment a))

lines_none : (text : List ℕ) → first_config_fault text ≡ None → line_fault text ≡ None
unfolding first_config_fault
lines_none text h = (or_none (line_fault text) _ h).0

pub sections_differ : SectionsDiffer
sections_differ text h =
    let none = lines_none text h in
    let said = sayings (lines text) in
    let ids = kept (λ ls. IsDistinct (λ a b. a == b) (filter_map id_in ls)) id_step
    (distinct_none (λ a b. a == b)) text none in
    let names = kept (λ ls. IsDistinct same_bytes (filter_map name_in ls)) name_step
    (distinct_none same_bytes) text none in
    let grow = kept (λ ls. count_by is_autoresize ls ≤ 1) grow_step (omega arith) text none in
    let few = kept (λ ls. count_by is_heading ls ≤ 128) few_step (omega arith) text none in
    record {
      few = omega (arith, few, sections_few (sayings (lines text)));
      grows = omega (arith, grow, sections_grow (sayings (lines text)));
      ids =
          distinct_keys (λ a b. a == b) id_in (λ s. s.id) (λ n t. refl) (λ g s. id_given g.0 g.1 s)
          (sayings (lines text)) ids;
      names =
          distinct_keys same_bytes name_in (λ s. s.name) (λ n t. refl) (λ g s. name_given g.0 g.1 s)
          (sayings (lines text)) names;
    }
