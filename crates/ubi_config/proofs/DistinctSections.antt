-- The sections of lines that give distinct keys have distinct ones.
use Rattle.ubi_config.proofs.Prelude.{◌≡◌, ◌+◌, ◌∙◌, ℕ, Bool, false, List, [], ◌∷◌, ◌++◌, ap, append-nil, arith, drop, refl, subst, suc, sym, Option, Some, None, Result, Ok, Err, filter_map, map, option_to_list, AllByRecursion, IsDistinct, before_first, cons_option, list_any, position_or_len, option_map_or, result_ok, take-append-drop, filter_map-append, list_any-append, is_heading, Group, groups, section_of, sections_in, ConfigCause, Line, Section}
use Rattle.ubi_config.specs.declared.line.Line.TheVariants as line
use Rattle.ubi_config.proofs.Distinct.{apart, both_false, distinct-push, distinct_cons, distinct_none, distinct_tail, or_false}

-- the lines from the first that begins a section on
abbrev pub from_heading : List Line → List Line
from_heading ls = drop (position_or_len is_heading ls) ls

-- a line that begins no section stands before the first that does
pub from_next : (l : Line) (below : List Line)
    → from_heading below ≡ drop (1 + position_or_len is_heading below) (l ∷ below)
from_next l below =
    let next : suc (position_or_len is_heading below) ≡ 1 + position_or_len is_heading below = omega arith in
    ap (λ n. drop n (l ∷ below)) next

-- the sections of groups, the first by what it is
pub sections_cons : (g : Group) (gs : List Group)
    → sections_in (g ∷ gs) ≡ cons_option (result_ok (section_of g)) (sections_in gs)
unfolding sections_in
sections_cons g gs = refl

pub no_sections : sections_in [] ≡ []
unfolding sections_in
no_sections = refl

module _ {X : Type 0} (e : X → X → Bool) (pick : Line → Option X) (key : Section → X)
    (none : (n : ℕ) (t : List ℕ) → pick (line.Heading n t) ≡ None)
    (given : (g : Group) (s : Section) → section_of g ≡ Ok s → (q : X → Bool)
    → list_any q (filter_map pick g.1) ≡ false → q (key s) ≡ false) where
  -- the keys of the sections of lines
  abbrev keys : List Line → List X
  keys ls = map key (sections_in (groups ls))

  -- the keys that lines give
  abbrev given_in : List Line → List X
  given_in ls = filter_map pick ls

  parts : (ls : List Line) → given_in (before_first is_heading ls) ++ given_in (from_heading ls) ≡ given_in ls
  parts ls =
      sym (filter_map-append pick (before_first is_heading ls) (from_heading ls))
      ∙ ap (filter_map pick) (take-append-drop (position_or_len is_heading ls) ls)

  split : (q : X → Bool) (ls : List Line) → list_any q (given_in ls) ≡ false
      → (list_any q (given_in (before_first is_heading ls)) ≡ false) × (list_any q (given_in (from_heading ls)) ≡ false)
  split q ls h =
      or_false _ _
      (sym (list_any-append q (given_in (before_first is_heading ls)) (given_in (from_heading ls)))
      ∙ ap (list_any q) (parts ls) ∙ h)

  heading_gives : (n : ℕ) (t : List ℕ) (below : List Line) → given_in (line.Heading n t ∷ below) ≡ given_in below
  heading_gives n t below = ap (λ o. cons_option o (given_in below)) (none n t)

  -- the keys of a section and of those behind it
  keys_cons : (g : Group) (gs : List Group) (r : Result Section ConfigCause) → section_of g ≡ r
      → map key (sections_in (g ∷ gs)) ≡ map key (cons_option (result_ok r) (sections_in gs))
  keys_cons g gs r is = ap (map key) (sections_cons g gs ∙ ap (λ r. cons_option (result_ok r) (sections_in gs)) is)

  none_one : (g : Group) (gs : List Group) (r : Result Section ConfigCause) → section_of g ≡ r → (q : X → Bool)
      → list_any q (filter_map pick g.1) ≡ false → list_any q (map key (sections_in gs)) ≡ false
      → list_any q (map key (sections_in (g ∷ gs))) ≡ false
  none_one g gs (Err c) is q h k = ap (list_any q) (keys_cons g gs (Err c) is) ∙ k
  none_one g gs (Ok s) is q h k =
      ap (list_any q) (keys_cons g gs (Ok s) is) ∙ both_false _ _ (given g s is q h) k

  less : (l : Line) (below : List Line) (q : X → Bool)
      → list_any q (given_in (drop (1 + position_or_len is_heading below) (l ∷ below))) ≡ false
      → list_any q (given_in (from_heading below)) ≡ false
  less l below q h = ap (λ ls. list_any q (given_in ls)) (from_next l below) ∙ h

  -- a test that passes none of the keys that lines give, passes none of their sections'
  none_pass : (q : X → Bool) (ls : List Line) → list_any q (given_in (from_heading ls)) ≡ false
      → list_any q (keys ls) ≡ false
  none_pass q [] h = ap (λ ss. list_any q (map key ss)) no_sections
  none_pass q (line.Heading n t ∷ below) h =
      let both = split q below (sym (ap (list_any q) (heading_gives n t below)) ∙ h) in
      none_one (n, before_first is_heading below) (groups below) _ refl q both.0 (none_pass q below both.1)
  none_pass q (line.Mode ∷ below) h = none_pass q below (less line.Mode below q h)
  none_pass q (line.Image p ∷ below) h = none_pass q below (less (line.Image p) below q h)
  none_pass q (line.Id n ∷ below) h = none_pass q below (less (line.Id n) below q h)
  none_pass q (line.Size b ∷ below) h = none_pass q below (less (line.Size b) below q h)
  none_pass q (line.Kind k ∷ below) h = none_pass q below (less (line.Kind k) below q h)
  none_pass q (line.Name t ∷ below) h = none_pass q below (less (line.Name t) below q h)
  none_pass q (line.Autoresize ∷ below) h = none_pass q below (less line.Autoresize below q h)
  none_pass q (line.SkipCheck ∷ below) h = none_pass q below (less line.SkipCheck below q h)
  none_pass q (line.Alignment a ∷ below) h = none_pass q below (less (line.Alignment a) below q h)

  distinct_one : (g : Group) (gs : List Group) (r : Result Section ConfigCause) → section_of g ≡ r
      → ((s : Section) → section_of g ≡ Ok s → list_any (e (key s)) (map key (sections_in gs)) ≡ false)
      → IsDistinct e (map key (sections_in gs)) → IsDistinct e (map key (sections_in (g ∷ gs)))
  distinct_one g gs (Err c) is h d = subst (IsDistinct e) (sym (keys_cons g gs (Err c) is)) d
  distinct_one g gs (Ok s) is h d =
      subst (IsDistinct e) (sym (keys_cons g gs (Ok s) is))
      (distinct_cons e (key s) (map key (sections_in gs)) (h s is) d)

  -- sections of lines that give distinct keys have distinct ones
  pub distinct_keys : (ls : List Line) → IsDistinct e (given_in ls) → IsDistinct e (keys ls)
  distinct_keys [] d = subst (λ ss. IsDistinct e (map key ss)) (sym no_sections) (distinct_none e)
  distinct_keys (line.Heading n t ∷ below) d =
      let all : IsDistinct e (given_in below) = subst (IsDistinct e) (heading_gives n t below) d in
      let apart_from = apart e (given_in (before_first is_heading below)) (given_in (from_heading below))
      (subst (IsDistinct e) (sym (parts below)) all) in
      distinct_one (n, before_first is_heading below) (groups below) _ refl
      (λ s is. none_pass (e (key s)) below
      (given (n, before_first is_heading below) s is (λ x. list_any (e x) (given_in (from_heading below))) apart_from))
      (distinct_keys below all)
  distinct_keys (line.Mode ∷ below) d = distinct_keys below (distinct_tail e (pick line.Mode) (given_in below) d)
  distinct_keys (line.Image p ∷ below) d =
      distinct_keys below (distinct_tail e (pick (line.Image p)) (given_in below) d)
  distinct_keys (line.Id n ∷ below) d = distinct_keys below (distinct_tail e (pick (line.Id n)) (given_in below) d)
  distinct_keys (line.Size b ∷ below) d = distinct_keys below (distinct_tail e (pick (line.Size b)) (given_in below) d)
  distinct_keys (line.Kind k ∷ below) d = distinct_keys below (distinct_tail e (pick (line.Kind k)) (given_in below) d)
  distinct_keys (line.Name t ∷ below) d = distinct_keys below (distinct_tail e (pick (line.Name t)) (given_in below) d)
  distinct_keys (line.Autoresize ∷ below) d =
      distinct_keys below (distinct_tail e (pick line.Autoresize) (given_in below) d)
  distinct_keys (line.SkipCheck ∷ below) d =
      distinct_keys below (distinct_tail e (pick line.SkipCheck) (given_in below) d)
  distinct_keys (line.Alignment a ∷ below) d =
      distinct_keys below (distinct_tail e (pick (line.Alignment a)) (given_in below) d)

  given_one : (o : Option X) (n : X) (xs : List X) → option_map_or (λ x. e x n) o false ≡ false
      → AllByRecursion (λ x. e x n ≡ false) xs → AllByRecursion (λ x. e x n ≡ false) (cons_option o xs)
  given_one None n xs h k = k
  given_one (Some x) n xs h k = (h, k)

  any_given : (n : X) (above : List Line)
      → list_any (λ l. option_map_or (λ x. e x n) (pick l) false) above ≡ false
      → AllByRecursion (λ x. e x n ≡ false) (given_in above)
  any_given n [] h = tt
  any_given n (l ∷ above) h =
      let both = or_false (option_map_or (λ x. e x n) (pick l) false)
      (list_any (λ l. option_map_or (λ x. e x n) (pick l) false) above) h in
      given_one (pick l) n (given_in above) both.0 (any_given n above both.1)

  as_list : (o : Option X) → cons_option o [] ≡ option_to_list o
  as_list None = refl
  as_list (Some x) = refl

  given_more : (above : List Line) (l : Line) (o : Option X) → pick l ≡ o
      → given_in (above ++ l ∷ []) ≡ given_in above ++ option_to_list o
  given_more above l o is =
      filter_map-append pick above (l ∷ [])
      ∙ ap (λ xs. given_in above ++ xs) (as_list (pick l) ∙ ap option_to_list is)

  -- a line more that gives none of the keys above, or no key
  pub distinct_more : (above : List Line) (l : Line) (n : X) → pick l ≡ Some n → IsDistinct e (given_in above)
      → list_any (λ l. option_map_or (λ x. e x n) (pick l) false) above ≡ false
      → IsDistinct e (given_in (above ++ l ∷ []))
  distinct_more above l n is d h =
      subst (IsDistinct e) (sym (given_more above l (Some n) is))
      (distinct-push e (given_in above) n d (any_given n above h))

  pub distinct_same : (above : List Line) (l : Line) → pick l ≡ None → IsDistinct e (given_in above)
      → IsDistinct e (given_in (above ++ l ∷ []))
  distinct_same above l is d =
      subst (IsDistinct e) (sym (given_more above l None is ∙ append-nil (given_in above))) d
