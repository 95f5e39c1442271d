-- The lines of a text of edits that are read, and the edits that they ask for so far.
use Rattle.ubi_calls.proofs.Prelude.{◌≡◌, ◌≢◌, ◌==◌, ℕ, suc, ◌<◌, ◌≤◌, ◌+◌, ◌++◌, ◌∷◌, [], List, Bool, false, true, ap, sym, ◌∙◌, subst, refl, length, append-nil, append_assoc, arith, cond, Option, None, unwrap_or, eqb-true, nil_from_length, Bor, onto_first, slice_split, option_map_or, AreAsksOf, AskFor, AsksFor, IsWrongLine, edit_lines, taken_by, without_end, Ask, Some}
use Rattle.ubi_calls.specs.EditLines as lines

-- one more line, and its edit
more : (size at : ℕ) (ls : List (List ℕ)) (asks : List Ask) (mid : ℕ) (l : List ℕ) (a : Ask) → AskFor size at ls asks mid
    → AsksFor size mid l a → AskFor size at (ls ++ l ∷ []) (asks ++ a ∷ []) (taken_by mid a)
more size at [] [] mid l a is h = (subst (λ (k : ℕ). AsksFor size k l a) is h, ap (λ k. taken_by k a) is)
more size at (x ∷ ls) (b ∷ asks) mid l a is h = (is.0, more size (taken_by at b) ls asks mid l a is.1 h)
more size at [] (b ∷ asks) mid l a is h = absurd is
more size at (x ∷ ls) [] mid l a is h = absurd is

-- there are as many edits as lines
as_many : (size at : ℕ) (ls : List (List ℕ)) (asks : List Ask) (end : ℕ) → AskFor size at ls asks end → length ls ≡ length asks
as_many size at [] [] end is = refl
as_many size at (x ∷ ls) (b ∷ asks) end is = ap suc (as_many size (taken_by at b) ls asks end is.1)
as_many size at [] (b ∷ asks) end is = absurd is
as_many size at (x ∷ ls) [] end is = absurd is

abbrev parts : List ℕ → List (List ℕ)
parts text = slice_split (λ b. b == 10) text

-- a text has a first part
first_of : (b : Bool) (x : ℕ) (ps : List (List ℕ)) → (q : List ℕ) × (qs : List (List ℕ)) × (cond b ([] ∷ ps) (onto_first x ps) ≡ q ∷ qs)
first_of true x ps = ([], ps, refl)
first_of false x [] = (x ∷ [], [], refl)
first_of false x (p ∷ ps) = (x ∷ p, ps, refl)

has_first : (text : List ℕ) → (q : List ℕ) × (qs : List (List ℕ)) × (parts text ≡ q ∷ qs)
has_first [] = ([], [], refl)
has_first (x ∷ xs) = first_of (x == 10) x (parts xs)

-- that isn't all of it and empty, unless the text is empty
not_alone : (b : Bool) (x : ℕ) (q : List ℕ) (qs : List (List ℕ)) → cond b ([] ∷ q ∷ qs) (onto_first x (q ∷ qs)) ≡ [] ∷ [] → ⊥
not_alone true x q qs is = cc
not_alone false x q qs is = cc

not_blank : (text : List ℕ) → text ≢ [] → parts text ≡ [] ∷ [] → ⊥
not_blank [] some is = some refl
not_blank (x ∷ xs) some is =
    let f = has_first xs in
    not_alone (x == 10) x f.0 f.1 (subst (λ (ps : List (List ℕ)). cond (x == 10) ([] ∷ ps) (onto_first x ps) ≡ [] ∷ []) f.2 is)

-- the last part is a line, if it isn't empty
last_line : (line : List ℕ) → line ≢ [] → without_end (line ∷ []) ≡ line ∷ []
last_line [] some = absurd (some refl)
last_line (x ∷ xs) some = refl

-- and each other part is one
other_line : (line : List ℕ) (ps : List (List ℕ)) → (q : List ℕ) × (qs : List (List ℕ)) × (ps ≡ q ∷ qs)
    → without_end (line ∷ ps) ≡ line ∷ without_end ps
other_line [] [] (q, qs, is) = absurd (cc)
other_line [] (p ∷ ps) h = refl
other_line (x ∷ xs) ps h = refl

-- the lines of a text that isn't empty begin with its first
next_line : (rest line : List ℕ) (after : Option (Bor (List ℕ))) → rest ≢ []
    → parts rest ≡ line ∷ option_map_or (λ r. parts r.now) after []
    → edit_lines rest ≡ line ∷ edit_lines (option_map_or (λ r. r.now) after [])
next_line rest line None some cut =
    ap without_end cut ∙ last_line line (λ blank. not_blank rest some (cut ∙ ap (λ l. l ∷ []) blank))
next_line rest line (Some r) some cut = ap without_end cut ∙ other_line line (parts r.now) (has_first r.now)

-- what was read of a text: its first lines, and the edits that they ask for
pub record IsReadSoFar (text rest : List ℕ) (size at : ℕ) (asks : List Ask) : Type 0 where
  pub read : List (List ℕ)
  pub split : edit_lines text ≡ read ++ edit_lines rest
  pub asked : AskFor size 0 read asks at
  pub within : at ≤ size

-- what is left behind a part
rest_is : (o : Option (Bor (List ℕ))) (nothing : Bor (List ℕ)) → nothing.now ≡ [] → option_map_or (λ r. r.now) o [] ≡ (unwrap_or o nothing).now
rest_is None nothing none = sym none
rest_is (Some r) nothing none = refl

-- whether anything is left
pub nothing_left : (rest : List ℕ) → true ≡ (length rest == 0) → rest ≡ []
nothing_left rest is = nil_from_length rest (eqb-true _ _ (sym is))

pub something_left : (rest : List ℕ) → false ≡ (length rest == 0) → rest ≢ []
something_left rest is none = let e : false ≡ true = is ∙ ap (λ (r : List ℕ). length r == 0) none in cc

module _ (text rest : List ℕ) (size at : ℕ) (asks : List Ask) (so : IsReadSoFar text rest size at asks) where
  module _ (some : rest ≢ []) (line : List ℕ) (after : Option (Bor (List ℕ)))
      (cut : parts rest ≡ line ∷ option_map_or (λ r. parts r.now) after []) where
    -- the next line asks for no edit
    pub wrong_here : ((a : Ask) → AsksFor size at line a → ⊥) → IsWrongLine text size (length asks + 1)
    wrong_here none =
        subst (λ (n : ℕ). IsWrongLine text size (n + 1)) (as_many size 0 so.read asks at so.asked)
        (lines.no_edit so.read line (edit_lines (option_map_or (λ r. r.now) after [])) asks at
        (so.split ∙ ap (λ ls. so.read ++ ls) (next_line rest line after some cut)) so.asked none)

    -- or for one
    pub read_more : (a : Ask) → AsksFor size at line a → taken_by at a ≤ size → (nothing : Bor (List ℕ)) → nothing.now ≡ []
        → IsReadSoFar text (unwrap_or after nothing).now size (taken_by at a) (asks ++ a ∷ [])
    read_more a is fits nothing none = record {
      read = so.read ++ line ∷ [];
      split = so.split ∙ ap (λ ls. so.read ++ ls) (next_line rest line after some cut)
          ∙ sym (append_assoc so.read (line ∷ []) (edit_lines (option_map_or (λ r. r.now) after [])))
          ∙ ap (λ left. (so.read ++ line ∷ []) ++ edit_lines left) (rest_is after nothing none);
      asked = more size 0 so.read asks at line a so.asked is;
      within = fits;
    }

  -- nothing is left of the text
  module _ (none : rest ≡ []) where
    all_asked : AskFor size 0 (edit_lines text) asks at
    all_asked =
        subst (λ (ls : List (List ℕ)). AskFor size 0 ls asks at)
        (sym (so.split ∙ ap (λ left. so.read ++ edit_lines left) none ∙ append-nil so.read)) so.asked

    pub wrong_after : at < size → IsWrongLine text size (length asks + 1)
    wrong_after left =
        subst (λ (n : ℕ). IsWrongLine text size (n + 1)) (as_many size 0 (edit_lines text) asks at all_asked)
        (lines.left_over asks at all_asked left)

    pub whole : size ≤ at → AreAsksOf text size asks
    whole enough = subst (AskFor size 0 (edit_lines text) asks) (omega (arith, enough, so.within)) all_asked
