-- The edits for which a text asks write no contents beyond those that there are.
use Rattle.ubi_calls.proofs.Prelude.{◌≡◌, ℕ, zero, suc, ◌<◌, ◌≤◌, ◌+◌, ◌-◌, ◌++◌, ◌∷◌, [], List, Bool, false, true, ap, sym, ◌∙◌, subst, refl, length, get_or, arith, nat_le, nat_lt, le-ltb, leb-true, ltb-true, passes_at_first, none-some, same_Some, then_some, position_or_len, Option, None, fold, if◌then◌else◌, option_and_then, option_map, get, Sizes, VolumeRecord, Meant, records_of, first_beyond, is_beyond, Edit, edit_for, edit_of, edits_for, name_of, named_by, with_edit_for, at_most, Ask, AreAsksOf, AskFor, AsksFor, edit_lines, taken_by, all_edits, by_words, Some}
use Rattle.ubi_writing.specs.declared.asks.Ask.TheVariants as ask

-- a number that may be at most the largest is
small : (b : Bool) (v n : ℕ) → then_some b v ≡ Some n → (b ≡ true) × (v ≡ n)
small true v n is = (refl, same_Some v n is)
small false v n is = absurd (none-some n is)

few : (largest n : ℕ) (o : Option ℕ) → at_most largest o ≡ Some n → n ≤ largest
few largest n None is = absurd (none-some n is)
few largest n (Some v) is =
    let p = small (nat_le v largest) v n is in
    subst (λ (k : ℕ). k ≤ largest) p.1 (leb-true v largest p.0)

-- an option that has a value, which was made of another's
of_map : {A B : Type 0} (f : A → B) (o : Option A) (y : B) → option_map f o ≡ Some y → (x : A) × (f x ≡ y)
of_map f None y is = absurd (none-some y is)
of_map f (Some x) y is = (x, same_Some (f x) y is)

of_and_then : {A B : Type 0} (f : A → Option B) (o : Option A) (y : B) → option_and_then f o ≡ Some y → (x : A) × (f x ≡ Some y)
of_and_then f None y is = absurd (none-some y is)
of_and_then f (Some x) y is = (x, is)

module _ (size : ℕ) where
  -- no edit writes contents beyond them
  abbrev Fit : List Edit → Type 0
  Fit [] = Unit {0}
  Fit (e ∷ es) = (is_beyond size e ≡ false) × Fit es

  fit_more : (es : List Edit) (e : Edit) → Fit es → is_beyond size e ≡ false → Fit (es ++ e ∷ [])
  fit_more [] e fit fits = (fits, tt)
  fit_more (x ∷ es) e fit fits = (fit.0, fit_more es e fit.1 fits)

  fit_at : (es : List Edit) (k : ℕ) (d : Edit) → Fit es → k < length es → is_beyond size (get_or es k d) ≡ false
  fit_at [] k d fit l = absurd (omega (arith, l))
  fit_at (e ∷ es) zero d fit l = fit.0
  fit_at (e ∷ es) (suc k) d fit l = fit_at es k d fit.1 (omega (arith, l))

  no_first : (b : Bool) (k i : ℕ) → (b ≡ true → ⊥) → (if b then Some k else None) ≡ Some i → ⊥
  no_first true k i not is = not refl
  no_first false k i not is = none-some i is

  none_first : (es : List Edit) (i : ℕ) → Fit es → first_beyond size es ≡ Some i → ⊥
  none_first [] i fit is = none-some i is
  none_first (e ∷ es) i fit is =
      let k = position_or_len (is_beyond size) (e ∷ es) in
      no_first (nat_lt k (length (e ∷ es))) k i
      (λ within.
      let l = ltb-true k (length (e ∷ es)) within in
      let beyond = passes_at_first (is_beyond size) (e ∷ es) e l in
      let none = fit_at (e ∷ es) k e fit l in
      let bad : true ≡ false = sym beyond ∙ none in cc) is

  -- contents end where they are taken up to, or before
  taken : (at : ℕ) → at ≤ size → (line : List ℕ) (a : Ask) → AsksFor size at line a → taken_by at a ≤ size
  taken at le line (ask.Rename word) is = le
  taken at le line (ask.Resize word) is = le
  taken at le line (ask.Remove word) is = le
  taken at le line (ask.Contents word start len) is = let l = few (size - at) len _ is.1.2 in omega (arith, l, le)

  of_edit : (at : ℕ) → at ≤ size → (line : List ℕ) (a : Ask) → AsksFor size at line a → (s : Sizes) (before : List Edit) (id : ℕ)
      (r : VolumeRecord) (e : Edit) → edit_of s before id r a ≡ Some e → is_beyond size e ≡ false
  of_edit at le line (ask.Rename word) asks s before id r e is =
      let m = of_map _ _ e is in ap (is_beyond size) (sym m.1)
  of_edit at le line (ask.Resize word) asks s before id r e is =
      let m = of_map _ _ e is in ap (is_beyond size) (sym m.1)
  of_edit at le line (ask.Remove word) asks s before id r e is = ap (is_beyond size) (sym (same_Some _ e is))
  of_edit at le line (ask.Contents word start len) asks s before id r e is =
      let l = few (size - at) len _ asks.1.2 in
      let inside : start + len ≤ size = (let begins = asks.1.1 in omega (arith, l, le, begins)) in
      ap (is_beyond size) (sym (same_Some _ e is)) ∙ le-ltb size (start + len) inside

  of_ask : (at : ℕ) → at ≤ size → (line : List ℕ) (a : Ask) → AsksFor size at line a → (m : Meant) (before : List Edit) (e : Edit)
      → edit_for (records_of m) before a ≡ Some e → is_beyond size e ≡ false
  of_ask at le line a asks m before e is =
      let id = of_and_then _ (named_by (records_of m) (name_of a)) e is in
      let r = of_and_then _ (get (records_of m).of id.0) e id.1 in
      of_edit at le line a asks (records_of m).sizes before id.0 r.0 e r.1

  -- once there is an edit for which there is none, there are no edits
  none_stays : (m : Meant) (asks : List Ask) → fold (with_edit_for (records_of m)) None asks ≡ None
  none_stays m [] = refl
  none_stays m (a ∷ asks) = none_stays m asks

  next_edit : (m : Meant) (asks : List Ask) (before es : List Edit) (o : Option Edit)
      → fold (with_edit_for (records_of m)) (option_map (λ e. before ++ e ∷ []) o) asks ≡ Some es
      → (e : Edit) × (o ≡ Some e) × (fold (with_edit_for (records_of m)) (Some (before ++ e ∷ [])) asks ≡ Some es)
  next_edit m asks before es None is = absurd (none-some es (sym (none_stays m asks) ∙ is))
  next_edit m asks before es (Some e) is = (e, refl, is)

  asks_fit : (m : Meant) (lines : List (List ℕ)) (asks : List Ask) (at end : ℕ) (before es : List Edit) → at ≤ size
      → AskFor size at lines asks end → Fit before → fold (with_edit_for (records_of m)) (Some before) asks ≡ Some es → Fit es
  asks_fit m [] [] at end before es le asked fit is = subst Fit (same_Some before es is) fit
  asks_fit m (l ∷ lines) (a ∷ asks) at end before es le asked fit is =
      let n = next_edit m asks before es (edit_for (records_of m) before a) is in
      asks_fit m lines asks (taken_by at a) end (before ++ n.0 ∷ []) es (taken at le l a asked.0) asked.1
      (fit_more before n.0 fit (of_ask at le l a asked.0 m before n.0 n.1)) n.2
  asks_fit m [] (a ∷ asks) at end before es le asked fit is = absurd asked
  asks_fit m (l ∷ lines) [] at end before es le asked fit is = absurd asked

-- edits that are asked by words alone are those of the words
of_words : (o : Option (List Edit)) (es : List Edit) → option_map (λ xs. xs) o ≡ Some es → o ≡ Some es
of_words None es is = absurd (none-some es is)
of_words (Some xs) es is = is

-- so none of them is beyond
pub none_beyond : (m : Meant) (text contents : List ℕ) (asks : List Ask) (es : List Edit) → AreAsksOf text (length contents) asks
    → all_edits (records_of m) (by_words asks) ≡ Some es → (i : ℕ) → first_beyond (length contents) es ≡ Some i → ⊥
none_beyond m text contents asks es asked are i is =
    none_first (length contents) es i
    (asks_fit (length contents) m (edit_lines text) asks 0 (length contents) [] es (omega arith) asked tt
    (of_words (edits_for (records_of m) asks) es are)) is
