-- The groups of a plan of edits, one after the other: their lines, how many steps they have, and the pages that the first steps program.
use Rattle.ubi_writing.proofs.Prelude.{ap₂, refl, append_assoc, codes, plan_lines, Err, Ok, Result, Source, StaysOpen, ContentsError, after_contents, ◌≡◌, ℕ, ◌+◌, ◌<◌, List, [], ◌∷◌, ◌++◌, length, map, take, ap, sym, ◌∙◌, subst, arith, Some, slice_get, get_or_from_slice_get, length-append, map-append, take_more, flat_map, flat_map-append, Appends, Appends-trans, Option, Step, programmed, in_order, step_line, ◌-◌, decimal, in_order_more, line_of, first_of_both}
use Rattle.ubi_change.specs.declared.errors.ContentsError.TheVariants as contents
use Rattle.ubi_change.specs.declared.step.Step.TheVariants as step

-- a source of contents stays open while it is read
pub stays_after : {A : Type 0} (old k now : Source) (r : Result A ContentsError) → StaysOpen old k → now ≡ after_contents k r → StaysOpen old now
stays_after old k now (Ok x) kept is = subst (StaysOpen old) (sym is) kept
stays_after old k now (Err contents.Memory) kept is = subst (StaysOpen old) (sym is) kept
stays_after old k now (Err (contents.Read id)) kept is = subst (StaysOpen old) (sym is) (record { size = kept.size; held = kept.held })

-- one count more
pub one_more : (counts : List ℕ) (k n : ℕ) → length counts ≡ k → length (counts ++ n ∷ []) ≡ k + 1
one_more counts k n so_far = length-append counts (n ∷ []) ∙ ap (λ m. m + 1) so_far

-- the pages of two lists of steps
pub programmed_both : (xs ys : List Step) → programmed (xs ++ ys) ≡ programmed xs ++ programmed ys
programmed_both xs ys = flat_map-append _ xs ys

-- the line of a step says nothing of its bytes
pub outlined : (steps : List Step) → flat_map step_line (map line_of steps) ≡ flat_map step_line steps
outlined [] = refl
outlined (x ∷ xs) = ap₂ (λ (a b : List ℕ). a ++ b) (one x) (outlined xs)
  where
    one : (x : Step) → step_line (line_of x) ≡ step_line x
    one (step.Erase p) = refl
    one (step.Program p page bytes) = refl

module _ (gs : List (List Step)) (k : ℕ) (group : List Step) (inside : k < length gs) (is : slice_get gs k ≡ Some group) where
  abbrev pub before : List Step
  before = in_order (take k gs)

  more : before ++ group ≡ in_order (take (k + 1) gs)
  more = in_order_more gs k group inside is

  both : length (in_order (take (k + 1) gs)) ≡ length before + length group
  both = ap length (sym more) ∙ length-append before group

  pub fewer_left : (n left count : ℕ) → left ≡ n - length before → count ≡ length group → left - count ≡ n - length (in_order (take (k + 1) gs))
  fewer_left n left count so_far same = omega (arith, both, same, so_far)

  -- the pages of the first n steps
  pub pages_more : (n left : ℕ) → left ≡ n - length before → (a b c : Option (List ℕ)) → Appends a b (programmed (take n before))
      → Appends b c (programmed (take left group)) → Appends a c (programmed (take n (in_order (take (k + 1) gs))))
  pages_more n left so_far a b c first next =
      let firsts : take n (in_order (take (k + 1) gs)) ≡ take n before ++ take left group =
      ap (take n) (sym more) ∙ first_of_both n before group ∙ ap (λ m. take n before ++ take m group) (sym so_far) in
      subst (Appends a c) (sym (programmed_both (take n before) (take left group)) ∙ ap programmed (sym firsts)) (Appends-trans a b c _ _ first next)

  pub lines_more : (front lines later : List ℕ) (outline : List Step) → lines ≡ front ++ flat_map step_line before
      → later ≡ lines ++ flat_map step_line outline → outline ≡ map line_of group → later ≡ front ++ flat_map step_line (in_order (take (k + 1) gs))
  lines_more front lines later outline so_far next are =
      next ∙ ap₂ (λ (xs ys : List ℕ). xs ++ ys) so_far (ap (flat_map step_line) are ∙ outlined group)
      ∙ append_assoc front (flat_map step_line before) (flat_map step_line group)
      ∙ ap (λ (xs : List ℕ). front ++ xs) (sym (flat_map-append step_line before group) ∙ ap (flat_map step_line) more)

  pub counts_more : (counts later : List ℕ) (n : ℕ) → counts ≡ map length (take k gs) → later ≡ counts ++ n ∷ [] → n ≡ length group
      → later ≡ map length (take (k + 1) gs)
  counts_more counts later n so_far next are =
      next ∙ ap₂ (λ (xs : List ℕ) (m : ℕ). xs ++ m ∷ []) so_far are
      ∙ sym (map-append length (take k gs) (group ∷ []))
      ∙ ap (λ (xs : List (List Step)). map length xs) (ap (λ (x : List Step). take k gs ++ x ∷ []) (sym (get_or_from_slice_get gs k group group is)) ∙ sym (take_more gs k group inside))

  pub total_more : (total later n : ℕ) → total ≡ length before → later ≡ total + n → n ≡ length group
      → later ≡ length (in_order (take (k + 1) gs))
  total_more total later n so_far next are = omega (arith, both, so_far, next, are)

-- the lines of a plan behind others
pub said_lines : (lines one two all : List ℕ) (total : ℕ) (steps : List Step) → one ≡ lines ++ (codes "steps " ++ decimal total)
    → two ≡ one ++ codes "\n" → all ≡ two ++ flat_map step_line steps → total ≡ length steps → all ≡ lines ++ plan_lines steps
said_lines lines one two all total steps first next last count =
    let head = codes "steps " ++ decimal total in
    let rest = flat_map step_line steps in
    last ∙ ap (λ (xs : List ℕ). xs ++ rest) (next ∙ ap (λ (xs : List ℕ). xs ++ codes "\n") first ∙ append_assoc lines head (codes "\n"))
    ∙ append_assoc lines (head ++ codes "\n") rest
    ∙ ap (λ (n : ℕ). lines ++ (codes "steps " ++ decimal n ++ codes "\n" ++ rest)) count
