-- The eraseblocks after some steps: after two lists of steps, and after steps on one eraseblock.
use Rattle.ubi_change.proofs.Prelude.{◌≡◌, ℕ, zero, suc, ◌+◌, ◌-◌, ◌<◌, ◌≤◌, inl, inr, List, [], ◌∷◌, ◌++◌, length, take, set, refl, ap, sym, ◌∙◌, subst, arith, length-append, get_or-set_same, fold, take_all, set-set, set-get_or, fold-append, take-append-add, take-append-le, Sizes, within_or_past, block, blocks_after, block_after, step_done, target, Step, Bool, true, false, cond}

-- what holds of no steps, and of some, holds of those that a test decides to do
pub if_renewed : (P : List Step → Type 0) (b : Bool) {xs : List Step} → P [] → P xs → P (cond b [] xs)
if_renewed P true none some = none
if_renewed P false none some = some

module _ (s : Sizes) where
  -- after all of the steps
  abbrev pub done : List (List ℕ) → List Step → List (List ℕ)
  done bs steps = fold (step_done s) bs steps

  pub after-all : (bs : List (List ℕ)) (steps : List Step) → blocks_after s bs steps (length steps) ≡ done bs steps
  after-all bs steps = ap (fold (step_done s) bs) (take_all (length steps) steps (omega arith))

  pub after-front : (bs : List (List ℕ)) (xs ys : List Step) (k : ℕ) → k ≤ length xs
      → blocks_after s bs (xs ++ ys) k ≡ blocks_after s bs xs k
  after-front bs xs ys k l = ap (fold (step_done s) bs) (take-append-le k xs ys l)

  pub after-back : (bs : List (List ℕ)) (xs ys : List Step) (k : ℕ)
      → blocks_after s bs (xs ++ ys) (length xs + k) ≡ blocks_after s (done bs xs) ys k
  after-back bs xs ys k = ap (fold (step_done s) bs) (take-append-add xs ys k)
      ∙ fold-append (step_done s) bs xs (take k ys)

  -- what holds at each cut of one list, and at each of another behind it, holds at each cut of both
  abbrev pub AtEachCut : (List (List ℕ) → Type 0) → List (List ℕ) → List Step → Type 0
  AtEachCut P bs steps = (k : ℕ) → k ≤ length steps → P (blocks_after s bs steps k)

  pub cuts-append : (P : List (List ℕ) → Type 0) (bs : List (List ℕ)) (xs ys : List Step) → AtEachCut P bs xs
      → AtEachCut P (done bs xs) ys → AtEachCut P bs (xs ++ ys)
  cuts-append P bs xs ys a b k l = elim (within_or_past k (length xs)) [
    | inl h ↦ subst P (sym (after-front bs xs ys k h)) (a k h)
    | inr h ↦
        let n = length-append xs ys in
        let e : k ≡ length xs + (k - length xs) = omega arith in
        subst P (sym (ap (blocks_after s bs (xs ++ ys)) e ∙ after-back bs xs ys (k - length xs)))
        (b (k - length xs) (omega arith))
  ]

  -- before a turn the one holds, and from it on the other
  pub record TurnsAt (P Q : List (List ℕ) → Type 0) (bs : List (List ℕ)) (steps : List Step) (turn : ℕ) : Type 0 where
    pub comes : turn ≤ length steps
    pub before : (k : ℕ) → k < turn → P (blocks_after s bs steps k)
    pub from : (k : ℕ) → turn ≤ k → k ≤ length steps → Q (blocks_after s bs steps k)

  pub turns-behind : (P Q : List (List ℕ) → Type 0) (bs : List (List ℕ)) (xs ys : List Step) (turn : ℕ)
      → AtEachCut P bs xs → TurnsAt P Q (done bs xs) ys turn → TurnsAt P Q bs (xs ++ ys) (length xs + turn)
  turns-behind P Q bs xs ys turn a t = record {
    comes = (let n = length-append xs ys in let c = t.comes in omega arith);
    before = λ k l. elim (within_or_past k (length xs)) [
      | inl h ↦ subst P (sym (after-front bs xs ys k h)) (a k h)
      | inr h ↦
          let e : k ≡ length xs + (k - length xs) = omega arith in
          subst P (sym (ap (blocks_after s bs (xs ++ ys)) e ∙ after-back bs xs ys (k - length xs)))
          (t.before (k - length xs) (omega arith))
    ];
    from = λ k l m.
        (let n = length-append xs ys in
        let e : k ≡ length xs + (k - length xs) = omega arith in
        subst Q (sym (ap (blocks_after s bs (xs ++ ys)) e ∙ after-back bs xs ys (k - length xs)))
        (t.from (k - length xs) (omega arith) (omega arith)));
  }

  pub turns-before : (P Q : List (List ℕ) → Type 0) (bs : List (List ℕ)) (xs ys : List Step) (turn : ℕ)
      → TurnsAt P Q bs xs turn → AtEachCut Q (done bs xs) ys → TurnsAt P Q bs (xs ++ ys) turn
  turns-before P Q bs xs ys turn t b = record {
    comes = (let n = length-append xs ys in let c = t.comes in omega arith);
    before = λ k l. (let c = t.comes in subst P (sym (after-front bs xs ys k (omega arith))) (t.before k l));
    from = λ k l m. elim (within_or_past k (length xs)) [
      | inl h ↦ subst Q (sym (after-front bs xs ys k h)) (t.from k l h)
      | inr h ↦
          let n = length-append xs ys in
          let e : k ≡ length xs + (k - length xs) = omega arith in
          subst Q (sym (ap (blocks_after s bs (xs ++ ys)) e ∙ after-back bs xs ys (k - length xs)))
          (b (k - length xs) (omega arith))
    ];
  }

  -- steps on one eraseblock
  abbrev pub run : List ℕ → List Step → List ℕ
  run b steps = fold (block_after s) b steps

  -- each step is on p
  abbrev pub AllOn : ℕ → List Step → Type 0
  AllOn p [] = Unit {0}
  AllOn p (x ∷ xs) = (target x ≡ p) × AllOn p xs

  pub on-append : (p : ℕ) (xs ys : List Step) → AllOn p xs → AllOn p ys → AllOn p (xs ++ ys)
  on-append p [] ys a b = b
  on-append p (x ∷ xs) ys a b = (a.0, on-append p xs ys a.1 b)

  pub on-take : (p k : ℕ) (xs : List Step) → AllOn p xs → AllOn p (take k xs)
  on-take p zero xs a = tt
  on-take p (suc k) [] a = tt
  on-take p (suc k) (x ∷ xs) a = (a.0, on-take p k xs a.1)

  step_on : (bs : List (List ℕ)) (p : ℕ) (x : Step) → target x ≡ p
      → step_done s bs x ≡ set bs p (block_after s (block bs p) x)
  step_on bs p x e = ap (λ (q : ℕ). set bs q (block_after s (block bs q) x)) e

  done_from : (bs : List (List ℕ)) (p : ℕ) (y : List ℕ) (steps : List Step) → p < length bs → AllOn p steps
      → done (set bs p y) steps ≡ set bs p (run y steps)
  done_from bs p y [] l on = refl
  done_from bs p y (x ∷ xs) l on =
      ap (λ (z : List (List ℕ)). done z xs)
      (step_on (set bs p y) p x on.0 ∙ ap (λ b. set (set bs p y) p (block_after s b x)) (get_or-set_same bs p y [] l)
      ∙ set-set bs p y (block_after s y x))
      ∙ done_from bs p (block_after s y x) xs l on.1

  pub done-on : (bs : List (List ℕ)) (p : ℕ) (steps : List Step) → p < length bs → AllOn p steps
      → done bs steps ≡ set bs p (run (block bs p) steps)
  done-on bs p steps l on = ap (λ (z : List (List ℕ)). done z steps) (sym (set-get_or bs p []))
      ∙ done_from bs p (block bs p) steps l on

  pub after-on : (bs : List (List ℕ)) (p : ℕ) (steps : List Step) (k : ℕ) → p < length bs → AllOn p steps
      → blocks_after s bs steps k ≡ set bs p (run (block bs p) (take k steps))
  after-on bs p steps k l on = done-on bs p (take k steps) l (on-take p k steps on)
