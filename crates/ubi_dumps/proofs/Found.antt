-- How a dump without a geometry in the words is found.
use Rattle.ubi_dumps.proofs.Prelude.{◌≡◌, ◌≢◌, ◌∙◌, ◌⊎◌, ◌∷◌, [], List, inl, inr, refl, subst, sym, ℕ, ForSome, IsSomeAnd, Err, IfErr, Ok, OnErr, Option, Result, codes, slice_index_or, first_broken, AreDetectedOf, AreImages, AreImagesBeside, Agreed, FilePart, Images, IsFalse, Narrows, WhereHeld, holds, is_split, memory, Detected, Gives, says, Files, file_line, sizes_of, IsToldFirst, IsUnseen, Tells, TellsNothing, cannot_read, unreadable, Works, answered, no_source, Unread, Outcome, Dump, Tells-weaker, None, Some}

-- what is told where something fails is told of what is less
pub tells_less : {X : Type 0} (r : Result X Unread) (P Q : Outcome → Type 0) → ((o : Outcome) → P o → Q o)
    → IfErr r (Tells P) → IfErr r (Tells Q)
tells_less (Ok x) P Q f h = tt
tells_less (Err e) P Q f h = Tells-weaker P Q f e h

-- what is told where something fails for a reason is told for it
pub tells_why : {X : Type 0} (r : Result X Unread) (P : Type 0) (Q : Outcome → Type 0) → OnErr r P → IfErr r (Tells Q)
    → IfErr r (Tells (λ o. P × Q o))
tells_why (Ok x) P Q why h = tt
tells_why (Err e) P Q why h = Tells-weaker Q (λ o. P × Q o) (λ o q. (why, q)) e h

-- what follows from what holds of the value that is there
pub is_there : {X : Type 0} (o : Option X) (P Q : X → Type 0) → IsSomeAnd o P → ((x : X) → P x → Q x) → ForSome o Q
is_there None P Q h f = absurd h
is_there (Some x) P Q h f = λ y is. subst Q (let e : x ≡ y = cc in e) (f x h)

-- the line of a file that can't be read
pub no_read : (d : Files) (dump : Dump) (path : List ℕ) (o : Outcome) → first_broken (sizes_of dump.numbers) ≡ None
    → Gives o (says (file_line (codes "cannot read ") path) 1) → IsUnseen d dump path o
no_read d dump path o limits line = unreadable (cannot_read limits line)

-- what is told first of a source
pub told_first : (part : FilePart) (agrees : Agreed) (found : List Detected) (images : Images) (t : Detected) → AreDetectedOf agrees found
    → found ≢ [] → WhereHeld agrees (λ bytes. AreImagesBeside bytes found images) → t ≡ slice_index_or found 0 t
    → IsFalse (is_split part images) → IsToldFirst part agrees t
told_first part agrees [] images t are some beside is whole = absurd (some refl)
told_first part agrees (x ∷ xs) images t are some beside is whole = (
  xs,
  images,
  subst (λ (y : Detected). AreDetectedOf agrees (y ∷ xs)) (sym is) are,
  (λ bytes held.
      let of = beside bytes held in
      let first : of.0 ≡ t = (let e = of.2 in cc) in
      subst (λ (y : Detected). AreImages bytes y images) first of.3),
  whole,
)

-- of bytes in memory
module _ (bytes start later : List ℕ) (is : start ≡ bytes) (narrows : Narrows (holds start) (holds later)) where
  same : later ≡ bytes
  same = narrows later refl ∙ is

  pub first_in_memory : (part : FilePart) (t : Detected) → IsToldFirst part (holds later) t → IsToldFirst part (holds bytes) t
  first_in_memory part t (others, images, are, of, whole) =
      (others, images, (λ b held. are b (held ∙ sym same)), (λ b held. of b (held ∙ sym same)), whole)

  pub nothing_in_memory : (part : FilePart) (path side : List ℕ) (o : Outcome)
      → Works (memory start) (memory later) path (TellsNothing part side (memory start) (holds later)) o
      → TellsNothing part side (memory bytes) (holds bytes) o ⊎ Gives o (says (file_line (codes "cannot read ") path) 1)
  nothing_in_memory part path side o (answered known h) =
      inl (subst (λ (b : List ℕ). TellsNothing part side (memory b) (holds bytes) o) is
      (subst (λ (b : List ℕ). TellsNothing part side (memory start) (holds b) o) same h))
  nothing_in_memory part path side o (no_source known line) = inr line
