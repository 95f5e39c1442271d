-- What is answered in a format for work over a file, or over two.
use Rattle.ubi_reading.proofs.Prelude.{◌≡◌, ◌∙◌, ap, List, Result, Ok, IfOk, IfErr, IfSome, AllocError, IfOk-at_ok, inl, inr, subst, sym, ℕ, ◌⊎◌, first_broken, Narrows, holds, known_by, memory, after_run, IsJudgedOf, Fits, FitsWhole, seen, sizes_of, IsRead, ToolError, Sizes, Agreed, Source, Files, IsUnseen, file, no_file, places, whole, Tells, Dump, Unread, Outcome, IsUnreadOfAsked, IsUnreadOfBoth, OfAskedIn, OfBoth, OfBothIn, OfReadBoth, WhereRead, alike, no_left, no_right, unlike, OfFileIn, OfRead, OfReadAsked, failed, OfAsked, of_dump, untold, Asked, Format, IsLineIn, IsToldIn, its_own, printed, None, OfFile-weaker, read_at_places, read_by_bytes}
use Rattle.std.specs.Prelude.{Err}
use Rattle.ubi_reading.specs.InFormat.{answered}
use Rattle.ubi_reading.specs.declared.format.Format.TheVariants as way

-- what fails in plain lines, or what is answered, is what is told in a format
told_of : (format : Format) (work : Result Outcome Unread) (fails answers : Outcome → Type 0) (o : Outcome) → IfOk work answers
    → IfErr work (Tells fails) → IsToldIn format work o → ((plain : Outcome) × fails plain × IsLineIn format plain o) ⊎ answers o
told_of format work fails answers o ok err (its_own is) = inr (IfOk-at_ok answers is ok)
told_of format work fails answers o ok err (printed plain is line) =
    inl (plain, subst (λ (w : Result Outcome Unread). IfErr w (Tells fails)) is err, line)

module _ (d : Files) (path : List ℕ) (answers : Sizes → Source → Agreed → Outcome → Type 0) where
  -- over a dump whose geometry is known
  in_file : (format : Format) (dump : Dump) (o : Outcome)
      → ((plain : Outcome) × IsUnseen d dump path plain × IsLineIn format plain o) ⊎ OfRead d dump path answers o
      → OfFileIn format d dump path answers o
  in_file way.Text dump o (inl h) = no_file (subst (IsUnseen d dump path) (sym h.2) h.1)
  in_file way.Text dump o (inr h) = file h
  in_file way.Json dump o (inl h) = failed h.0 h.1 h.2
  in_file way.Json dump o (inr h) = answered h

  pub file_told : (format : Format) (dump : Dump) (work : Result Outcome Unread) (r : Result Outcome AllocError)
      → IfOk work (OfRead d dump path answers) → IfErr work (Tells (IsUnseen d dump path)) → IfOk r (IsToldIn format work)
      → IfOk r (OfFileIn format d dump path answers)
  file_told format dump work (Ok o) ok err told = in_file format dump o (told_of format work _ _ o ok err told)
  file_told format dump work (Err e) ok err told = tt

  -- what fails of a dump that is asked for is what may be answered of it
  as_text : (asked : Asked) (o : Outcome) → IsUnreadOfAsked d d asked path o → OfAsked d d asked path answers o
  as_text asked o (untold h stay) = untold h stay
  as_text asked o (of_dump dump is (no_file h)) = of_dump dump is (no_file h)
  as_text asked o (of_dump dump is (file (whole bytes read named fits h))) = absurd h
  as_text asked o (of_dump dump is (file (places k reads limits zero named fits h))) = absurd h

  in_asked : (format : Format) (asked : Asked) (o : Outcome)
      → ((plain : Outcome) × IsUnreadOfAsked d d asked path plain × IsLineIn format plain o) ⊎ OfReadAsked d asked path answers o
      → OfAskedIn format d d asked path answers o
  in_asked way.Text asked o (inl h) = as_text asked o (subst (IsUnreadOfAsked d d asked path) (sym h.2) h.1)
  in_asked way.Text asked o (inr h) = of_dump h.0 h.1 (file h.2)
  in_asked way.Json asked o (inl h) = failed h.0 h.1 h.2
  in_asked way.Json asked o (inr h) = answered h

  pub asked_told : (format : Format) (asked : Asked) (work : Result Outcome Unread) (r : Result Outcome AllocError)
      → IfOk work (OfReadAsked d asked path answers) → IfErr work (Tells (IsUnreadOfAsked d d asked path))
      → IfOk r (IsToldIn format work) → IfOk r (OfAskedIn format d d asked path answers)
  asked_told format asked work (Ok o) ok err told = in_asked format asked o (told_of format work _ _ o ok err told)
  asked_told format asked work (Err e) ok err told = tt

-- what is known of a dump that can be read is no less than more
WhereRead-weaker : (d : Files) (dump : Dump) (path : List ℕ) (P Q : Source → Agreed → Type 0)
    → ((k : Source) (agrees : Agreed) → P k agrees → Q k agrees) → WhereRead d dump path P → WhereRead d dump path Q
WhereRead-weaker d dump path P Q f (whole bytes read named fits h) = whole bytes read named fits (f _ _ h)
WhereRead-weaker d dump path P Q f (places k reads limits zero named fits h) = places k reads limits zero named fits (f _ _ h)

module _ (d : Files) (asked : Asked) (left right : List ℕ) (answers : Sizes → Source → Agreed → Source → Agreed → Outcome → Type 0) where
  -- what fails of two dumps is what may be answered of them
  as_text_of_both : (o : Outcome) → IsUnreadOfBoth d asked left right o → OfBoth d asked left right answers o
  as_text_of_both o (no_left h) = no_left h
  as_text_of_both o (no_right here is h) = no_right here is h
  as_text_of_both o (unlike here there is at differ gives) = unlike here there is at differ gives
  as_text_of_both o (alike here there is at same h) = alike here there is at same
      (OfFile-weaker d here left _ _ (λ s k agrees p e. OfFile-weaker d there right _ _ (λ _ l fits q never. absurd never) p e) o h)

  in_both : (format : Format) (o : Outcome)
      → ((plain : Outcome) × IsUnreadOfBoth d asked left right plain × IsLineIn format plain o) ⊎ OfReadBoth d asked left right answers o
      → OfBothIn format d asked left right answers o
  in_both way.Text o (inl h) = as_text_of_both o (subst (IsUnreadOfBoth d asked left right) (sym h.2) h.1)
  in_both way.Text o (inr h) = alike h.0 h.1 h.2 h.3 h.4 (file (WhereRead-weaker d h.0 left _ _ (λ k agrees r. file r) h.5))
  in_both way.Json o (inl h) = failed h.0 h.1 h.2
  in_both way.Json o (inr h) = answered h

  pub both_told : (format : Format) (work : Result Outcome Unread) (r : Result Outcome AllocError)
      → IfOk work (OfReadBoth d asked left right answers) → IfErr work (Tells (IsUnreadOfBoth d asked left right))
      → IfOk r (IsToldIn format work) → IfOk r (OfBothIn format d asked left right answers)
  both_told format work (Ok o) ok err told = in_both format o (told_of format work _ _ o ok err told)
  both_told format work (Err e) ok err told = tt

-- what is answered of a dump that is read is answered of one that can be
module _ (d : Files) (dump : Dump) (path : List ℕ) (answers : Sizes → Source → Agreed → Outcome → Type 0) (s : Sizes)
    (same : s ≡ sizes_of dump.numbers) (work : Result Outcome ToolError) where
  pub places_read : (k after : Source) (reads : List (ℕ × List ℕ)) (r : Result Outcome Unread)
      → first_broken (sizes_of dump.numbers) ≡ None → (k.failures ≡ 0) × (k.held ≡ (seen dump d).holds path) → Fits d dump path
      → IfSome after.held (known_by after.size reads) → after ≡ after_run k work → IfOk work (answers s k (known_by after.size reads))
      → IfOk r (λ o. work ≡ Ok o) → IfOk r (OfRead d dump path answers)
  places_read k after reads (Ok o) limits opened fits told known ok is =
      read_at_places d dump path (λ x agrees. answers (sizes_of dump.numbers) x agrees o) k after reads limits opened fits told
      (known ∙ ap (after_run k) is)
      (subst (λ (t : Sizes). answers t k (known_by after.size reads) o) same (IfOk-at_ok (answers s k (known_by after.size reads)) is ok))
  places_read k after reads (Err e) limits opened fits told known ok is = tt

  pub bytes_read : (bytes start later : List ℕ) (r : Result Outcome Unread) → IsRead (sizes_of dump.numbers) bytes
      → IsJudgedOf (seen dump d) path (sizes_of dump.numbers) bytes → FitsWhole d dump path → start ≡ bytes
      → Narrows (holds start) (holds later) → IfOk work (answers s (memory start) (holds later))
      → IfOk r (λ o. work ≡ Ok o) → IfOk r (OfRead d dump path answers)
  bytes_read bytes start later (Ok o) read named fits is narrows ok came =
      read_by_bytes d dump path (λ x agrees. answers (sizes_of dump.numbers) x agrees o) bytes start later read named fits is narrows
      (subst (λ (t : Sizes). answers t (memory start) (holds later) o) same (IfOk-at_ok (answers s (memory start) (holds later)) came ok))
  bytes_read bytes start later (Err e) read named fits is narrows ok came = tt
