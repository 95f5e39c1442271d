-- How a plan over a file, which may write its pages to a second one, ends.
use Rattle.ubi_writing.proofs.Prelude.{◌≡◌, ◌≢◌, ◌∙◌, ◌⊎◌, inl, inr, ℕ, Bool, List, Some, ap, false, not, refl, subst, sym, true, true≢false, Bor, Appends, IfSome, codes, Sizes, Agreed, Source, Gives, says, Files, Holds, OthersStay, Receives, Stays, fresh, file_line, OfFile, WritesInto, WritesPlan, bad_limit, cannot_read, file, no_file, no_pages, places, planned, unfit, unfit_whole, unreadable, whole, written, Outcome, Dump, unwritten, no_list, no_sizes, off_grid, on_grid, with_list, OnGrid, WithList, NamesNoBlocks}
use Rattle.std.proofs.Common.{None}
use Rattle.std.proofs.Common.{Option}

-- what is answered of a file once work that was done goes on
pub OfFile-after : (d : Files) (dump : Dump) (path : List ℕ) (P Q : Sizes → Source → Agreed → Outcome → Type 0) (o r : Outcome)
    → o.status ≡ 0 → ((s : Sizes) (k : Source) (agrees : Agreed) → P s k agrees o → Q s k agrees r)
    → OfFile d dump path P o → OfFile d dump path Q r
OfFile-after d dump path P Q o r zero f (no_file (unreadable (bad_limit e broken gives))) =
    absurd (let bad = sym zero ∙ gives.status in cc)
OfFile-after d dump path P Q o r zero f (no_file (unreadable (cannot_read limits gives))) =
    absurd (let bad = sym zero ∙ gives.status in cc)
OfFile-after d dump path P Q o r zero f (no_file (unfit n m limits count is gives)) = absurd (let bad = sym zero ∙ gives.status in cc)
OfFile-after d dump path P Q o r zero f (no_file (unfit_whole n m limits count is gives)) =
    absurd (let bad = sym zero ∙ gives.status in cc)
OfFile-after d dump path P Q o r zero f (file (whole bytes read named fits h)) = file (whole bytes read named fits (f _ _ _ h))
OfFile-after d dump path P Q o r zero f (file (places k reads limits unfailed named fits h)) =
    file (places k reads limits unfailed named fits (f _ _ _ h))

-- what is answered of a file is no less than more, of one answer
pub OfFile-at : (d : Files) (dump : Dump) (path : List ℕ) (P Q : Sizes → Source → Agreed → Outcome → Type 0) (o : Outcome)
    → ((s : Sizes) (k : Source) (agrees : Agreed) → P s k agrees o → Q s k agrees o) → OfFile d dump path P o → OfFile d dump path Q o
OfFile-at d dump path P Q o f (no_file h) = no_file h
OfFile-at d dump path P Q o f (file (whole bytes read named fits h)) = file (whole bytes read named fits (f _ _ _ h))
OfFile-at d dump path P Q o f (file (places k reads limits unfailed named fits h)) =
    file (places k reads limits unfailed named fits (f _ _ _ h))

-- the file at a path holds what it received, though another was written since
holds_since : (m e : Files) (out : List ℕ) (received : Option (List ℕ)) → Stays m e out → Holds m out received → Holds e out received
holds_since m e out received stays holds = subst (λ (o : Option (List ℕ)). IfSome o (λ bytes. received ≡ Some bytes)) (sym stays) holds

module _ (out : List ℕ) (d m e : Files) (writes : Type 0) where
  into_since : (answers : Option (List ℕ) → Option (List ℕ) → Outcome → Type 0) (o : Outcome) → Stays m e out
      → WritesInto out d m answers writes o → WritesInto out d e answers writes o
  into_since answers o stays (written received answer left) = written received answer (record {
    done = λ zero. holds_since m e out received stays (left.done zero);
    refused = λ bad. stays ∙ left.refused bad;
  })
  into_since answers o stays (unwritten some gives) = unwritten some gives

  module _ (answers : List ℕ → Option (List ℕ) → Option (List ℕ) → Outcome → Type 0) (bytes : List ℕ) (o : Outcome) where
    -- no pages are asked for
    pub without_pages : (pages : Option (Bor (List ℕ))) → pages ≡ None → WritesInto out d e (answers bytes) writes o
        → WritesPlan out pages d e answers writes o
    without_pages pages none h =
        planned bytes h (λ zero path is. absurd (let bad = sym none ∙ is in cc)) (λ fails path is. absurd (let bad = sym none ∙ is in cc))

    -- the work wasn't done, so that there are none
    pub not_done : (pages : Option (Bor (List ℕ))) → o.status ≢ 0 → OthersStay d e out → WritesInto out d e (answers bytes) writes o
        → WritesPlan out pages d e answers writes o
    not_done pages bad others h = planned bytes h (λ zero. absurd (bad zero)) (λ fails path is apart. others path.now apart)

    module _ (path : Bor (List ℕ)) (pages : Option (Bor (List ℕ))) (asked : pages ≡ Some path) (stays : Stays m e out)
        (h : WritesInto out d m (answers bytes) writes o) where
      -- the pages were written behind the image
      pub with_pages : fresh m ≡ fresh d → o.status ≡ 0 → Receives m e path.now (Some bytes) → WritesPlan out pages d e answers writes o
      with_pages same zero received = planned bytes (into_since (answers bytes) o stays h)
          (λ done other is. receives other (sym is ∙ asked)) (λ fails. absurd (fails zero))
        where
          receives : (other : Bor (List ℕ)) → Some other ≡ Some path → Receives d e other.now (Some bytes)
          receives other is =
              let at : other ≡ path = cc in
              subst (λ (p : Bor (List ℕ)). Receives d e p.now (Some bytes)) (sym at)
              (received.0, subst (λ (x : Option (List ℕ)). Appends x received.0 bytes) same received.1, received.2)

      -- or couldn't be
      pub lost_pages : (r : Outcome) → o.status ≡ 0 → Gives r (says (file_line (codes "cannot write ") path.now) 1)
          → WritesPlan out pages d e answers writes r
      lost_pages r zero gives = no_pages path bytes o asked (into_since (answers bytes) o stays h) zero gives

      -- so that it ends with its outcome, or with the line of a file that can't be written
      pub pages_end : fresh m ≡ fresh d → o.status ≡ 0 → (r lost : Outcome)
          → Gives lost (says (file_line (codes "cannot write ") path.now) 1)
          → ((r ≡ o) × Receives m e path.now (Some bytes)) ⊎ (r ≡ lost) → WritesPlan out pages d e answers writes r
      pages_end same zero r lost line (inl (is, received)) =
          subst (λ (x : Outcome). WritesPlan out pages d e answers writes x) (sym is) (with_pages same zero received)
      pages_end same zero r lost line (inr is) =
          lost_pages r zero (subst (λ (x : Outcome). Gives x (says (file_line (codes "cannot write ") path.now) 1)) (sym is) line)

-- a file that was read stays, also where it may be the one that is written: that isn't opened then
pub stays_unopened : (d e : Files) (path out : List ℕ) (may_be_one : Bool) → (path ≡ out → may_be_one ≡ true) → OthersStay d e out
    → (not may_be_one ≡ false → e ≡ d) → Stays d e path
stays_unopened d e path out true one others shut = ap (λ (files : Files). files.holds path) (shut refl)
stays_unopened d e path out false one others shut = others path (λ same. true≢false (sym (one same)))

-- what is answered if no plan can name the eraseblocks of a dump, is answered whatever is asked
pub unplanned_any : (d : Files) (dump : Dump) (path : List ℕ) (answers : Outcome → Type 0) (o : Outcome) → NamesNoBlocks d dump path o
    → WithList d d dump.bad path (OnGrid d d dump path answers) o
unplanned_any d dump path answers o (no_list bad device gives stay) = no_list bad device gives stay
unplanned_any d dump path answers o (with_list (no_sizes unread)) = with_list (no_sizes unread)
unplanned_any d dump path answers o (with_list (off_grid limits off gives stay)) = with_list (off_grid limits off gives stay)
unplanned_any d dump path answers o (with_list (on_grid on none)) = absurd none
