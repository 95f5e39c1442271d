-- What is answered, for whatever a source of contents may hold.
use Rattle.ubi_writing.proofs.Prelude.{Agreed, Avoided, Err, Files, HasUpdate, HasWork, HasWorkOf, IfErr, IfOk, IsUpdateFault, List, Made, Ok, Option, Outcome, Receives, Result, Sizes, Some, Source, StaysOpen, ToolError, WhereHeld, WritesInto, Writing, [], ap, inl, inr, memory, pages_made, subst, unwritten, writes, writes_of, written, ℕ, ◌∙◌, ◌≡◌, ◌⊎◌, AskedEdits}
use Rattle.ubi_files.specs.declared.outcome.ToolError.TheVariants as tool

-- an answer that doesn't depend on contents is that for all
pub for_any : (A : Agreed) (P Q : Outcome → Type 0) (r : Result Outcome ToolError) → IfOk r (λ o. P o → Q o) → IfOk r (λ o. P o → WhereHeld A (λ bytes. Q o))
for_any A P Q (Ok o) h = λ is bytes held. h is
for_any A P Q (Err e) h = tt

pub any_ok : (A : Agreed) (Q : Outcome → Type 0) (r : Result Outcome ToolError) → IfOk r Q → IfOk r (λ o. WhereHeld A (λ bytes. Q o))
any_ok A Q (Ok o) h = λ bytes held. h
any_ok A Q (Err e) h = tt

-- one for each that may be held is one for all
pub each_ok : (A : Agreed) (P : List ℕ → Outcome → Type 0) (r : Result Outcome ToolError) → WhereHeld A (λ bytes. IfOk r (P bytes))
    → IfOk r (λ o. WhereHeld A (λ bytes. P bytes o))
each_ok A P (Ok o) h = λ bytes held. h bytes held
each_ok A P (Err e) h = tt

pub each_done : (A : Agreed) (P : List ℕ → Type 0) (r : Result Outcome ToolError) → WhereHeld A (λ bytes. IfOk r (λ o. o.status ≡ 0 → P bytes))
    → IfOk r (λ o. o.status ≡ 0 → WhereHeld A P)
each_done A P (Ok o) h = λ is bytes held. h bytes held is
each_done A P (Err e) h = tt

-- a write failed, so there was something to write
pub update_failed : (av : Avoided) (w : AskedEdits) (contents : List ℕ) (stop : Option ℕ) (s : Sizes) (k : Source) (agrees : Agreed) (old now : Option (List ℕ))
    (r : Result Outcome ToolError) → IfErr r (IsUpdateFault av w contents stop s k agrees old now) → r ≡ Err tool.Write
    → HasUpdate av w contents s k agrees
update_failed av w contents stop s k agrees old now r h is =
    let fault : IsUpdateFault av w contents stop s k agrees old now tool.Write = subst (λ x. IfErr x (IsUpdateFault av w contents stop s k agrees old now)) is h in
    (fault.0, fault.1, fault.2)

-- what is written into a file for all that the source may hold is so for each
pub into_each : (out : List ℕ) (d e : Files) (w : Writing) (A : Agreed) (m : Made) (s : Sizes) (k : Source) (agrees : Agreed) (o : Outcome)
    → WritesInto out d e (writes w A m s k agrees) (HasWork w A s k agrees) o
    → (bytes : List ℕ) → A bytes → WritesInto out d e (writes_of w bytes s k agrees (pages_made m bytes)) (HasWorkOf w bytes s k agrees) o
into_each out d e w A m s k agrees o (written received a left) bytes held = written received (a bytes held) left
into_each out d e w A m s k agrees o (unwritten some gives) bytes held = unwritten (some bytes held) gives

-- a source over no bytes stays one
pub nothing_held : (old left : List ℕ) → old ≡ [] → StaysOpen (memory old) (memory left) → [] ≡ left
nothing_held old left none kept =
    let same : Some left ≡ Some [] = kept.held ∙ ap Some none in
    cc

-- pages that were written are those of the plan
pub received_pages : (d e : Files) (path : List ℕ) (A : Agreed) (before after : Made) (r o lost : Outcome) → after ≡ before
    → ((r ≡ o) × WhereHeld A (λ bytes. Receives d e path (Some (pages_made after bytes)))) ⊎ (r ≡ lost)
    → (bytes : List ℕ) → A bytes → ((r ≡ o) × Receives d e path (Some (pages_made before bytes))) ⊎ (r ≡ lost)
received_pages d e path A before after r o lost same (inl (is, received)) bytes held =
    inl (is, subst (λ (m : Made). Receives d e path (Some (pages_made m bytes))) same (received bytes held))
received_pages d e path A before after r o lost same (inr is) bytes held = inr is
