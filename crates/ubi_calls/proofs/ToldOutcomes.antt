-- What outcomes answer, under numbers, and what is handed over of them.
use Rattle.ubi_calls.proofs.Prelude.{List, refl, subst, ℕ, ◌≡◌, IfOk-weaker, Err, IfOk, None, Ok, Result, AllocError, Sizes, first_broken, GeometryError, Gives, says, geometry_line, Outcome, Fills, Streams, MayTell, Under, bad_limit, ended, filled, no_memory, printed, named_sizes, uncounted, under, DeviceSizes, HandsOver, Some}

-- the outcome of work has what is told
abbrev pub Tells : MayTell → Result Outcome AllocError → Type 0
Tells told r = IfOk r (λ o. told o.text.items o.status)

-- what a command answers is printed
pub prints : (answers : Outcome → Type 0) (r : Result Outcome AllocError) → IfOk r answers → Tells (printed answers) r
prints answers r h = IfOk-weaker r _ _ (λ o a. (o, a, refl, refl)) h

module _ (n : DeviceSizes) (told : Sizes → MayTell) where
  -- what is told under sizes is told under the numbers that name them
  pub at_sizes : (s : Sizes) → (first_broken (named_sizes n) ≡ None) × (s ≡ named_sizes n) → (bytes : List ℕ) (status : ℕ)
      → told s bytes status → Under n told bytes status
  at_sizes s is bytes status h = under is.0 (subst (λ (t : Sizes). told t bytes status) is.1 h)

  pub allowed : (s : Sizes) (r : Result Outcome AllocError) → (first_broken (named_sizes n) ≡ None) × (s ≡ named_sizes n) → Tells (told s) r
      → Tells (Under n told) r
  allowed s r is h = IfOk-weaker r _ _ (λ o a. at_sizes s is o.text.items o.status a) h

  -- and the line of the limit that they break
  pub limited : (e : GeometryError) (r : Result Outcome AllocError) → first_broken (named_sizes n) ≡ Some e
      → IfOk r (λ o. Gives o (says (geometry_line e) 2)) → Tells (Under n told) r
  limited e r is h = IfOk-weaker r _ _ (λ o a. bad_limit e is a.text a.status) h

module _ {old new : List ℕ} {len status : ℕ} where
  -- what is told is handed over
  pub fills : (told : MayTell) (r : Result Outcome AllocError) → Tells told r → HandsOver r old new len status → Fills told old new len status
  fills told (Ok o) h given = filled o.text.items o.status h given.0 given.1 given.2
  fills told (Err e) h given = no_memory given.0 given.1 given.2

  -- what is told in a stream is no less than more
  fills_more : (told more : MayTell) → ((bytes : List ℕ) (s : ℕ) → told bytes s → more bytes s) → Fills told old new len status
      → Fills more old new len status
  fills_more told more f (filled bytes s h put len ends) = filled bytes s (f bytes s h) put len ends
  fills_more told more f (no_memory same len ends) = no_memory same len ends

  pub streams_more : (told more : MayTell) → ((bytes : List ℕ) (s : ℕ) → told bytes s → more bytes s) → Streams told old new len status
      → Streams more old new len status
  streams_more told more f (ended h) = ended (fills_more told more f h)
  streams_more told more f (uncounted bytes s n h put len ends) = uncounted bytes s n (f bytes s h) put len ends
