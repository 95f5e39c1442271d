-- What plans need of attaching: only the states in which nothing is lost have to be right. What attaching shows is so,
-- and so is what a plan that avoids something sees of it.
use Rattle.ubi_change.proofs.Prelude.{ap₂, ◌≤◌, ◌≡◌, ℕ, zero, suc, ◌+◌, Bool, true, false, cond, List, [], ◌∷◌, map, refl, ap, sym, ◌∙◌, subst, arith, IfSome, None, Option, Some, option_map, slice_get, enumerate_from, Sizes, Image, eraseblocks, of_blocks, IsScan, Records, Accepts, AreBlockStates, IsAttached, BlockStateIs, AttachValue, records_of, BlockState, Avoided, is_avoided, nothing, avoiding, state_avoiding, states_avoiding, is_unused}
use Rattle.std.proofs.Math.Nat as nat
use Rattle.ubi_volume.specs.declared.attached.BlockState.TheVariants as state

-- each eraseblock in a state in which nothing is lost with it has this state
abbrev pub SayUnused : Sizes → List (List ℕ) → Records → List BlockState → Type 0
SayUnused s bs t states = (p : ℕ) → IfSome (slice_get states p) (λ st. is_unused st ≡ true → BlockStateIs s bs t p st)

-- it is that of the image, as far as plans ask; the sequence numbers may count on from a greater one than the image has
pub record IsShown (image : Image) (a : AttachValue) : Type 0 where
  pub accepted : Accepts image a.meaning
  pub top : ℕ
  pub scan : of_blocks IsScan image (record a.scan { top_sqnum = top })
  pub below : top ≤ a.scan.top_sqnum
  pub states : of_blocks SayUnused image (records_of a.meaning) a.states

-- the state that a plan sees
numbered : (av : Avoided) (states : List BlockState) (n p : ℕ)
    → slice_get (map (λ e. state_avoiding av e.0 e.1) (enumerate_from n states)) p
    ≡ option_map (state_avoiding av (n + p)) (slice_get states p)
numbered av [] n p = refl
numbered av (st ∷ states) n zero = ap (λ k. Some (state_avoiding av k st)) (omega arith)
numbered av (st ∷ states) n (suc p) =
    numbered av states (n + 1) p
    ∙ ap (λ k. option_map (state_avoiding av k) (slice_get states p)) (omega arith)

pub seen_state : (av : Avoided) (states : List BlockState) (p : ℕ)
    → slice_get (states_avoiding av states) p ≡ option_map (state_avoiding av p) (slice_get states p)
seen_state av states p =
    numbered av states 0 p ∙ ap (λ k. option_map (state_avoiding av k) (slice_get states p)) (omega arith)

-- what a plan sees as unused isn't avoided, and is in that state
pub not_avoided : (av : Avoided) (p : ℕ) (st : BlockState) → is_unused (state_avoiding av p st) ≡ true
    → (is_avoided av p st ≡ false) × (state_avoiding av p st ≡ st)
not_avoided av p st u = by_test (is_avoided av p st) refl u
  where
    by_test : (b : Bool) → is_avoided av p st ≡ b → is_unused (cond b state.Used st) ≡ true
        → (is_avoided av p st ≡ false) × (cond b state.Used st ≡ st)
    by_test true e u = absurd (cc)
    by_test false e u = (e, refl)

module _ (s : Sizes) (bs : List (List ℕ)) (t : Records) (av : Avoided) (states : List BlockState) where
  pub say_avoiding : AreBlockStates s bs t states → SayUnused s bs t (states_avoiding av states)
  say_avoiding are p = subst (λ (o : Option BlockState). IfSome o (λ st. is_unused st ≡ true → BlockStateIs s bs t p st))
      (sym (seen_state av states p)) (by_state (slice_get states p) (are.1 p))
    where
      by_state : (o : Option BlockState) → IfSome o (BlockStateIs s bs t p)
          → IfSome (option_map (state_avoiding av p) o) (λ st. is_unused st ≡ true → BlockStateIs s bs t p st)
      by_state None h = tt
      by_state (Some st) h = λ u. subst (BlockStateIs s bs t p) (sym (not_avoided av p st u).1) h

-- what an attach shows
pub shown : (image : Image) (a : AttachValue) → IsAttached image a → IsShown image a
shown image a att = record {
  accepted = att.accepted;
  top = a.scan.top_sqnum;
  scan = att.scan;
  below = omega arith;
  states = λ p. all (slice_get a.states p) p (att.states.1 p);
}
  where
    all : (o : Option BlockState) (p : ℕ) → IfSome o (of_blocks BlockStateIs image (records_of a.meaning) p)
        → IfSome o (λ st. is_unused st ≡ true → of_blocks BlockStateIs image (records_of a.meaning) p st)
    all None p h = tt
    all (Some st) p h = λ u. h

-- and what a plan sees of it that avoids something
pub shown_avoiding : (image : Image) (av : Avoided) (a : AttachValue) → IsAttached image a → IsShown image (avoiding av a)
shown_avoiding image av a att = record {
  accepted = att.accepted;
  top = a.scan.top_sqnum;
  scan = att.scan;
  below = nat.le-max_left a.scan.top_sqnum av.above;
  states = say_avoiding image.sizes (eraseblocks image) (records_of a.meaning) av a.states att.states;
}

-- where nothing is avoided it sees all as it is
pub states_nothing : (states : List BlockState) → states_avoiding nothing states ≡ states
states_nothing states = from 0 states
  where
    from : (n : ℕ) (states : List BlockState) → map (λ e. state_avoiding nothing e.0 e.1) (enumerate_from n states) ≡ states
    from n [] = refl
    from n (st ∷ states) = ap (λ xs. st ∷ xs) (from (n + 1) states)

pub avoiding_nothing : (a : AttachValue) → avoiding nothing a ≡ a
avoiding_nothing a =
    ap₂ (λ (n : ℕ) (states : List BlockState). record { meaning = a.meaning; scan = record a.scan { top_sqnum = n }; states = states })
    (nat.max-eq_left (omega arith)) (states_nothing a.states)
