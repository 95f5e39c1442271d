-- What the states say about the eraseblocks that are listed: that they begin blank, or that one doesn't.
use Rattle.ubi_change.proofs.Prelude.{◌≡◌, ℕ, zero, suc, ◌<◌, ◌≤◌, true, List, [], ◌∷◌, length, refl, ap, subst, arith, IfSome, None, Option, Some, slice_get, Sizes, Image, block, ec, eraseblocks, of_blocks, vid, foreign_if, Records, AreBlockStates, BlockStateIs, records_of, IsSurvey, Seen, BlockState, ReadBlank, Avoided, BlankBelow, is_blank_one, NotBlankIs, SayBlank}
use Rattle.ubi_media.specs.declared.ec.EcRead.TheVariants as ec_read
use Rattle.ubi_volume.specs.declared.attached.BlockState.TheVariants as state
use Rattle.ubi_change.proofs.Prepared.{valid_is}
use Rattle.ubi_change.proofs.Unused.{nameless_ec, nameless_loses}

state_at : (states : List BlockState) (p : ℕ) → p < length states → (st : BlockState) × (slice_get states p ≡ Some st)
state_at [] p l = absurd (omega arith)
state_at (st ∷ states) zero l = (st, refl)
state_at (st ∷ states) (suc p) l = state_at states p (omega arith)

pub place_of : (states : List BlockState) (p : ℕ) (st : BlockState) → slice_get states p ≡ Some st → p < length states
place_of [] p st e = absurd (cc)
place_of (x ∷ states) zero st e = omega arith
place_of (x ∷ states) (suc p) st e = let l = place_of states p st e in omega arith

blank_is : (st : BlockState) → is_blank_one st ≡ true → st ≡ state.Blank
blank_is state.Blank e = refl
blank_is state.Free e = absurd (cc)
blank_is state.Garbage e = absurd (cc)
blank_is state.Corrupt e = absurd (cc)
blank_is state.Dropped e = absurd (cc)
blank_is state.Orphan e = absurd (cc)
blank_is state.Table e = absurd (cc)
blank_is state.Used e = absurd (cc)
blank_is state.Stale e = absurd (cc)

module _ (s : Sizes) (bs : List (List ℕ)) (t : Records) (p : ℕ) where
  -- only a Blank one has a Blank erase-counter header
  pub blank_one : (st : BlockState) → BlockStateIs s bs t p st → ec s (block bs p) ≡ ec_read.Blank → st ≡ state.Blank
  blank_one state.Blank h e = refl
  blank_one state.Free h e = let v = valid_is (ec s (block bs p)) h.0 in let w = v.1 in let f = e in absurd (cc)
  blank_one state.Garbage h e = let v = valid_is (ec s (block bs p)) h.0 in let w = v.1 in let f = e in absurd (cc)
  blank_one state.Corrupt h e = let w = h.0 in let f = e in absurd (cc)
  blank_one state.Dropped h e =
      let f = ap (λ r. foreign_if r (vid s (block bs p))) e in let w = h.1 in absurd (cc)
  blank_one state.Orphan h e = let w = h.1.named in let f = nameless_ec s (block bs p) e in absurd (cc)
  blank_one state.Stale h e = let w = h.1.named in let f = nameless_ec s (block bs p) e in absurd (cc)
  blank_one state.Table h e = absurd (nameless_loses s bs t p (nameless_ec s (block bs p) e) _ h.1)
  blank_one state.Used h e = absurd (nameless_loses s bs t p (nameless_ec s (block bs p) e) _ h.1)

module _ (s : Sizes) (bs : List (List ℕ)) (t : Records) (av : Avoided) (states : List BlockState) (are : AreBlockStates s bs t states) where
  state_is : (p : ℕ) (st : BlockState) → slice_get states p ≡ Some st → BlockStateIs s bs t p st
  state_is p st e = subst (λ (o : Option BlockState). IfSome o (BlockStateIs s bs t p)) e (are.1 p)

  -- what the states say of those below n
  begin_below : (n : ℕ) → n ≤ length bs → SayBlank av.marks states n → BlankBelow s bs av n
  begin_below n few say p l c =
      let there = state_at states p (let n = are.0 in omega arith) in
      let is : is_blank_one there.0 ≡ true =
      subst (λ (o : Option BlockState). IfSome o (λ st. is_blank_one st ≡ true)) there.1 (say p l c) in
      subst (BlockStateIs s bs t p) (blank_is there.0 is) (state_is p there.0 there.1)

  pub begin_blank : NotBlankIs av.marks states None → ReadBlank s bs av
  begin_blank none p l c = begin_below (length states) (let n = are.0 in omega arith) none p (let n = are.0 in omega arith) c

-- so a survey tells it
module _ (image : Image) (seen : Seen) (is : IsSurvey image seen) (av : Avoided) where
  pub survey_blank : NotBlankIs av.marks seen.states None → of_blocks ReadBlank image av
  survey_blank none =
      begin_blank image.sizes (eraseblocks image) (records_of is.meaning) av seen.states is.attached.states none
