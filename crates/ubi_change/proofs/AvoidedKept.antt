-- The steps of a plan that avoids something touch none of it: what is taken isn't avoided, since the plan sees that as
-- used; and what is given up isn't, since it holds a LEB, and the listed eraseblocks begin blank.
use Rattle.ubi_change.proofs.Prelude.{ready_ec, EcHeader, ◌≡◌, ℕ, zero, suc, ◌<◌, ◌≤◌, Bool, true, false, List, [], ◌∷◌, length, take, get_or, refl, ap, sym, ◌∙◌, subst, arith, ◌&&◌, ◌||◌, IfSome, None, Option, Some, option_map, slice_get, option_map_or, IsGeometry, Sizes, Image, block, ec, eraseblocks, of_blocks, Leb, Wins, Records, IsAttached, BlockStateIs, AttachValue, records_of, BlockState, Volume, found_wins, TouchesOnly, given_up, needs, plan_of, taken, first_cause, ReadBlank, MayTouch, Avoided, Avoids, avoiding, is_avoided, is_blank_one, is_listed, state_avoiding, target, ec_at, is_unused, stays, takeable, Step}
use Rattle.std.specs.Prelude.{not}
use Rattle.std.specs.FinMap as finite
use Rattle.ubi_media.specs.declared.ec.EcRead.TheVariants as ec_read
use Rattle.ubi_volume.specs.declared.attached.BlockState.TheVariants as state
use Rattle.ubi_change.proofs.Attached.{Changing, no_cause}
use Rattle.ubi_change.proofs.BlankListed.{blank_one}
use Rattle.ubi_change.proofs.Choosing.{Each, MayBeTaken, each_map, may_be_taken, takeable_each}
use Rattle.ubi_change.proofs.Premises.{left_of}
use Rattle.ubi_change.proofs.PlanPremises.{IsShown, seen_state, shown_avoiding, not_avoided}
use Rattle.ubi_change.proofs.Touched.{plan_touches}
use Rattle.ubi_change.proofs.Unused.{nameless_ec, nameless_loses}

or_true : (b : Bool) → (b || true) ≡ true
or_true true = refl
or_true false = refl

-- a fact about each of a list is one about what it contains
each_at : (P : ℕ → Type 0) (xs : List ℕ) (k p : ℕ) → Each P xs → k < length xs → get_or xs k p ≡ p → P p
each_at P [] k p e l same = absurd (omega arith)
each_at P (x ∷ xs) zero p e l same = subst P same e.0
each_at P (x ∷ xs) (suc k) p e l same = each_at P xs k p e.1 (omega arith) same

each_take : (P : ℕ → Type 0) (n : ℕ) (xs : List ℕ) → Each P xs → Each P (take n xs)
each_take P zero xs e = tt
each_take P (suc n) [] e = tt
each_take P (suc n) (x ∷ xs) e = (e.0, each_take P n xs e.1)

module _ (s : Sizes) (bs : List (List ℕ)) (av : Avoided) where
  pub avoids_each : (ps : List ℕ) (steps : List Step) → TouchesOnly ps steps → Each (MayTouch s bs av) ps → Avoids s bs av steps
  avoids_each ps steps touches each k next e =
      let c = touches k next e in
      each_at (MayTouch s bs av) ps c.0 (target next) each c.1 c.2

  unread : (b : Bool) → (b ≡ true → ⊥) → b ≡ false
  unread true none = absurd (none refl)
  unread false none = refl

  unlisted : (b c : Bool) → (b || c) ≡ false → b ≡ false
  unlisted true c e = e
  unlisted false c e = refl

  -- what wins a LEB isn't Blank
  pub winner_may : (t : Records) (of : Leb) (p : ℕ) → ReadBlank s bs av → Wins s bs of p → MayTouch s bs av p
  winner_may t of p blank w =
      let full : ec s (block bs p) ≡ ec_read.Blank → ⊥ =
      λ e. nameless_loses s bs t p (nameless_ec s (block bs p) e) of w in
      (unread (is_listed av.marks p) (λ c. full (blank p w.member.inside c)), λ on e. full e)

  module _ (t : Records) (p : ℕ) where
    by_state : (o : Option BlockState) → IfSome o (BlockStateIs s bs t p)
        → option_map_or is_unused (option_map (state_avoiding av p) o) false ≡ true → MayTouch s bs av p
    by_state None h u = absurd (cc)
    by_state (Some st) h u =
        let is = not_avoided av p st u in
        let unused : is_unused st ≡ true = ap is_unused (sym is.1) ∙ u in (
          unlisted (is_listed av.marks p) (av.blank && is_blank_one st) is.0,
          λ on e. (let k = avoided_blank st (blank_one s bs t p st h e) on in let f = is.0 in absurd (cc)),
        )
      where
        avoided_blank : (st : BlockState) → st ≡ state.Blank → av.blank ≡ true → is_avoided av p st ≡ true
        avoided_blank st e on =
            ap (is_avoided av p) e
            ∙ ap (λ b. is_listed av.marks p || (b && true)) on
            ∙ or_true (is_listed av.marks p)

module _ (image : Image) (av : Avoided) (from : AttachValue) (att : IsAttached image from) (blank : of_blocks ReadBlank image av) where
  abbrev s : Sizes
  s = image.sizes

  abbrev bs : List (List ℕ)
  bs = eraseblocks image

  -- the image as the plan sees it
  abbrev a : AttachValue
  a = avoiding av from

  -- what may be taken may be touched
  pub taken_may : (p : ℕ) → MayBeTaken s bs a.states p → MayTouch s bs av p
  taken_may p may =
      by_state s bs av (records_of from.meaning) p (slice_get from.states p) (att.states.1 p)
      (ap (λ o. option_map_or is_unused o false) (sym (seen_state av from.states p))
      ∙ left_of (option_map_or is_unused (slice_get a.states p) false) (not (stays s bs p (ec_at s bs p))) may.1)

  pub takeable_may : (n : ℕ) → Each (MayTouch s bs av) (take n (takeable s bs a.states))
  takeable_may n = each_take (MayTouch s bs av) n (takeable s bs a.states)
      (each_map (MayBeTaken s bs a.states) (MayTouch s bs av) (takeable s bs a.states) taken_may
      (takeable_each s bs a.states))

  given_may : (id lnum : ℕ) → needs s bs a id lnum ≤ length (takeable s bs a.states)
      → MayTouch s bs av (given_up s bs a id lnum).0
  given_may id lnum enough = by_winner (finite.get a.scan.winners (id, lnum)) refl enough
    where
      by_winner : (o : Option ℕ) → finite.get a.scan.winners (id, lnum) ≡ o
          → option_map_or (λ _. 1) o 2 ≤ length (takeable s bs a.states)
          → MayTouch s bs av (option_map_or {U = ℕ × Option EcHeader} (λ p. (p, ec_at s bs p)) o (taken s bs a 0, ready_ec s bs a (taken s bs a 0))).0
      by_winner (Some p) e l = winner_may s bs av (records_of from.meaning) (id, lnum) p blank
          (found_wins s bs from.scan att.scan (id, lnum) p e)
      by_winner None e l = taken_may (taken s bs a 0) (may_be_taken s bs a.states 0 (omega arith))

  pub plan_avoids : (g : IsGeometry s) (id lnum : ℕ) (new : List ℕ) (v : Volume) → finite.get a.meaning.volumes id ≡ Some v
      → first_cause s bs a id lnum new ≡ None → Avoids s bs av (plan_of s bs a v.entry id lnum new)
  plan_avoids g id lnum new v there allowed =
      let seen : IsShown image a = shown_avoiding image av from att in
      let change : Changing = record {
        image = image;
        g = g;
        a = a;
        att = seen;
        id = id;
        lnum = lnum;
        new = new;
        v = v;
        there = there;
        allowed = allowed;
      } in
      let enough = (no_cause change).enough in
      avoids_each s bs av ((given_up s bs a id lnum).0 ∷ take (needs s bs a id lnum) (takeable s bs a.states))
      (plan_of s bs a v.entry id lnum new)
      (plan_touches s bs a v.entry id lnum new enough)
      (given_may id lnum enough, takeable_may (needs s bs a id lnum))
