-- What was read of a source for a change holds for whatever it may hold: its plan, or why it has none.
use Rattle.ubi_change.proofs.Prelude.{◌≡◌, ℕ, inl, inr, List, [], length, sym, ◌∙◌, subst, Sizes, Refusal, Image, IsWholeSize, image_of, of_blocks, Agreed, Narrows, Source, WhereHeld, blocks_of, holds, memory, StreamError, still, AttachValue, ArePlacesError, IsSurvey, Seen, Volume, refused_in_memory, AreStepsOf, IsPrepared, IsUnplanned, change_error, shown, IsChangeError, IsChangeRefusal, IsChangeRefusalAvoiding, IsPlanAvoiding, Avoided, ReadBlank, nothing, avoiding, PlanError, Prepared, ChangeRefusal, Step}
use Rattle.ubi_scan.specs.declared.errors.StreamError.TheVariants as stream
use Rattle.ubi_change.specs.declared.errors.PlanError.TheVariants as error
use Rattle.ubi_change.specs.declared.errors.ChangeRefusal.TheVariants as refusal
use Rattle.ubi_change.proofs.ChangeCauses as causes
use Rattle.ubi_change.proofs.NothingAvoided.{refusal_nothing}
use Rattle.ubi_change.proofs.PlanMade as make
use Rattle.ubi_change.proofs.Surveys.{has_none, has_volume, whole}

module _ (s : Sizes) (k : Source) (agrees : Agreed) (av : Avoided) (id lnum : ℕ) (new : List ℕ) (p : Prepared)
    (is : IsPrepared s k agrees av id lnum p) where
  abbrev seen : Seen
  seen = p.ground.surveyed

  module _ (bytes : List ℕ) (holds : agrees bytes) where
    abbrev image : Image
    image = image_of s bytes

    abbrev bs : List (List ℕ)
    bs = blocks_of s bytes

    survey : IsSurvey image seen
    survey = is.ground.survey.held bytes holds

    abbrev from : AttachValue
    from = whole image seen survey

    -- the image as the plan sees it
    abbrev a : AttachValue
    a = avoiding av from

    pub plan_is : (steps : List Step) → AreStepsOf s av p id lnum new steps → IsPlanAvoiding image av id lnum new steps
    plan_is steps made =
        let h = has_volume image seen survey id made.asked.entry made.asked.there in
        let v : Volume = record { entry = made.asked.entry; content = h.0 } in
        let same = survey.attached.scan.carriers in
        let won = is.winner.held bytes holds in
        let taking = is.ground.taken.held bytes holds in
        record {
          from = from;
          attached = survey.attached;
          allowed = causes.no_cause image av from survey.attached id lnum new v h.1 made.asked.free
              (make.sites_free s bs a same id lnum p.winner p.ground.taken.items won taking made.sites made.are);
          volume = v;
          there = h.1;
          plan = made.is
              ∙ make.steps_are s bs a same id lnum p.winner p.ground.taken.items won taking made.asked.entry new made.sites made.are made.target made.asked.is;
        }

    pub refused_is : (c : ChangeRefusal) → IsUnplanned s av p id lnum new c → IsChangeRefusalAvoiding image av id lnum new c
    refused_is c (inl memory) = subst (IsChangeRefusalAvoiding image av id lnum new) (sym memory) tt
    refused_is c (inr (inl (inl none))) = subst (IsChangeRefusalAvoiding image av id lnum new) (sym none.1)
        (causes.no_volume image av from survey.attached id lnum new (has_none image seen survey id none.0))
    refused_is c (inr (inl (inr own))) =
        let h = has_volume image seen survey id own.0 own.1 in
        causes.own_stands image av from survey.attached id lnum new (record { entry = own.0; content = h.0 }) h.1 c own.2
    refused_is c (inr (inr sites)) =
        let target = sites.1 in
        let h = has_volume image seen survey id target.entry target.there in
        causes.image_stands image av from survey.attached id lnum new (record { entry = target.entry; content = h.0 }) h.1 target.free c
        (make.sites_stand s bs a survey.attached.scan.carriers id lnum p.winner p.ground.taken.items (is.winner.held bytes holds)
        (is.ground.taken.held bytes holds) c sites.2)

  -- attaching was no cause
  no_attach : (x : Refusal) → IsUnplanned s av p id lnum new (refusal.Attach x) → ⊥
  no_attach x (inl memory) = absurd (cc)
  no_attach x (inr (inl (inl none))) = let e = none.1 in absurd (cc)
  no_attach x (inr (inl (inr own))) = causes.no_attach s [] (shown seen) own.0 id lnum new x own.2
  no_attach x (inr (inr sites)) = sites.2

  -- no listed eraseblock holds anything
  module _ (blank : WhereHeld agrees (λ bytes. of_blocks ReadBlank (image_of s bytes) av)) where
    other : (c : ChangeRefusal) → IsUnplanned s av p id lnum new c
        → IsWholeSize s k.size × WhereHeld agrees (λ bytes. of_blocks ReadBlank (image_of s bytes) av × IsChangeRefusalAvoiding (image_of s bytes) av id lnum new c)
    other c h = (is.ground.survey.scan.whole, λ bytes holds. (blank bytes holds, refused_is bytes holds c h))

    pub error_is : (c : ChangeRefusal) → IsUnplanned s av p id lnum new c → IsChangeError s k agrees av id lnum new (error.Refused c)
    error_is refusal.Memory h = tt
    error_is (refusal.Attach x) h = absurd (no_attach x h)
    error_is refusal.NoVolume h = other refusal.NoVolume h
    error_is refusal.StaticVolume h = other refusal.StaticVolume h
    error_is refusal.Updating h = other refusal.Updating h
    error_is refusal.OutOfRange h = other refusal.OutOfRange h
    error_is refusal.BadLength h = other refusal.BadLength h
    error_is (refusal.WeakCheck n) h = other (refusal.WeakCheck n) h
    error_is refusal.Exhausted h = other refusal.Exhausted h
    error_is refusal.NoFree h = other refusal.NoFree h

-- an error of what reads for a plan
pub error_read : (s : Sizes) (k : Source) (agrees : Agreed) (av : Avoided) (id lnum : ℕ) (new : List ℕ) (e : StreamError)
    → ArePlacesError s k agrees e → IsChangeError s k agrees av id lnum new (change_error e)
error_read s k agrees av id lnum new (stream.Refused c) h = h
error_read s k agrees av id lnum new (stream.Read p written) h = (h.0, h.1.0)
error_read s k agrees av id lnum new (stream.Write written) h = absurd h
error_read s k agrees av id lnum new stream.Memory h = tt

-- why the change of bytes in memory isn't planned
module _ (s : Sizes) (image left : List ℕ) (narrows : Narrows (holds image) (holds left)) (av : Avoided) (id lnum : ℕ) (new : List ℕ) where
  stands : (c : ChangeRefusal)
      → IsWholeSize s (length image) × WhereHeld (holds left) (λ bytes. of_blocks ReadBlank (image_of s bytes) av × IsChangeRefusalAvoiding (image_of s bytes) av id lnum new c)
      → IsChangeRefusalAvoiding (image_of s image) av id lnum new c
  stands c h = (h.1 image (still image left narrows)).1

  pub by_cause : (c : ChangeRefusal) → IsChangeError s (memory image) (holds left) av id lnum new (error.Refused c)
      → IsChangeRefusalAvoiding (image_of s image) av id lnum new c
  by_cause refusal.Memory h = tt
  by_cause (refusal.Attach x) h = refused_in_memory s image left x narrows h
  by_cause refusal.NoVolume h = stands refusal.NoVolume h
  by_cause refusal.StaticVolume h = stands refusal.StaticVolume h
  by_cause refusal.Updating h = stands refusal.Updating h
  by_cause refusal.OutOfRange h = stands refusal.OutOfRange h
  by_cause refusal.BadLength h = stands refusal.BadLength h
  by_cause (refusal.WeakCheck n) h = stands (refusal.WeakCheck n) h
  by_cause refusal.Exhausted h = stands refusal.Exhausted h
  by_cause refusal.NoFree h = stands refusal.NoFree h

pub error_in_memory : (s : Sizes) (bytes old left : List ℕ) → old ≡ bytes → Narrows (holds old) (holds left)
    → (id lnum : ℕ) (new : List ℕ) (e : PlanError ChangeRefusal) (c : ChangeRefusal) → e ≡ error.Refused c
    → IsChangeError s (memory old) (holds left) nothing id lnum new e → IsChangeRefusal (image_of s bytes) id lnum new c
error_in_memory s bytes old left same narrows id lnum new e c is h =
    subst (λ (b : List ℕ). IsChangeRefusal (image_of s b) id lnum new c) same
    (refusal_nothing (image_of s old) id lnum new c
    (by_cause s old left narrows nothing id lnum new c (subst (IsChangeError s (memory old) (holds left) nothing id lnum new) is h)))
