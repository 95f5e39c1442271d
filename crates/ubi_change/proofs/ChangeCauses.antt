-- Which cause applies against a change, by those that depend on the request alone and those that depend on the image.
use Rattle.ubi_change.proofs.Prelude.{◌≡◌, ◌≢◌, ℕ, Bool, true, false, List, [], ◌∷◌, ◌++◌, refl, ap, ◌∙◌, None, Option, Some, option_map, then_some, option_map_or, Sizes, VolumeRecord, Refusal, Image, eraseblocks, IsAttached, AttachValue, Volume, image_causes, own_causes, IsChangeRefusalAvoiding, causes, first_cause, first_of, Avoided, avoiding, ChangeRefusal}
use Rattle.std.specs.FinMap as finite
use Rattle.ubi_change.specs.declared.errors.ChangeRefusal.TheVariants as refusal

-- the first of causes and of others behind them
front_stands : (xs ys : List (Option ChangeRefusal)) (c : ChangeRefusal) → first_of xs ≡ Some c
    → first_of (xs ++ ys) ≡ Some c
front_stands [] ys c e = absurd (cc)
front_stands (Some d ∷ xs) ys c e = e
front_stands (None ∷ xs) ys c e = front_stands xs ys c e

rest_stands : (xs ys : List (Option ChangeRefusal)) → first_of xs ≡ None → first_of (xs ++ ys) ≡ first_of ys
rest_stands [] ys e = refl
rest_stands (Some d ∷ xs) ys e = absurd (cc)
rest_stands (None ∷ xs) ys e = rest_stands xs ys e

-- none of the causes is that of an attach
abbrev IsOwn : Option ChangeRefusal → Type 0
IsOwn o = (c : Refusal) → o ≢ Some (refusal.Attach c)

abbrev AreOwn : List (Option ChangeRefusal) → Type 0
AreOwn [] = Unit {0}
AreOwn (o ∷ os) = IsOwn o × AreOwn os

first_own : (os : List (Option ChangeRefusal)) → AreOwn os → IsOwn (first_of os)
first_own [] own c e = absurd (cc)
first_own (Some d ∷ os) own c e = own.0 c e
first_own (None ∷ os) own c e = first_own os own.1 c e

some_own : (b : Bool) (d : ChangeRefusal) → IsOwn (Some d) → IsOwn (then_some b d)
some_own true d own = own
some_own false d own = λ c e. absurd (cc)

weak_own : (o : Option ℕ) → IsOwn (option_map refusal.WeakCheck o)
weak_own None c e = absurd (cc)
weak_own (Some k) c e = absurd (cc)

module _ (s : Sizes) (bs : List (List ℕ)) (a : AttachValue) (r : VolumeRecord) (id lnum : ℕ) (new : List ℕ) where
  are_own : AreOwn (causes s bs a r id lnum new)
  are_own = (
    some_own _ refusal.StaticVolume (λ c e. absurd (cc)),
    (
      some_own _ refusal.Updating (λ c e. absurd (cc)),
      (
        some_own _ refusal.OutOfRange (λ c e. absurd (cc)),
        (
          some_own _ refusal.BadLength (λ c e. absurd (cc)),
          (
            weak_own _,
            (
              some_own _ refusal.Exhausted (λ c e. absurd (cc)),
              (some_own _ refusal.NoFree (λ c e. absurd (cc)), tt),
            ),
          ),
        ),
      ),
    ),
  )

  -- a cause that the request alone gives isn't that of an attach
  pub no_attach : (c : Refusal) → first_of (own_causes s r lnum new) ≡ Some (refusal.Attach c) → ⊥
  no_attach c e = first_own (causes s bs a r id lnum new) are_own c
      (front_stands (own_causes s r lnum new) (image_causes s bs a id lnum) (refusal.Attach c) e)

module _ (image : Image) (av : Avoided) (from : AttachValue) (att : IsAttached image from) (id lnum : ℕ) (new : List ℕ) where
  -- the image as the plan sees it
  abbrev a : AttachValue
  a = avoiding av from

  abbrev s : Sizes
  s = image.sizes

  abbrev bs : List (List ℕ)
  bs = eraseblocks image

  -- no volume has the number
  pub no_volume : finite.get a.meaning.volumes id ≡ None → IsChangeRefusalAvoiding image av id lnum new refusal.NoVolume
  no_volume none = (
    from,
    att,
    ap (λ (o : Option Volume). option_map_or (λ v. first_of (causes s bs a v.entry id lnum new)) o
        (Some refusal.NoVolume)) none,
  )

  module _ (v : Volume) (there : finite.get a.meaning.volumes id ≡ Some v) where
    cause_is : first_cause s bs a id lnum new ≡ first_of (causes s bs a v.entry id lnum new)
    cause_is = ap (λ (o : Option Volume). option_map_or (λ v. first_of (causes s bs a v.entry id lnum new)) o
        (Some refusal.NoVolume)) there

    stands : (c : ChangeRefusal) → first_of (causes s bs a v.entry id lnum new) ≡ Some c
        → IsChangeRefusalAvoiding image av id lnum new c
    stands refusal.Memory e = tt
    stands (refusal.Attach c) e =
        absurd (first_own (causes s bs a v.entry id lnum new) (are_own s bs a v.entry id lnum new) c e)
    stands refusal.NoVolume e = (from, att, cause_is ∙ e)
    stands refusal.StaticVolume e = (from, att, cause_is ∙ e)
    stands refusal.Updating e = (from, att, cause_is ∙ e)
    stands refusal.OutOfRange e = (from, att, cause_is ∙ e)
    stands refusal.BadLength e = (from, att, cause_is ∙ e)
    stands (refusal.WeakCheck k) e = (from, att, cause_is ∙ e)
    stands refusal.Exhausted e = (from, att, cause_is ∙ e)
    stands refusal.NoFree e = (from, att, cause_is ∙ e)

    pub own_stands : (c : ChangeRefusal) → first_of (own_causes s v.entry lnum new) ≡ Some c
        → IsChangeRefusalAvoiding image av id lnum new c
    own_stands c e = stands c (front_stands (own_causes s v.entry lnum new) (image_causes s bs a id lnum) c e)

    module _ (own : first_of (own_causes s v.entry lnum new) ≡ None) where
      pub image_stands : (c : ChangeRefusal) → first_of (image_causes s bs a id lnum) ≡ Some c
          → IsChangeRefusalAvoiding image av id lnum new c
      image_stands c e = stands c (rest_stands (own_causes s v.entry lnum new) (image_causes s bs a id lnum) own ∙ e)

      -- no cause stands
      pub no_cause : first_of (image_causes s bs a id lnum) ≡ None → first_cause s bs a id lnum new ≡ None
      no_cause free = cause_is ∙ rest_stands (own_causes s v.entry lnum new) (image_causes s bs a id lnum) own ∙ free
