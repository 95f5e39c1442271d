-- A plan works on no listed eraseblock: what is taken isn't listed, and what holds a copy isn't Blank.
use Rattle.ubi_change.proofs.Prelude.{◌≡◌, ℕ, zero, suc, Bool, false, List, [], ◌∷◌, get_or, refl, ap, ◌∙◌, arith, None, Option, Some, find, option_map, option_or, slice_index, slice_get-get_or, none_passes, Sizes, Image, eraseblocks, of_blocks, layout, found_wins, IsSurvey, Seen, AttachValue, records_of, avoiding, Avoided, ReadBlank, is_listed, states_avoiding, takeable, Site, AreHolders, first_taken, site_at, UpdatePlan, IsBeside, listed_in, listed_site, none_found, All}
use Rattle.std.specs.FinMap as finite
use Rattle.ubi_change.proofs.AvoidedKept.{taken_may, winner_may}
use Rattle.ubi_change.proofs.Choosing.{may_be_taken}
use Rattle.ubi_change.proofs.Sited.{taken_at}
use Rattle.ubi_change.proofs.Surveys.{whole}

module _ (marks : List Bool) where
  abbrev test : Site → Bool
  test t = is_listed marks t.pnum

  abbrev NoneListed : List Site → Type 0
  NoneListed ts = All (λ t. test t ≡ false) ts

  none_in : (o : Option Site) → option_map (λ t. t.pnum) o ≡ None → o ≡ None
  none_in None e = refl
  none_in (Some t) e = absurd (cc)

  unlisted : (ts : List Site) → listed_site marks ts ≡ None → NoneListed ts
  unlisted ts e = none_passes test ts (none_in (find test ts) e)

  none_of : (ts : List Site) → NoneListed ts → listed_site marks ts ≡ None
  none_of ts h = ap (option_map (λ t. t.pnum)) (none_found test ts h)

  neither : (o p : Option ℕ) → option_or o p ≡ None → (o ≡ None) × (p ≡ None)
  neither None p e = (refl, e)
  neither (Some x) p e = absurd (cc)

  two : (t u : Site) → test t ≡ false → test u ≡ false → NoneListed (t ∷ u ∷ [])
  two t u a b zero d l = a
  two t u a b (suc zero) d l = b
  two t u a b (suc (suc k)) d l = absurd (omega arith)

  module _ (p : UpdatePlan) where
    -- if no listed one is found, there is none
    pub beside_is : listed_in marks p ≡ None → IsBeside marks p
    beside_is e =
        let h = neither (listed_site marks p.sites.items) (listed_site marks (p.holders.first ∷ p.holders.second ∷ [])) e in
        let held = unlisted (p.holders.first ∷ p.holders.second ∷ []) h.1 in
        record {
          sites = unlisted p.sites.items h.0;
          first = held 0 p.holders.first (omega arith);
          second = held 1 p.holders.second (omega arith);
        }

    -- and the other way round
    pub none_is : IsBeside marks p → listed_in marks p ≡ None
    none_is h =
        ap (λ o. option_or o (listed_site marks (p.holders.first ∷ p.holders.second ∷ []))) (none_of p.sites.items h.sites)
        ∙ none_of (p.holders.first ∷ p.holders.second ∷ []) (two p.holders.first p.holders.second h.first h.second)

    pub never_in : IsBeside marks p → (x : ℕ) → listed_in marks p ≡ Some x → ⊥
    never_in h x e = let f = none_is h in absurd (cc)

-- the eraseblocks of an image that holds still
module _ (image : Image) (av : Avoided) (seen : Seen) (is : IsSurvey image seen) (blank : of_blocks ReadBlank image av) where
  abbrev s : Sizes
  s = image.sizes

  abbrev bs : List (List ℕ)
  bs = eraseblocks image

  -- the image as the plan sees it
  abbrev a : AttachValue
  a = avoiding av (whole image seen is)

  taken_beside : (n : ℕ) (ts : List Site) → ts ≡ first_taken s bs a.states n → All (λ t. is_listed av.marks t.pnum ≡ false) ts
  taken_beside n ts are k d l =
      let t : Site = get_or ts k d in
      let h = taken_at (site_at s bs a.states) (takeable s bs a.states) n k ts t are (slice_get-get_or ts k d l) in
      let away = taken_may image av (whole image seen is) is.attached blank (slice_index (takeable s bs a.states) k)
      (may_be_taken s bs a.states k h.0) in
      ap (λ (t : Site). is_listed av.marks t.pnum) h.1 ∙ away.0

  holder_beside : (c p : ℕ) (t : Site) → finite.get seen.scan.winners (layout, c) ≡ Some p → t ≡ site_at s bs a.states p
      → is_listed av.marks t.pnum ≡ false
  holder_beside c p t e same =
      ap (λ (t : Site). is_listed av.marks t.pnum) same
      ∙ (winner_may s bs av (records_of is.meaning) (layout, c) p blank (found_wins s bs seen.scan is.attached.scan (layout, c) p e)).0

  pub survey_beside : (p : UpdatePlan) (n : ℕ) → AreHolders s bs av seen (Some p.holders)
      → p.sites.items ≡ first_taken s bs (states_avoiding av seen.states) n → IsBeside av.marks p
  survey_beside p n held are = record {
    sites = taken_beside n p.sites.items are;
    first = holder_beside 0 held.1.0 p.holders.first held.1.1 held.1.2;
    second = holder_beside 1 held.2.0 p.holders.second held.2.1 held.2.2;
  }
