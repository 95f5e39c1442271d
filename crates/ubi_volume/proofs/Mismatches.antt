-- Winners that are unlike their records, by their headers.
use Rattle.ubi_volume.proofs.Prelude.{◌≡◌, ℕ, ◌+◌, ◌<◌, inl, inr, Bool, false, List, ap, sym, ◌∙◌, subst, ◌↔◌, IsTrue, Some, None, same_Some, Sizes, VolumeRecord, VidHeader, below_or_last, block, Leb, Wins, leb_of, member, kept_header, Records, IsMismatched, IsUnlike, IsWithin, Disagrees}
use Rattle.std.specs.FinMap as finite
use Rattle.ubi_volume.proofs.Winners.{named_by, no_some}

-- a test that answers what doesn't hold is false
pub never : {A : Type 0} → (A → ⊥) → IsTrue false ↔ A
never h = (λ e. absurd (cc), λ a. absurd (h a))

pub not_true : (b : Bool) → b ≡ false → IsTrue b → ⊥
not_true b e t = cc

module _ (s : Sizes) (bs : List (List ℕ)) (t : Records) where
  pub no_winner_no_mismatch : (p : ℕ) → ((of : Leb) → Wins s bs of p → ⊥) → IsMismatched s bs t p → ⊥
  no_winner_no_mismatch p none m = none (m.2.vol, m.2.lnum) m.2.wins

  module _ (p : ℕ) (h : VidHeader) (e : member s (block bs p) ≡ Some h) (w : Wins s bs (leb_of h) p) where
    named : (m : IsMismatched s bs t p) → (m.2.vol, m.2.lnum) ≡ leb_of h
    named m = named_by s bs (m.2.vol, m.2.lnum) p h m.2.wins.member e

    recorded_as : (m : IsMismatched s bs t p) → finite.get t.of h.vol_id ≡ Some m.0
    recorded_as m = ap (λ of. finite.get t.of of.0) (sym (named m)) ∙ m.2.recorded

    pub no_record_no_mismatch : finite.get t.of h.vol_id ≡ None → IsMismatched s bs t p → ⊥
    no_record_no_mismatch none m = no_some m.0 (sym none ∙ recorded_as m)

    pub mismatch_by_header : (r : VolumeRecord) → finite.get t.of h.vol_id ≡ Some r → Disagrees s r (kept_header h)
        ↔ IsMismatched s bs t p
    mismatch_by_header r got = (
      λ d. (r, h, record { vol = h.vol_id; lnum = h.lnum; wins = w; recorded = got; within = d.1 }, d.0, e, d.2),
      λ m.
          let same : m.0 ≡ r = same_Some m.0 r (sym (recorded_as m) ∙ got) in
          let header : m.1 ≡ h = same_Some m.1 h (sym m.4 ∙ e) in
          let within : IsWithin m.0 h.lnum = subst (λ (of : Leb). IsWithin m.0 of.1) (named m) m.2.within in
          subst (λ (r : VolumeRecord). Disagrees s r (kept_header h)) same
          (m.3, within, subst (λ (k : VidHeader). IsUnlike s m.0 k) header m.5),
    )

  -- no eraseblock below n is mismatched
  abbrev pub NoneBelow : ℕ → Type 0
  NoneBelow n = (q : ℕ) → q < n → IsMismatched s bs t q → ⊥

  pub none_more : (n : ℕ) (b : Bool) → b ≡ false → IsTrue b ↔ IsMismatched s bs t n → NoneBelow n → NoneBelow (n + 1)
  none_more n b e h below q l m = elim (below_or_last q n l) [
    | inl less ↦ below q less m
    | inr same ↦ not_true b e (h.1 (subst (IsMismatched s bs t) same m))
  ]
