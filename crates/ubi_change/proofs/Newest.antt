-- What stays when an eraseblock that wins no LEB that counts becomes the newest good member of a LEB: the winners of
-- the others, and what wins nothing. The old winner no longer wins anything.
use Rattle.ubi_change.proofs.Prelude.{◌≡◌, ◌≢◌, ℕ, ◌+◌, ◌<◌, inl, inr, true, List, length, set, ap, ◌∙◌, subst, arith, cases_eq, option_map_or, Option, Sizes, VidHeader, NoFault, block, Leb, Wins, is_good, sqnum_at, sqnum_in, Wins-unique, Records, Agrees}
use Rattle.ubi_change.proofs.Emptied.{AreBelow}
use Rattle.ubi_change.proofs.MeaningKept.{KeepsLeb, kept_back}
use Rattle.ubi_change.proofs.Mounted.{IsMount, leb_same, mount_named, mounted_clean, mounted_wins}
use Rattle.ubi_change.proofs.Replaced.{block_other, block_same, keeps_others, member_was}
use Rattle.ubi_change.proofs.Unused.{one_name}
use Rattle.ubi_change.proofs.Vacated.{LosesAll}

module _ (s : Sizes) (bs : List (List ℕ)) (b : ℕ) (x : List ℕ) (inside : b < length bs) (of : Leb) (h : VidHeader)
    (seq : ℕ) (agrees : Agrees s seq bs) (mount : IsMount s seq bs of h x) (clean : NoFault s bs) where
  abbrev cs : List (List ℕ)
  cs = set bs b x

  pub newest_clean : NoFault s cs
  newest_clean = mounted_clean s bs b x inside of h seq agrees mount clean

  -- another LEB keeps its winner
  pub others_keep : (other : Leb) → ◌≢◌ {A = Leb} other of → (Wins s bs other b → ⊥) → KeepsLeb s bs cs other
  others_keep other apart loses =
      keeps_others s bs b x inside of other (mount_named s bs b x inside of h seq agrees mount) apart loses

  pub newest_below : AreBelow s cs (h.sqnum + 1)
  newest_below other q k = elim (cases_eq q b) [
    | inl z ↦
        let here : sqnum_at s cs q ≡ h.sqnum =
        ap (λ (j : ℕ). sqnum_in s (block cs j)) z ∙ ap (sqnum_in s) (block_same s bs b x inside)
        ∙ ap (λ (o : Option VidHeader). option_map_or (λ (h : VidHeader). h.sqnum) o 0) mount.is in
        omega arith
    | inr z ↦
        let before = mount.above other q (member_was s bs b x inside other q z k) in
        let there : sqnum_at s cs q ≡ sqnum_at s bs q = ap (sqnum_in s) (block_other s bs b x inside q z) in
        omega arith
  ]

  module _ (good : is_good s x h ≡ true) where
    pub newest_wins : Wins s cs of b
    newest_wins = mounted_wins s bs b x inside of h seq agrees mount good

    -- another eraseblock that wins nothing goes on so
    pub others_lose : (t : Records) → LosesAll s bs t b → (p : ℕ) → p ≢ b → LosesAll s bs t p → LosesAll s cs t p
    others_lose t loses p apart lost other counts w = elim (leb_same other of) [
      | inl z ↦ apart (Wins-unique s cs of p b newest_clean (subst (λ (o : Leb). Wins s cs o p) z w) newest_wins)
      | inr z ↦ lost other counts
          ((kept_back s bs cs newest_clean other (others_keep other z (loses other counts))).winner p w).0
    ]

    -- the old winner wins nothing any more
    pub old_loses : (t : Records) (old : ℕ) → Wins s bs of old → old ≢ b → LosesAll s cs t old
    old_loses t old wins apart other counts w =
        let here = member_was s bs b x inside other old apart w.member in
        let same : other ≡ of = one_name s bs t old other of here wins.member in
        apart (Wins-unique s cs of old b newest_clean (subst (λ (o : Leb). Wins s cs o old) same w) newest_wins)
