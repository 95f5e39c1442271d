-- An eraseblock that wins no LEB that counts becomes the newest member of a LEB that doesn't count: an orphan. Nothing of
-- the meaning changes.
use Rattle.ubi_change.proofs.Prelude.{ℕ, ◌<◌, List, length, set, sym, subst, Sizes, VidHeader, Leb, layout, Agrees, AllBlank, AcceptsBlocks, IsOutside, Meant}
use Rattle.ubi_change.proofs.MeaningKept.{KeepsLeb, accepts_kept}
use Rattle.ubi_change.proofs.Mounted.{IsMount}
use Rattle.ubi_change.proofs.Newest.{newest_clean, others_keep}
use Rattle.ubi_change.proofs.Seq.{NamedBeside}
use Rattle.ubi_change.proofs.Unused.{layout_counts, within_counts}
use Rattle.ubi_change.proofs.Vacated.{LosesAll, seq_set}

module _ (s : Sizes) (bs : List (List ℕ)) (b : ℕ) (x : List ℕ) (inside : b < length bs) (of : Leb) (h : VidHeader)
    (seq : ℕ) (agrees : Agrees s seq bs) (mount : IsMount s seq bs of h x) where
  pub orphaned : (m : Meant) (a : AcceptsBlocks s bs m) → (AllBlank s bs → ⊥) → NamedBeside s seq bs b
      → LosesAll s bs a.records b → IsOutside a.records of → AcceptsBlocks s (set bs b x) m
  orphaned m a used beside loses outside =
      let kept : (other : Leb) → (IsOutside a.records other → ⊥) → KeepsLeb s bs (set bs b x) other =
      λ other counts. others_keep s bs b x inside of h seq agrees mount a.clean other
      (λ e. counts (subst (IsOutside a.records) (sym e) outside)) (loses other counts) in
      accepts_kept s bs (set bs b x) (newest_clean s bs b x inside of h seq agrees mount a.clean) m a used
      (seq_set s bs b x inside seq agrees beside mount.image)
      (λ c. kept (layout, c) (layout_counts a.records c))
      (λ vol r recorded lnum within. kept (vol, lnum) (within_counts a.records vol r lnum recorded within))
