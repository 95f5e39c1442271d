-- A good copy of the table stands on an eraseblock that won nothing: it wins, and each other LEB that counts keeps its
-- winner.
use Rattle.ubi_change.proofs.Prelude.{◌≡◌, ◌≢◌, ℕ, ◌<◌, List, length, set, ap, ◌∙◌, arith, Some, IsGeometry, Sizes, VolumeRecord, VidHeader, NoFault, block, leb, Leb, Wins, layout, Agrees, copy_of, IsOutside, Meant, records_of, meant_by, volume_is, table_pages, IsMeaning, get, records_are}
use Rattle.std.specs.FinMap as finite
use Rattle.ubi_table.specs.declared.copy.CopyRead.TheVariants as copy
use Rattle.ubi_change.proofs.CopyReplaced.{IsGoodCopy}
use Rattle.ubi_change.proofs.MeaningKept.{KeepsLeb, KeepsVolumes}
use Rattle.ubi_change.proofs.Newest.{newest_clean, newest_wins, others_keep}
use Rattle.ubi_change.proofs.Replaced.{block_same}
use Rattle.ubi_change.proofs.TablePages.{pages_read}
use Rattle.ubi_change.proofs.Unused.{layout_counts, within_counts}
use Rattle.ubi_change.proofs.Vacated.{LosesAll}

module _ (s : Sizes) (g : IsGeometry s) (bs : List (List ℕ)) (clean : NoFault s bs) (n : Meant) (sizes : n.sizes ≡ s)
    (is : IsMeaning n) (b : ℕ) (inside : b < length bs) (seq : ℕ) (agrees : Agrees s seq bs)
    (loses : LosesAll s bs (records_of n) b) (c : ℕ) (h : VidHeader) (x : List ℕ)
    (k : IsGoodCopy s seq bs (layout, c) h (table_pages s (records_of n)) x) where
  abbrev pub cs : List (List ℕ)
  cs = set bs b x

  pub copied_clean : NoFault s cs
  copied_clean = newest_clean s bs b x inside (layout, c) h seq agrees k.mount clean

  pub copied_wins : Wins s cs (layout, c) b
  copied_wins = newest_wins s bs b x inside (layout, c) h seq agrees k.mount clean k.good

  -- it reads the records of the meaning
  pub copied_reads : copy_of s (leb s (block cs b)) ≡ copy.Good (records_of n)
  copied_reads = ap (λ y. copy_of s (leb s y)) (block_same s bs b x inside) ∙ pages_read s g (records_of n) sizes (records_are n is) x _ k.text

  keeps_other : (of : Leb) → ◌≢◌ {A = Leb} of (layout, c) → (IsOutside (records_of n) of → ⊥) → KeepsLeb s bs cs of
  keeps_other of other counts =
      others_keep s bs b x inside (layout, c) h seq agrees k.mount clean of other (loses of counts)

  -- the other copy stays
  pub copied_keeps : (d : ℕ) → d ≢ c → KeepsLeb s bs cs (layout, d)
  copied_keeps d apart = keeps_other (layout, d) (λ z. apart (ap (λ (y : Leb). y.1) z)) (layout_counts (records_of n) d)

  user : (vol : ℕ) (q : VolumeRecord) → finite.get (records_of n).of vol ≡ Some q → vol ≢ layout
  user vol q recorded z =
      let v = meant_by n vol q recorded in
      let l = (volume_is n is vol v.0 v.1).slot in
      omega arith

  -- and so do all volumes
  pub copied_volumes : KeepsVolumes s bs cs (records_of n)
  copied_volumes vol q recorded lnum within =
      keeps_other (vol, lnum) (λ z. user vol q recorded (ap (λ (y : Leb). y.0) z))
      (within_counts (records_of n) vol q lnum recorded within)
