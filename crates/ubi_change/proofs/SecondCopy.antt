-- Copy 1 of the table is rewritten after copy 0: the meaning stays, and then both copies are good.
use Rattle.ubi_change.proofs.Prelude.{◌≡◌, ◌≢◌, ℕ, suc, ◌+◌, ◌<◌, List, [], ◌∷◌, ◌++◌, length, set, ap, ◌∙◌, subst, arith, length-set, IsGeometry, Sizes, EcHeader, VidHeader, NoFault, block, leb, Wins, layout, Records, copy_of, AcceptsBlocks, Meant, records_of, records_meant, program_header, program_text, BothGood, layout_header, table_pages, pages_needed, Step, release, pages_of}
use Rattle.ubi_table.specs.declared.copy.CopyRead.TheVariants as copy
use Rattle.ubi_change.specs.declared.step.Step.TheVariants as step
use Rattle.ubi_change.proofs.TornCopy.{EitherAt, erase_torn}
use Rattle.ubi_change.proofs.TornRuns.{AtEachTear, TearIs}
use Rattle.ubi_change.proofs.Copied.{IsCopy}
use Rattle.ubi_change.proofs.CopyReplaced.{IsGoodCopy, IsPrepared, IsRelease, replaced, replaced_tears}
use Rattle.ubi_change.proofs.Emptied.{emptied_keeps}
use Rattle.ubi_change.proofs.FirstCopy.{IsHalfway}
use Rattle.ubi_change.proofs.TableAccepted.{accepted_reads, meant_fit, reads_kept, table_accepted, table_by_first}
use Rattle.ubi_change.proofs.Newest.{old_loses}
use Rattle.ubi_change.proofs.TableCopied.{copied_clean, copied_keeps, copied_reads, copied_volumes, copied_wins}
use Rattle.ubi_change.proofs.Runs.{TurnsAt}
use Rattle.ubi_change.proofs.Seq.{NamedBeside}
use Rattle.ubi_change.proofs.Unused.{layout_counts, used_by_winner}
use Rattle.ubi_change.proofs.Vacated.{IsVacant, LosesAll, agrees_set, seq_set, vacated}

-- they mean n, and both copies are good
pub record IsWhollyNamed (s : Sizes) (n : Meant) (cs : List (List ℕ)) : Type 0 where
  pub accepted : AcceptsBlocks s cs n
  pub both : BothGood s cs (records_of n)

module _ (s : Sizes) (g : IsGeometry s) (os : List (List ℕ)) (n : Meant) (b0 b1 old1 seq sqnum : ℕ)
    (bs : List (List ℕ)) (half : IsHalfway s os seq n b0 old1 b1 sqnum bs) (inside : b1 < length bs)
    (beside1 : NamedBeside s seq bs b1)
    (bytes : List ℕ) (e : EcHeader)
    (c : IsCopy s bs seq (layout, 1) bytes e (layout_header 1 sqnum (table_pages s (records_of n)))
    (table_pages s (records_of n))) where
  abbrev new : List ℕ
  new = table_pages s (records_of n)

  abbrev header : VidHeader
  header = layout_header 1 sqnum new

  a : AcceptsBlocks s bs n
  a = half.accepted

  same : records_of n ≡ a.records
  same = records_meant s bs a.records n a.table a.means

  old_apart : old1 ≢ b1
  old_apart z = half.loses (layout, 1) (layout_counts (records_of n) 1)
      (subst (Wins s bs (layout, 1)) z half.wins_second)

  module _ (x : List ℕ) (k : IsGoodCopy s seq bs (layout, 1) header new x) where
    abbrev cs : List (List ℕ)
    cs = set bs b1 x

    clean : NoFault s cs
    clean = copied_clean s g bs a.clean n a.means.sizes a.means.meaning b1 inside seq half.agrees half.loses 1 header x k

    wins : Wins s cs (layout, 1) b1
    wins = copied_wins s g bs a.clean n a.means.sizes a.means.meaning b1 inside seq half.agrees half.loses 1 header x k

    first : Wins s cs (layout, 0) b0 × (block cs b0 ≡ block bs b0)
    first = (copied_keeps s g bs a.clean n a.means.sizes a.means.meaning b1 inside seq half.agrees half.loses 1 header x k
        0 (λ z. omega arith)).winner b0 half.wins_first

    first_good : copy_of s (leb s (block cs b0)) ≡ copy.Good (records_of n)
    first_good = ap (λ y. copy_of s (leb s y)) first.1 ∙ half.good

    second_good : copy_of s (leb s (block cs b1)) ≡ copy.Good (records_of n)
    second_good = copied_reads s g bs a.clean n a.means.sizes a.means.meaning b1 inside seq half.agrees half.loses 1 header
        x k

    pub whole_copied : IsWhollyNamed s n cs
    whole_copied = record {
      accepted = table_accepted s cs n clean
          (table_by_first s cs b0 (records_of n) first.0 first_good (meant_fit s n a.means.sizes a.means.meaning))
          (reads_kept s bs cs n clean (seq_set s bs b1 x inside seq half.agrees beside1 k.mount.image)
          (copied_volumes s g bs a.clean n a.means.sizes a.means.meaning b1 inside seq half.agrees half.loses 1 header x
          k) (accepted_reads s bs n a));
      both = ((b0, first.0, first_good), (b1, wins, second_good));
    }

    old_inside : old1 < length cs
    old_inside = let l = half.wins_second.member.inside in omega (arith, length-set bs b1 x)

    lost : LosesAll s cs (records_of n) old1
    lost = old_loses s bs b1 x inside (layout, 1) header seq half.agrees k.mount a.clean k.good (records_of n) old1
        half.wins_second old_apart

    pub whole_emptied : (y : List ℕ) → NamedBeside s seq cs old1 → IsVacant s seq y → IsWhollyNamed s n (set cs old1 y)
    whole_emptied y beside v =
        let w = whole_copied in
        let one = (emptied_keeps s cs old1 y old_inside seq v (records_of n) lost (layout, 0)
        (layout_counts (records_of n) 0)).winner b0 first.0 in
        let two = (emptied_keeps s cs old1 y old_inside seq v (records_of n) lost (layout, 1)
        (layout_counts (records_of n) 1)).winner b1 wins in
        record {
          accepted = vacated s cs old1 y old_inside seq n w.accepted (used_by_winner s cs (layout, 1) b1 wins)
              (agrees_set s bs b1 x inside seq half.agrees beside1 k.mount.image) beside
              (subst (λ (t : Records). LosesAll s cs t old1)
              (records_meant s cs w.accepted.records n w.accepted.table w.accepted.means) lost) v;
          both = (
            (b0, one.0, ap (λ y. copy_of s (leb s y)) one.1 ∙ first_good),
            (b1, two.0, ap (λ y. copy_of s (leb s y)) two.1 ∙ second_good),
          );
        }

  pub second_turns : (prep rel : List Step) → IsPrepared s bs n b1 seq prep bytes e → IsRelease s bs old1 seq rel
      → TurnsAt s (λ x. AcceptsBlocks s x n) (IsWhollyNamed s n) bs
      ((prep ++ program_header s b1 bytes header ∷ []) ++ program_text s b1 new ++ rel)
      (length prep + suc (pages_needed s new))
  second_turns prep rel prepared release =
      replaced s g bs n a (used_by_winner s bs (layout, 0) b0 half.wins_first) (layout, 1) (layout_counts a.records 1)
      b1 inside seq half.agrees beside1 (subst (λ (t : Records). LosesAll s bs t b1) same half.loses) prep bytes e
      prepared header new c old1 half.wins_second rel release (IsWhollyNamed s n) whole_copied
      (λ x y k beside v. whole_emptied x k y beside v)

  -- if the power fails during any step, the meaning stays
  pub second_tears : (prep rel : List Step) → IsPrepared s bs n b1 seq prep bytes e → IsRelease s bs old1 seq rel
      → AtEachTear s (EitherAt (λ x. AcceptsBlocks s x n) (λ x. AcceptsBlocks s x n)
      (length prep + suc (pages_needed s new)) (length prep + suc (pages_of s new))) bs
      ((prep ++ program_header s b1 bytes header ∷ []) ++ program_text s b1 new ++ rel)
  second_tears prep rel prepared release =
      replaced_tears s g bs n a (used_by_winner s bs (layout, 0) b0 half.wins_first) (layout, 1)
      (layout_counts a.records 1) b1 inside seq half.agrees beside1
      (subst (λ (t : Records). LosesAll s bs t b1) same half.loses) prep bytes e
      prepared header new c old1 half.wins_second rel release (λ x. AcceptsBlocks s x n)
      (λ x k. (whole_copied x k).accepted) (λ x y k beside v. (whole_emptied x k y beside v).accepted) torn_old
    where
      torn_old : (x t : List ℕ) → IsGoodCopy s seq bs (layout, 1) header new x → NamedBeside s seq (set bs b1 x) old1
          → TearIs s (λ f x. AcceptsBlocks s x n) (set bs b1 x) (step.Erase old1) t
      torn_old x t k near =
          let w = whole_copied x k in
          erase_torn s g (set bs b1 x) n w.accepted old1 seq (old_inside x k)
          (used_by_winner s (set bs b1 x) (layout, 1) b1 (wins x k))
          (agrees_set s bs b1 x inside seq half.agrees beside1 k.mount.image) near
          (old_loses s bs b1 x inside (layout, 1) header seq half.agrees k.mount a.clean k.good w.accepted.records old1
          half.wins_second old_apart) t
