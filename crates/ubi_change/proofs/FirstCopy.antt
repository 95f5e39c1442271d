-- Copy 0 of the table is rewritten: before the commit point the old is meant, and from it on what the eraseblocks read as
-- by the new table, by copy 0 alone.
use Rattle.ubi_change.proofs.Prelude.{◌≡◌, ◌≢◌, ℕ, suc, ◌+◌, ◌<◌, List, [], ◌∷◌, ◌++◌, length, set, ap, sym, ◌∙◌, subst, arith, length-set, IsGeometry, Sizes, EcHeader, VidHeader, NoFault, block, leb, Leb, Wins, layout, Records, copy_of, AcceptsBlocks, IsOutside, Meant, records_of, records_meant, program_header, program_text, layout_header, table_pages, pages_needed, Step, Agrees, pages_of}
use Rattle.ubi_table.specs.declared.copy.CopyRead.TheVariants as copy
use Rattle.ubi_change.specs.declared.step.Step.TheVariants as step
use Rattle.ubi_change.proofs.TornCopy.{EitherAt, erase_torn}
use Rattle.ubi_change.proofs.TornRuns.{AtEachTear, TearIs}
use Rattle.ubi_change.proofs.Copied.{IsCopy}
use Rattle.ubi_change.proofs.CopyReplaced.{IsGoodCopy, IsPrepared, IsRelease, ends_beside, replaced, replaced_tears}
use Rattle.ubi_change.proofs.Emptied.{AreBelow, emptied_below, emptied_keeps, emptied_loses}
use Rattle.ubi_change.proofs.MeaningKept.{KeepsLeb}
use Rattle.ubi_change.proofs.TableAccepted.{ReadsAs, meant_fit, reads_kept, table_accepted, table_by_first}
use Rattle.ubi_change.proofs.Newest.{newest_below, old_loses, others_lose}
use Rattle.ubi_change.proofs.TableCopied.{copied_clean, copied_keeps, copied_reads, copied_volumes, copied_wins}
use Rattle.ubi_change.proofs.Replaced.{block_other}
use Rattle.ubi_change.proofs.Runs.{TurnsAt, done}
use Rattle.ubi_change.proofs.Seq.{NamedBeside}
use Rattle.ubi_change.proofs.Unused.{layout_counts, used_by_winner}
use Rattle.ubi_change.proofs.Vacated.{IsVacant, LosesAll, agrees_set, seq_set, vacated}

-- what holds of eraseblocks cs from the turn on until copy 1 is begun: they mean n by copy 0, which stands in `first`;
-- copy 1 still stands in `second`, and the eraseblock that it will be written on wins nothing and is as it was
pub record IsHalfway (s : Sizes) (bs : List (List ℕ)) (seq : ℕ) (n : Meant) (first second next limit : ℕ)
    (cs : List (List ℕ)) : Type 0 where
  pub accepted : AcceptsBlocks s cs n
  pub wins_first : Wins s cs (layout, 0) first
  pub good : copy_of s (leb s (block cs first)) ≡ copy.Good (records_of n)
  pub wins_second : Wins s cs (layout, 1) second
  pub loses : LosesAll s cs (records_of n) next
  pub agrees : Agrees s seq cs
  pub below : AreBelow s cs limit
  pub size : length cs ≡ length bs
  pub same : block cs next ≡ block bs next

-- so after an eraseblock that wins nothing is emptied
module _ (s : Sizes) (bs : List (List ℕ)) (seq : ℕ) (n : Meant) (first second next limit : ℕ) (cs : List (List ℕ))
    (h : IsHalfway s bs seq n first second next limit cs) (p : ℕ) (x : List ℕ) (inside : p < length cs)
    (apart : next ≢ p) (beside : NamedBeside s seq cs p) (lost : LosesAll s cs (records_of n) p)
    (v : IsVacant s seq x) where
  keeps : (of : Leb) → (IsOutside (records_of n) of → ⊥) → KeepsLeb s cs (set cs p x) of
  keeps = emptied_keeps s cs p x inside seq v (records_of n) lost

  still_accepted : AcceptsBlocks s (set cs p x) n
  still_accepted =
      vacated s cs p x inside seq n h.accepted (used_by_winner s cs (layout, 0) first h.wins_first) h.agrees
      beside (subst (λ (t : Records). LosesAll s cs t p)
      (records_meant s cs h.accepted.records n h.accepted.table h.accepted.means) lost) v

  pub halfway_emptied : IsHalfway s bs seq n first second next limit (set cs p x)
  halfway_emptied =
      let one = (keeps (layout, 0) (layout_counts (records_of n) 0)).winner first h.wins_first in
      let two = (keeps (layout, 1) (layout_counts (records_of n) 1)).winner second h.wins_second in
      record {
        accepted = still_accepted;
        wins_first = one.0;
        good = ap (λ b. copy_of s (leb s b)) one.1 ∙ h.good;
        wins_second = two.0;
        loses = emptied_loses s cs p x inside seq v (records_of n) lost still_accepted.clean next h.loses;
        agrees = agrees_set s cs p x inside seq h.agrees beside v.image;
        below = emptied_below s cs p x inside seq v (records_of n) lost limit h.below;
        size = length-set cs p x ∙ h.size;
        same = block_other s cs p x inside next apart ∙ h.same;
      }

module _ (s : Sizes) (g : IsGeometry s) (bs : List (List ℕ)) (m n : Meant) (a : AcceptsBlocks s bs m)
    (r : ReadsAs s bs n) (b0 b1 old0 old1 : ℕ) (inside : b0 < length bs) (apart : b1 ≢ b0) (seq : ℕ)
    (agrees : Agrees s seq bs) (beside0 : NamedBeside s seq bs b0) (loses0 : LosesAll s bs (records_of m) b0)
    (lost0 : LosesAll s bs (records_of n) b0) (lost1 : LosesAll s bs (records_of n) b1)
    (wins0 : Wins s bs (layout, 0) old0) (wins1 : Wins s bs (layout, 1) old1)
    (sqnum : ℕ) (bytes : List ℕ) (e : EcHeader)
    (c : IsCopy s bs seq (layout, 0) bytes e (layout_header 0 sqnum (table_pages s (records_of n)))
    (table_pages s (records_of n))) where
  abbrev new : List ℕ
  new = table_pages s (records_of n)

  abbrev header : VidHeader
  header = layout_header 0 sqnum new

  abbrev IsHalf : List (List ℕ) → Type 0
  IsHalf = IsHalfway s bs seq n b0 old1 b1 (sqnum + 1)

  same : records_of m ≡ a.records
  same = records_meant s bs a.records m a.table a.means

  -- the new eraseblocks win nothing, and so not a copy
  old_apart : old0 ≢ b0
  old_apart z = lost0 (layout, 0) (layout_counts (records_of n) 0) (subst (Wins s bs (layout, 0)) z wins0)

  next_apart : b1 ≢ old0
  next_apart z = lost1 (layout, 0) (layout_counts (records_of n) 0) (subst (Wins s bs (layout, 0)) (sym z) wins0)

  -- with a good copy 0
  module _ (x : List ℕ) (k : IsGoodCopy s seq bs (layout, 0) header new x) where
    abbrev cs : List (List ℕ)
    cs = set bs b0 x

    clean : NoFault s cs
    clean = copied_clean s g bs a.clean n r.means.sizes r.means.meaning b0 inside seq agrees lost0 0 header x k

    wins : Wins s cs (layout, 0) b0
    wins = copied_wins s g bs a.clean n r.means.sizes r.means.meaning b0 inside seq agrees lost0 0 header x k

    good : copy_of s (leb s (block cs b0)) ≡ copy.Good (records_of n)
    good = copied_reads s g bs a.clean n r.means.sizes r.means.meaning b0 inside seq agrees lost0 0 header x k

    accepted : AcceptsBlocks s cs n
    accepted = table_accepted s cs n clean
        (table_by_first s cs b0 (records_of n) wins good (meant_fit s n r.means.sizes r.means.meaning))
        (reads_kept s bs cs n clean (seq_set s bs b0 x inside seq agrees beside0 k.mount.image)
        (copied_volumes s g bs a.clean n r.means.sizes r.means.meaning b0 inside seq agrees lost0 0 header x k) r)

    pub half_copied : IsHalf cs
    half_copied = record {
      accepted = accepted;
      wins_first = wins;
      good = good;
      wins_second = ((copied_keeps s g bs a.clean n r.means.sizes r.means.meaning b0 inside seq agrees lost0 0 header x
          k 1 (λ z. omega arith)).winner old1 wins1).0;
      loses = others_lose s bs b0 x inside (layout, 0) header seq agrees k.mount a.clean k.good (records_of n) lost0 b1
          apart lost1;
      agrees = agrees_set s bs b0 x inside seq agrees beside0 k.mount.image;
      below = newest_below s bs b0 x inside (layout, 0) header seq agrees k.mount a.clean;
      size = length-set bs b0 x;
      same = block_other s bs b0 x inside b1 apart;
    }

    pub half_emptied : (y : List ℕ) → NamedBeside s seq cs old0 → IsVacant s seq y → IsHalf (set cs old0 y)
    half_emptied y beside v =
        halfway_emptied s bs seq n b0 old1 b1 (sqnum + 1) cs half_copied old0 y
        (let l = wins0.member.inside in omega (arith, length-set bs b0 x)) next_apart beside
        (old_loses s bs b0 x inside (layout, 0) header seq agrees k.mount a.clean k.good (records_of n) old0 wins0
        old_apart)
        v

  module _ (prep rel : List Step) (prepared : IsPrepared s bs m b0 seq prep bytes e)
      (release : IsRelease s bs old0 seq rel) where
    pub first_turns : TurnsAt s (λ x. AcceptsBlocks s x m) IsHalf bs
        ((prep ++ program_header s b0 bytes header ∷ []) ++ program_text s b0 new ++ rel)
        (length prep + suc (pages_needed s new))
    first_turns =
        replaced s g bs m a (used_by_winner s bs (layout, 0) old0 wins0) (layout, 0) (layout_counts a.records 0) b0
        inside seq agrees beside0 (subst (λ (t : Records). LosesAll s bs t b0) same loses0) prep bytes e prepared header
        new c old0 wins0 rel release IsHalf half_copied (λ x y k beside v. half_emptied x k y beside v)

    -- at its end the image is named beside an eraseblock, if it was before
    pub first_beside : (p : ℕ) → NamedBeside s seq bs p
        → NamedBeside s seq
        (done s bs ((prep ++ program_header s b0 bytes header ∷ []) ++ program_text s b0 new ++ rel)) p
    first_beside =
        ends_beside s g bs m a (used_by_winner s bs (layout, 0) old0 wins0) (layout, 0) (layout_counts a.records 0) b0
        inside seq agrees beside0 (subst (λ (t : Records). LosesAll s bs t b0) same loses0) prep bytes e prepared header
        new c old0 wins0 rel release IsHalf half_copied (λ x y k beside v. half_emptied x k y beside v)

    -- if the power fails during any step, the old is meant before the turn, and what they read as by the new table from it on
    pub first_tears : AtEachTear s (EitherAt (λ x. AcceptsBlocks s x m) (λ x. AcceptsBlocks s x n)
        (length prep + suc (pages_needed s new)) (length prep + suc (pages_of s new))) bs
        ((prep ++ program_header s b0 bytes header ∷ []) ++ program_text s b0 new ++ rel)
    first_tears =
        replaced_tears s g bs m a (used_by_winner s bs (layout, 0) old0 wins0) (layout, 0) (layout_counts a.records 0) b0
        inside seq agrees beside0 (subst (λ (t : Records). LosesAll s bs t b0) same loses0) prep bytes e prepared header
        new c old0 wins0 rel release (λ x. AcceptsBlocks s x n) (λ x k. (half_copied x k).accepted)
        (λ x y k beside v. (half_emptied x k y beside v).accepted) torn_old
      where
        torn_old : (x t : List ℕ) → IsGoodCopy s seq bs (layout, 0) header new x → NamedBeside s seq (set bs b0 x) old0
            → TearIs s (λ f x. AcceptsBlocks s x n) (set bs b0 x) (step.Erase old0) t
        torn_old x t k near =
            let h = half_copied x k in
            erase_torn s g (set bs b0 x) n h.accepted old0 seq
            (let l = wins0.member.inside in omega (arith, length-set bs b0 x))
            (used_by_winner s (set bs b0 x) (layout, 0) b0 h.wins_first) h.agrees near
            (old_loses s bs b0 x inside (layout, 0) header seq agrees k.mount a.clean k.good h.accepted.records old0 wins0
            old_apart) t
