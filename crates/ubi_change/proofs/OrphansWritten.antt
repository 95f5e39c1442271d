-- Some orphans are written: the meaning stays at each cut, each orphan wins its LEB, and the other LEBs keep their winners.
use Rattle.ubi_change.proofs.Prelude.{◌≡◌, ◌≢◌, ℕ, zero, suc, ◌+◌, ◌-◌, ◌<◌, ◌≤◌, List, [], ◌∷◌, ◌++◌, length, refl, ap, sym, ◌∙◌, subst, arith, Some, blank, IsGeometry, Sizes, Image, eraseblocks, block, leb, Leb, Wins, Wins-unique, fold-append, leb_of, member, AcceptsBlocks, AttachValue, IsOutside, Records, records_of, EcHeader, ec_reading, filled, prepare, programs_copy, ready_bytes, ready_ec, set, taken, takeable, step_done, lay, lay_all, numbered, trimmed, Laid, AreApart, IsNoneOf, AllByRecursion}
use Rattle.ubi_change.proofs.Choosing.{all_apart}
use Rattle.ubi_media.specs.declared.ec.EcRead.TheVariants as ec_read
use Rattle.ubi_change.proofs.CopyReplaced.{IsPrepared}
use Rattle.ubi_change.proofs.OrphanWritten as one
use Rattle.ubi_change.proofs.OrphanWritten.{IsFilling, IsWritable}
use Rattle.ubi_change.proofs.MeaningKept.{KeepsLeb, kept_back}
use Rattle.ubi_change.proofs.PlanPremises.{IsShown}
use Rattle.ubi_change.proofs.Runs.{AtEachCut, cuts-append, done}
use Rattle.ubi_change.proofs.TornRuns.{AtEachTear, no_tears, tears-append}
use Rattle.ubi_change.proofs.Turned.{AllFail, fail-append}

-- what is kept twice is kept
pub keeps_twice : (s : Sizes) (bs cs ds : List (List ℕ)) (of : Leb) → KeepsLeb s bs cs of → KeepsLeb s cs ds of
    → KeepsLeb s bs ds of
keeps_twice s bs cs ds of k l = record {
  winner = λ p w. (let x = k.winner p w in let y = l.winner p x.0 in (y.0, y.1 ∙ x.1));
  none = λ n. l.none (k.none n);
}

module _ (s : Sizes) (bs : List (List ℕ)) (a : AttachValue) where
  -- each can be written
  abbrev pub AreWritable : ℕ → List Laid → Type 0
  AreWritable k [] = Unit {0}
  AreWritable k (l ∷ ls) = IsWritable s (numbered s bs a k l) (trimmed s l.text) × AreWritable (k + 1) ls

  -- an eraseblock that was taken holds a LEB
  pub record Holds (cs : List (List ℕ)) (k : ℕ) (l : Laid) : Type 0 where
    pub wins : Wins s cs (leb_of l.header) (taken s bs a k)
    pub header : member s (block cs (taken s bs a k)) ≡ Some (numbered s bs a k l)
    pub reads : leb s (block cs (taken s bs a k))
        ≡ trimmed s l.text ++ blank (s.peb_size - (s.data_offset + length (trimmed s l.text)))

  abbrev pub AllHeld : List (List ℕ) → ℕ → List Laid → Type 0
  AllHeld cs k [] = Unit {0}
  AllHeld cs k (l ∷ ls) = Holds cs k l × AllHeld cs (k + 1) ls

  -- each eraseblock is there, and is made ready by the steps before its header
  abbrev pub AreReady : List (List ℕ) → ℕ → List Laid → Type 0
  AreReady cs k [] = Unit {0}
  AreReady cs k (l ∷ ls) =
      (taken s bs a k < length cs) × (length (ready_bytes s bs a (taken s bs a k)) ≡ 64)
      × (done s cs (prepare s bs a (taken s bs a k)) ≡ set cs (taken s bs a k) (filled s.peb_size (ready_bytes s bs a (taken s bs a k))))
      × ((e : EcHeader) × (ready_ec s bs a (taken s bs a k) ≡ Some e)
      × (ec_reading s (ready_bytes s bs a (taken s bs a k)) ≡ ec_read.Valid e))
      × AreReady (done s cs (lay s bs a k l)) (k + 1) ls

  -- no eraseblock that is taken from the k-th on and before the n-th wins a LEB
  abbrev pub NoneWins : List (List ℕ) → ℕ → ℕ → Leb → Type 0
  NoneWins cs k n of = (i : ℕ) → k ≤ i → i < n → Wins s cs of (taken s bs a i) → ⊥

  -- the LEBs are written to cs from the k-th eraseblock on
  pub record AreFilled (cs : List (List ℕ)) (k : ℕ) (ls : List Laid) (ds : List (List ℕ)) : Type 0 where
    pub filling : IsFilling s bs a (k + length ls) ds
    pub held : AllHeld ds k ls
    pub keeps : (of : Leb) → IsNoneOf ls of → NoneWins cs k (k + length ls) of → KeepsLeb s cs ds of

-- LEBs are written to cs from the k-th eraseblock on: the meaning stays at each cut, and if the power fails at any step; no step
-- programs the header of a copy; and at the end they are filled
abbrev pub IsWritten : Sizes → List (List ℕ) → AttachValue → List (List ℕ) → ℕ → List Laid → Type 0
IsWritten s bs a cs k ls =
    AtEachCut s (λ x. AcceptsBlocks s x a.meaning) cs (lay_all s bs a k ls) × AllFail (programs_copy s) (lay_all s bs a k ls)
    × AreReady s bs a cs k ls × AreFilled s bs a cs k ls (done s cs (lay_all s bs a k ls))
    × AtEachTear s (λ i d x. AcceptsBlocks s x a.meaning) cs (lay_all s bs a k ls)

module _ (image : Image) (g : IsGeometry image.sizes) (a : AttachValue) (att : IsShown image a) where
  abbrev s : Sizes
  s = image.sizes

  abbrev bs : List (List ℕ)
  bs = eraseblocks image

  abbrev t : Records
  t = records_of a.meaning

  abbrev P : List (List ℕ) → Type 0
  P x = AcceptsBlocks s x a.meaning

  held_kept : (cs ds : List (List ℕ)) (k : ℕ) (l : Laid) → KeepsLeb s cs ds (leb_of l.header) → Holds s bs a cs k l
      → Holds s bs a ds k l
  held_kept cs ds k l keeps h =
      let w = keeps.winner (taken s bs a k) h.wins in
      record {
        wins = w.0;
        header = ap (member s) w.1 ∙ h.header;
        reads = ap (leb s) w.1 ∙ h.reads;
      }

  pub filled_all : (ls : List Laid) (k : ℕ) (cs : List (List ℕ)) → IsFilling s bs a k cs
      → k + length ls ≤ length (takeable s bs a.states) → AreWritable s bs a k ls
      → AllByRecursion (λ l. IsOutside t (leb_of l.header)) ls → AreApart ls
      → IsWritten s bs a cs k ls
  filled_all [] k cs f enough writable outside apart =
      let none : k + 0 ≡ k = omega arith in (
        nothing,
        tt,
        tt,
        record {
          filling = subst (λ (n : ℕ). IsFilling s bs a n cs) (sym none) f;
          held = tt;
          keeps = λ of n w. record { winner = λ p q. (q, refl); none = λ q. q };
        },
        no_tears s (λ i d. P) cs,
      )
    where
      nothing : AtEachCut s P cs []
      nothing zero l = f.accepted
      nothing (suc i) l = f.accepted
  filled_all (l ∷ ls) k cs f enough writable outside apart =
      joined_with (filled_all ls (k + 1) (done s cs (lay s bs a k l)) next (omega arith) writable.1 outside.1 apart.1)
    where
      more : k < length (takeable s bs a.states)
      more = omega arith

      cuts : AtEachCut s P cs (lay s bs a k l)
      cuts = one.laid_cuts image g a att k more cs f (numbered s bs a k l) (trimmed s l.text) writable.0 refl outside.0

      tears : AtEachTear s (λ i d. P) cs (lay s bs a k l)
      tears = one.laid_tears image g a att k more cs f (numbered s bs a k l) (trimmed s l.text) writable.0 refl outside.0

      prepared : (e : EcHeader) × (ready_ec s bs a (taken s bs a k) ≡ Some e)
          × IsPrepared s cs a.meaning (taken s bs a k) a.scan.image_seq (prepare s bs a (taken s bs a k))
          (ready_bytes s bs a (taken s bs a k)) e
      prepared = one.made image g a att k more cs f (numbered s bs a k l) (trimmed s l.text) writable.0 refl outside.0

      fails : AllFail (programs_copy s) (lay s bs a k l)
      fails = one.laid_fails image g a att k more cs f (numbered s bs a k l) (trimmed s l.text) writable.0 refl outside.0

      next : IsFilling s bs a (k + 1) (done s cs (lay s bs a k l))
      next = one.filling_more image g a att k more cs f (numbered s bs a k l) (trimmed s l.text) writable.0 refl outside.0

      joined : done s cs (lay_all s bs a k (l ∷ ls)) ≡ (done s (done s cs (lay s bs a k l)) (lay_all s bs a (k + 1) ls))
      joined = fold-append (step_done s) cs (lay s bs a k l) (lay_all s bs a (k + 1) ls)

      here : Holds s bs a (done s cs (lay s bs a k l)) k l
      here = record {
        wins = one.laid_wins image g a att k more cs f (numbered s bs a k l) (trimmed s l.text) writable.0 refl outside.0;
        header = one.laid_header image g a att k more cs f (numbered s bs a k l) (trimmed s l.text) writable.0 refl outside.0;
        reads = one.laid_reads image g a att k more cs f (numbered s bs a k l) (trimmed s l.text) writable.0 refl outside.0;
      }

      -- the orphan that was written stays
      stays : IsWritten s bs a (done s cs (lay s bs a k l)) (k + 1) ls → KeepsLeb s (done s cs (lay s bs a k l)) (done s (done s cs (lay s bs a k l)) (lay_all s bs a (k + 1) ls)) (leb_of l.header)
      stays rest = rest.3.keeps (leb_of l.header) apart.0
          (λ i m n w. all_apart s bs a.states k i (omega arith) (omega arith)
          (Wins-unique s (done s cs (lay s bs a k l)) (leb_of l.header) (taken s bs a k) (taken s bs a i) next.accepted.clean here.wins w))

      keeps_first : (of : Leb) → ◌≢◌ {A = Leb} of (leb_of l.header) → (Wins s cs of (taken s bs a k) → ⊥)
          → KeepsLeb s cs (done s cs (lay s bs a k l)) of
      keeps_first = one.laid_keeps image g a att k more cs f (numbered s bs a k l) (trimmed s l.text) writable.0 refl outside.0

      keeps : IsWritten s bs a (done s cs (lay s bs a k l)) (k + 1) ls → (of : Leb) → IsNoneOf (l ∷ ls) of → NoneWins s bs a cs k (k + length (l ∷ ls)) of → KeepsLeb s cs (done s (done s cs (lay s bs a k l)) (lay_all s bs a (k + 1) ls)) of
      keeps rest of other lost =
          let first = keeps_first of (λ z. other.0 (sym z)) (lost k (omega arith) (omega arith)) in
          keeps_twice s cs (done s cs (lay s bs a k l)) (done s (done s cs (lay s bs a k l)) (lay_all s bs a (k + 1) ls)) of first
          (rest.3.keeps of other.1 (λ i m n w. lost i (omega arith) (omega arith)
          ((kept_back s cs (done s cs (lay s bs a k l)) next.accepted.clean of first).winner (taken s bs a i) w).0))

      sum : (k + 1) + length ls ≡ k + length (l ∷ ls)
      sum = omega arith

      filled : IsWritten s bs a (done s cs (lay s bs a k l)) (k + 1) ls → AreFilled s bs a cs k (l ∷ ls) (done s (done s cs (lay s bs a k l)) (lay_all s bs a (k + 1) ls))
      filled rest = record {
        filling = subst (λ (n : ℕ). IsFilling s bs a n (done s (done s cs (lay s bs a k l)) (lay_all s bs a (k + 1) ls))) sum rest.3.filling;
        held = (held_kept (done s cs (lay s bs a k l)) (done s (done s cs (lay s bs a k l)) (lay_all s bs a (k + 1) ls)) k l (stays rest) here, rest.3.held);
        keeps = keeps rest;
      }

      joined_with : IsWritten s bs a (done s cs (lay s bs a k l)) (k + 1) ls → IsWritten s bs a cs k (l ∷ ls)
      joined_with rest = (
        cuts-append s P cs (lay s bs a k l) (lay_all s bs a (k + 1) ls) cuts rest.0,
        fail-append (programs_copy s) (lay s bs a k l) (lay_all s bs a (k + 1) ls) fails rest.1,
        (
          one.inside image g a att k more cs f (numbered s bs a k l) (trimmed s l.text) writable.0 refl outside.0,
          prepared.2.size,
          prepared.2.ready,
          (prepared.0, prepared.1, prepared.2.reads),
          rest.2,
        ),
        subst (AreFilled s bs a cs k (l ∷ ls)) (sym joined) (filled rest),
        tears-append s (λ i d. P) cs (lay s bs a k l) (lay_all s bs a (k + 1) ls) tears rest.4,
      )
