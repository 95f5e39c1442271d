-- Orphans are written one by one: what holds of the eraseblocks after some of them, and that one more leaves the meaning.
use Rattle.ubi_change.proofs.Prelude.{◌≡◌, ◌≢◌, ℕ, zero, suc, ◌+◌, ◌-◌, ◌%◌, ◌<◌, ◌≤◌, true, false, not, List, [], ◌∷◌, ◌++◌, append_assoc, length, length-set, set, take, refl, ap, sym, ◌∙◌, subst, arith, None, Some, ◌||◌, fold-append, take_all, IsGeometry, Sizes, blank, filled, vid_fault, VidFits, EcHeader, VidHeader, Image, eraseblocks, block, leb, IsMislaid, Leb, Wins, has_members, is_good, is_right, leb_of, member, Agrees, AllBlank, AcceptsBlocks, AttachValue, IsOutside, Records, records_of, records_meant, mount, prepare, program_header, program_text, programs_copy, ready_bytes, ready_ec, taken, takeable, blocks_after, step_done, pages_of, Step, ◌*◌}
use Rattle.ubi_change.proofs.AttachedImage as on
use Rattle.ubi_change.proofs.Choosing.{MayBeTaken, all_apart, may_be_taken}
use Rattle.ubi_change.proofs.CopyReplaced.{IsPrepared}
use Rattle.ubi_change.proofs.Emptied.{AreBelow}
use Rattle.ubi_change.proofs.MeaningKept.{KeepsLeb}
use Rattle.ubi_change.proofs.Mounted.{IsMount}
use Rattle.ubi_change.proofs.Newest.{newest_below, newest_wins, others_keep, others_lose}
use Rattle.ubi_change.proofs.Orphaned.{orphaned}
use Rattle.ubi_change.proofs.PlanPremises.{IsShown}
use Rattle.ubi_change.proofs.Premises.{ready, taken_beside, taken_loses}
use Rattle.ubi_change.proofs.Replaced.{block_other, block_same}
use Rattle.ubi_change.proofs.Runs.{AtEachCut, after-all, cuts-append, done}
use Rattle.ubi_change.proofs.Seq.{NamedBeside}
use Rattle.ubi_change.proofs.TextWritten as onto
use Rattle.ubi_change.proofs.TextWritten.{IsText}
use Rattle.ubi_change.proofs.TornRuns.{AtEachTear, tears-append}
use Rattle.ubi_change.proofs.TornText.{text_tears}
use Rattle.ubi_change.proofs.Turned.{AllFail, fail-append, header_fails, text_fails}
use Rattle.ubi_change.proofs.Unused.{used_by_winner}
use Rattle.ubi_change.proofs.Vacated.{LosesAll, agrees_set, beside_set, vacated}

-- the eraseblocks cs that are left of bs once k of those that may be taken hold something else: they mean what they meant,
-- and the others are as they were
pub record IsFilling (s : Sizes) (bs : List (List ℕ)) (a : AttachValue) (k : ℕ) (cs : List (List ℕ)) : Type 0 where
  pub accepted : AcceptsBlocks s cs a.meaning
  pub used : AllBlank s cs → ⊥
  pub agrees : Agrees s a.scan.image_seq cs
  pub below : AreBelow s cs (a.scan.top_sqnum + 1 + k)
  pub size : length cs ≡ length bs
  pub same : (i : ℕ) → k ≤ i → i < length (takeable s bs a.states) → block cs (taken s bs a i) ≡ block bs (taken s bs a i)
  pub loses : (i : ℕ) → k ≤ i → i < length (takeable s bs a.states) → LosesAll s cs (records_of a.meaning) (taken s bs a i)
  pub named : (p : ℕ) → NamedBeside s a.scan.image_seq bs p → NamedBeside s a.scan.image_seq cs p

-- a header that is no copy's, and a text that can be written under it
pub record IsWritable (s : Sizes) (h : VidHeader) (new : List ℕ) : Type 0 where
  pub fits : VidFits h
  pub sound : vid_fault s h ≡ None
  pub known : has_members h.vol_id ≡ true
  pub placed : IsMislaid h → ⊥
  pub plain : h.copy_flag ≡ false
  pub paged : length new % s.page ≡ 0
  pub room : s.data_offset + length new ≤ s.peb_size

plain_good : (s : Sizes) (x : List ℕ) (h : VidHeader) → h.copy_flag ≡ false → is_good s x h ≡ true
plain_good s x h e = ap (λ b. not b || is_right s x h) e

module _ (image : Image) (g : IsGeometry image.sizes) (a : AttachValue) (att : IsShown image a) where
  abbrev s : Sizes
  s = image.sizes

  abbrev bs : List (List ℕ)
  bs = eraseblocks image

  abbrev seq : ℕ
  seq = a.scan.image_seq

  abbrev t : Records
  t = records_of a.meaning

  -- at the start nothing was taken
  pub filling_none : (AllBlank s bs → ⊥) → IsFilling s bs a 0 bs
  filling_none used = record {
    accepted = att.accepted.accepted;
    used = used;
    agrees = on.agrees image g a att;
    below = λ of q m. (let l = on.above image g a att of q m in omega arith);
    size = refl;
    same = λ i l h. refl;
    loses = λ i l h. taken_loses s g bs a t att.states (taken s bs a i) (may_be_taken s bs a.states i h);
    named = λ p n. n;
  }

  -- one more is written
  module _ (k : ℕ) (more : k < length (takeable s bs a.states)) (cs : List (List ℕ)) (f : IsFilling s bs a k cs)
      (h : VidHeader) (new : List ℕ) (w : IsWritable s h new) (number : h.sqnum ≡ a.scan.top_sqnum + 1 + k)
      (outside : IsOutside t (leb_of h)) where
    abbrev pub b : ℕ
    b = taken s bs a k

    may : MayBeTaken s bs a.states b
    may = may_be_taken s bs a.states k more

    pub inside : b < length cs
    inside = let l = may.0 in let e = f.size in omega arith

    same_records : t ≡ f.accepted.records
    same_records = records_meant s cs f.accepted.records a.meaning f.accepted.table f.accepted.means

    loses : LosesAll s cs t b
    loses = f.loses k (omega arith) more

    beside : NamedBeside s seq cs b
    beside = f.named b (taken_beside s g bs a t att.states b may seq (on.agrees image g a att))

    pub made : (e : EcHeader) × (ready_ec s bs a b ≡ Some e)
        × IsPrepared s cs a.meaning b seq (prepare s bs a b) (ready_bytes s bs a b) e
    made = ready s g bs a t att.states b may cs a.meaning f.accepted inside (f.same k (omega arith) more)
        (on.whole image g a att b may.0) f.agrees beside f.used
        (subst (λ (z : Records). LosesAll s cs z b) same_records loses) (on.mean_few image a att)
        (on.seq_narrow image a att)

    text : IsText s cs seq (leb_of h) (ready_bytes s bs a b) made.0 h new
    text = record {
      size = made.2.size;
      reads = made.2.reads;
      image = made.2.image;
      fits = w.fits;
      sound = w.sound;
      known = w.known;
      placed = w.placed;
      named = refl;
      above = λ other q m. (let l = f.below other q m in let e = number in omega arith);
      paged = w.paged;
      room = w.room;
    }

    abbrev part : ℕ → List ℕ
    part j = onto.part_at s g cs b inside seq (leb_of h) (ready_bytes s bs a b) made.0 h new text j

    abbrev full : List ℕ
    full = part (pages_of s new)

    mount_at : (j : ℕ) → j ≤ pages_of s new → IsMount s seq cs (leb_of h) h (part j)
    mount_at j l = onto.mount_at s g cs b inside seq (leb_of h) (ready_bytes s bs a b) made.0 h new text j l

    full_mount : IsMount s seq cs (leb_of h) h full
    full_mount = mount_at (pages_of s new) (omega arith)

    -- with any number of its pages the orphan leaves the meaning
    still : (j : ℕ) → j ≤ pages_of s new → AcceptsBlocks s (set cs b (part j)) a.meaning
    still j l = orphaned s cs b (part j) inside (leb_of h) h seq f.agrees (mount_at j l) a.meaning f.accepted f.used
        beside (subst (λ (z : Records). LosesAll s cs z b) same_records loses)
        (subst (λ (z : Records). IsOutside z (leb_of h)) same_records outside)

    abbrev pub laid_steps : List Step
    laid_steps = mount s bs a b h ++ program_text s b new

    abbrev text_steps : List Step
    text_steps = program_header s b (ready_bytes s bs a b) h ∷ program_text s b new

    joined : prepare s bs a b ++ text_steps ≡ laid_steps
    joined = sym (append_assoc (prepare s bs a b) (program_header s b (ready_bytes s bs a b) h ∷ [])
        (program_text s b new))

    text_cuts : AtEachCut s (λ x. AcceptsBlocks s x a.meaning) (done s cs (prepare s bs a b)) text_steps
    text_cuts zero l = subst (λ (z : List (List ℕ)). AcceptsBlocks s z a.meaning) (after-all s cs (prepare s bs a b))
        (made.2.cuts (length (prepare s bs a b)) (omega arith))
    text_cuts (suc j) l =
        let n = onto.length_steps s g cs b inside seq (leb_of h) (ready_bytes s bs a b) made.0 h new text in
        let m : j ≤ pages_of s new = omega arith in
        subst (λ (z : List (List ℕ)). AcceptsBlocks s z a.meaning)
        (sym (ap (λ (z : List (List ℕ)). blocks_after s z text_steps (suc j)) made.2.ready
        ∙ onto.after_steps s g cs b inside seq (leb_of h) (ready_bytes s bs a b) made.0 h new text j m))
        (still j m)

    -- it means the same at each cut
    pub laid_cuts : AtEachCut s (λ x. AcceptsBlocks s x a.meaning) cs laid_steps
    laid_cuts = subst (AtEachCut s (λ x. AcceptsBlocks s x a.meaning) cs) joined
        (cuts-append s (λ x. AcceptsBlocks s x a.meaning) cs (prepare s bs a b) text_steps made.2.cuts text_cuts)

    -- and so it does if the power fails at any of its steps
    pub laid_tears : AtEachTear s (λ i d x. AcceptsBlocks s x a.meaning) cs laid_steps
    laid_tears = subst (AtEachTear s (λ i d x. AcceptsBlocks s x a.meaning) cs) joined
        (tears-append s (λ i d x. AcceptsBlocks s x a.meaning) cs (prepare s bs a b) text_steps made.2.tears
        (subst (λ (z : List (List ℕ)). AtEachTear s (λ i d x. AcceptsBlocks s x a.meaning) z text_steps) (sym made.2.ready)
        (text_tears s g cs b inside seq (leb_of h) (ready_bytes s bs a b) made.0 h new text
        (λ x. AcceptsBlocks s x a.meaning)
        (λ x v. vacated s cs b x inside seq a.meaning f.accepted f.used f.agrees beside lost v)
        (λ x k. orphaned s cs b x inside (leb_of h) h seq f.agrees k a.meaning f.accepted f.used beside lost out))))
      where
        lost : LosesAll s cs f.accepted.records b
        lost = subst (λ (z : Records). LosesAll s cs z b) same_records loses

        out : IsOutside f.accepted.records (leb_of h)
        out = subst (λ (z : Records). IsOutside z (leb_of h)) same_records outside

    -- none of its steps programs the header of a copy
    pub laid_fails : AllFail (programs_copy s) laid_steps
    laid_fails =
        fail-append (programs_copy s) (mount s bs a b h) (program_text s b new)
        (fail-append (programs_copy s) (prepare s bs a b) (program_header s b (ready_bytes s bs a b) h ∷ [])
        (on.prepare_fails image g a att b)
        (header_fails s g (ready_bytes s bs a b) made.2.size h w.fits w.sound b w.plain, tt))
        (text_fails s g b new)

    -- what is left at the end
    laid_done : done s cs laid_steps ≡ set cs b full
    laid_done =
        ap (done s cs) (sym joined)
        ∙ fold-append (step_done s) cs (prepare s bs a b) text_steps
        ∙ ap (λ (z : List (List ℕ)). done s z text_steps) made.2.ready
        ∙ sym (after-all s (set cs b (filled s.peb_size (ready_bytes s bs a b))) text_steps)
        ∙ onto.text_done s g cs b inside seq (leb_of h) (ready_bytes s bs a b) made.0 h new text

    apart : (i : ℕ) → k + 1 ≤ i → i < length (takeable s bs a.states) → taken s bs a i ≢ b
    apart i l m z = all_apart s bs a.states k i (omega arith) m (sym z)

    clean_then : IsFilling s bs a (k + 1) (set cs b full)
    clean_then =
        let good = plain_good s full h w.plain in
        record {
          accepted = still (pages_of s new) (omega arith);
          used = used_by_winner s (set cs b full) (leb_of h) b
              (newest_wins s cs b full inside (leb_of h) h seq f.agrees full_mount f.accepted.clean good);
          agrees = agrees_set s cs b full inside seq f.agrees beside full_mount.image;
          below = λ of q m.
              (let l = newest_below s cs b full inside (leb_of h) h seq f.agrees full_mount f.accepted.clean of q m in
              let e = number in omega arith);
          size = length-set cs b full ∙ f.size;
          same = λ i l m. block_other s cs b full inside (taken s bs a i) (apart i l m) ∙ f.same i (omega arith) m;
          loses = λ i l m. others_lose s cs b full inside (leb_of h) h seq f.agrees full_mount f.accepted.clean good t
              loses (taken s bs a i) (apart i l m) (f.loses i (omega arith) m);
          named = λ p n. beside_set s cs b full inside seq p (f.named p n)
              (λ e. onto.seq_at s g cs b inside seq (leb_of h) (ready_bytes s bs a b) made.0 h new text (pages_of s new)
              (omega arith) ∙ made.2.keeps e);
        }

    pub filling_more : IsFilling s bs a (k + 1) (done s cs laid_steps)
    filling_more = subst (IsFilling s bs a (k + 1)) (sym laid_done) clean_then

    -- the orphan wins its LEB
    pub laid_wins : Wins s (done s cs laid_steps) (leb_of h) b
    laid_wins = subst (λ (z : List (List ℕ)). Wins s z (leb_of h) b) (sym laid_done)
        (newest_wins s cs b full inside (leb_of h) h seq f.agrees full_mount f.accepted.clean
        (plain_good s full h w.plain))

    pub laid_header : member s (block (done s cs laid_steps) b) ≡ Some h
    laid_header = ap (λ (z : List (List ℕ)). member s (block z b)) laid_done
        ∙ ap (member s) (block_same s cs b full inside) ∙ full_mount.is

    -- with its text
    pub laid_reads : leb s (block (done s cs laid_steps) b) ≡ new ++ blank (s.peb_size - (s.data_offset + length new))
    laid_reads =
        let j = pages_of s new in
        let all : j * s.page ≡ length new =
        onto.paged s g cs b inside seq (leb_of h) (ready_bytes s bs a b) made.0 h new text in
        ap (λ (z : List (List ℕ)). leb s (block z b)) laid_done ∙ ap (leb s) (block_same s cs b full inside)
        ∙ onto.leb_at s g cs b inside seq (leb_of h) (ready_bytes s bs a b) made.0 h new text j (omega arith)
        ∙ ap (λ n. take n new ++ blank (s.peb_size - (s.data_offset + n))) all
        ∙ ap (λ xs. xs ++ blank (s.peb_size - (s.data_offset + length new))) (take_all (length new) new (omega arith))

    -- another LEB keeps its winner
    pub laid_keeps : (of : Leb) → ◌≢◌ {A = Leb} of (leb_of h) → (Wins s cs of b → ⊥)
        → KeepsLeb s cs (done s cs laid_steps) of
    laid_keeps of other lost = subst (λ (z : List (List ℕ)). KeepsLeb s cs z of) (sym laid_done)
        (others_keep s cs b full inside (leb_of h) h seq f.agrees full_mount f.accepted.clean of other lost)
