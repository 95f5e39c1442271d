-- The cuts of an atomic copy of any LEB that has a winner and counts: before the commit point the old is meant, and
-- from it on what holds for a good copy and an emptied old winner holds.
use Rattle.ubi_change.proofs.Prelude.{◌≡◌, ◌≢◌, ℕ, zero, suc, ◌+◌, ◌-◌, ◌<◌, ◌≤◌, ◌⊎◌, inl, inr, true, false, List, [], ◌∷◌, ◌++◌, length, set, refl, sym, ◌∙◌, subst, arith, length-set, ec_bytes, ec_reading, blank, filled, Sizes, IsGeometry, EcHeader, VidHeader, block, leb, Leb, Wins, is_good, seq_of, AllBlank, AcceptsBlocks, IsOutside, Meant, program_header, program_text, renew, blocks_after, pages_of, pages_needed, Step, Agrees, append_assoc, ap, length-append, fold-append, step_done, Bool}
use Rattle.ubi_media.specs.declared.ec.EcRead.TheVariants as ec_read
use Rattle.ubi_change.specs.declared.step.Step.TheVariants as step
use Rattle.ubi_change.proofs.Copied as copy
use Rattle.ubi_change.proofs.Copied.{IsCopy}
use Rattle.ubi_change.proofs.Mounted.{IsMount, mounted_bad}
use Rattle.ubi_change.proofs.Renewed.{IsCounter, counter_back, counter_size, renew_cuts, renewed}
use Rattle.ubi_change.proofs.Runs.{AtEachCut, TurnsAt, after-all, done}
use Rattle.ubi_change.proofs.Seq.{NamedBeside}
use Rattle.ubi_change.proofs.TextWritten as onto
use Rattle.ubi_change.proofs.Torn.{told-from, whole_place-is}
use Rattle.ubi_change.proofs.TornCopy.{EitherAt, copy_tears, later, renew_tears}
use Rattle.ubi_change.proofs.TornRuns.{AtEachTear, TearIs, no_tears, tears-append, tears-weaken}
use Rattle.ubi_change.proofs.Vacated.{IsVacant, LosesAll, beside_set, vacated}
use Rattle.ubi_change.proofs.Written.{bare-seq, bare-vacant, blank-vacant}

-- steps make an eraseblock ready: the meaning stays, and at the end it has an erase-counter header alone
pub record IsPrepared (s : Sizes) (bs : List (List ℕ)) (m : Meant) (b seq : ℕ) (prep : List Step) (bytes : List ℕ)
    (e : EcHeader) : Type 0 where
  pub cuts : AtEachCut s (λ x. AcceptsBlocks s x m) bs prep
  pub ready : done s bs prep ≡ set bs b (filled s.peb_size bytes)
  pub size : length bytes ≡ 64
  pub reads : ec_reading s bytes ≡ ec_read.Valid e
  pub image : e.image_seq ≢ 0 → e.image_seq ≡ seq
  pub keeps : seq_of s (block bs b) ≡ seq → e.image_seq ≡ seq
  pub tears : AtEachTear s (λ k f x. AcceptsBlocks s x m) bs prep

-- the old eraseblock is left, or another names the image, and it is erased and given a header
abbrev pub IsRelease : Sizes → List (List ℕ) → ℕ → ℕ → List Step → Type 0
IsRelease s bs old seq rel = (rel ≡ [])
    ⊎ ((e : EcHeader) × IsCounter e × (e.image_seq ≡ seq) × NamedBeside s seq bs old
    × (rel ≡ renew s old e))

-- bytes of an eraseblock that is a good copy of this text
pub record IsGoodCopy (s : Sizes) (seq : ℕ) (bs : List (List ℕ)) (of : Leb) (h : VidHeader) (new x : List ℕ)
    : Type 0 where
  pub mount : IsMount s seq bs of h x
  pub good : is_good s x h ≡ true
  pub text : leb s x ≡ new ++ blank (s.peb_size - (s.data_offset + length new))

module _ (s : Sizes) (g : IsGeometry s) (bs : List (List ℕ)) (m : Meant) (a : AcceptsBlocks s bs m)
    (used : AllBlank s bs → ⊥) (of : Leb) (counts : IsOutside a.records of → ⊥) (b : ℕ) (inside : b < length bs)
    (seq : ℕ) (agrees : Agrees s seq bs) (beside : NamedBeside s seq bs b) (loses : LosesAll s bs a.records b)
    (prep : List Step) (bytes : List ℕ) (e : EcHeader) (prepared : IsPrepared s bs m b seq prep bytes e)
    (h : VidHeader) (new : List ℕ) (c : IsCopy s bs seq of bytes e h new) (old : ℕ) (wins : Wins s bs of old)
    (rel : List Step) (release : IsRelease s bs old seq rel) (Q : List (List ℕ) → Type 0)
    (copied : (x : List ℕ) → IsGoodCopy s seq bs of h new x → Q (set bs b x))
    (emptied : (x y : List ℕ) → IsGoodCopy s seq bs of h new x → NamedBeside s seq (set bs b x) old → IsVacant s seq y
    → Q (set (set bs b x) old y)) where
  abbrev P : List (List ℕ) → Type 0
  P x = AcceptsBlocks s x m

  bad : (x : List ℕ) → IsMount s seq bs of h x → is_good s x h ≡ false → P (set bs b x)
  bad x mount k = mounted_bad s bs b x inside of h seq agrees mount m a used beside loses counts old wins k

  abbrev full : List ℕ
  full = copy.part_at s g bs b inside seq of bytes e h new c P Q (pages_of s new)

  place : pages_needed s new ≤ pages_of s new
  place = (whole_place-is s new c.text.paged).most

  full_copy : IsGoodCopy s seq bs of h new full
  full_copy = record {
    mount = onto.mount_at s g bs b inside seq of bytes e h new c.text (pages_of s new) (omega arith);
    good = copy.good_at s g bs b inside seq of bytes e h new c P Q (pages_of s new) (omega arith)
        ∙ told-from s new c.text.paged (pages_of s new) place (omega arith);
    text = onto.whole_at s g bs b inside seq of bytes e h new c.text (pages_of s new) place (omega arith);
  }

  old_inside : old < length (set bs b full)
  old_inside = let l = wins.member.inside in omega (arith, length-set bs b full)

  -- what is named beside an eraseblock still is, once the copy is written
  full_beside : (p : ℕ) → NamedBeside s seq bs p → NamedBeside s seq (set bs b full) p
  full_beside p there = beside_set s bs b full inside seq p there
      (λ k. onto.seq_at s g bs b inside seq of bytes e h new c.text (pages_of s new) (omega arith) ∙ prepared.keeps k)

  -- and once the old winner is given up, whose new header names the image
  behind_beside : IsRelease s bs old seq rel → (p : ℕ) → NamedBeside s seq (set bs b full) p
      → NamedBeside s seq (done s (set bs b full) rel) p
  behind_beside (inl z) p there = subst (λ (xs : List Step). NamedBeside s seq (done s (set bs b full) xs) p) (sym z)
      there
  behind_beside (inr z) p there =
      subst (λ (xs : List Step). NamedBeside s seq (done s (set bs b full) xs) p) (sym z.4)
      (subst (λ (y : List (List ℕ)). NamedBeside s seq y p) (sym (renewed s g z.0 z.1 (set bs b full) old old_inside))
      (beside_set s (set bs b full) old (filled s.peb_size (ec_bytes s z.0)) old_inside seq p there
      (λ _. bare-seq s g (ec_bytes s z.0) z.0 (counter_size s g z.0 z.1) (counter_back s g z.0 z.1) ∙ z.2)))

  pub ends_beside : (p : ℕ) → NamedBeside s seq bs p
      → NamedBeside s seq (done s bs ((prep ++ program_header s b bytes h ∷ []) ++ program_text s b new ++ rel)) p
  ends_beside p there =
      subst (λ (y : List (List ℕ)). NamedBeside s seq y p)
      (sym (copy.atomic_done s g bs b inside seq of bytes e h new c P Q prep rel prepared.ready))
      (behind_beside release p (full_beside p there))

  late_by : IsRelease s bs old seq rel → AtEachCut s Q (set bs b full) rel
  late_by (inl z) = subst (AtEachCut s Q (set bs b full)) (sym z) (λ k l. subst Q (sym (none_after k))
      (copied full full_copy))
    where
      none_after : (k : ℕ) → blocks_after s (set bs b full) [] k ≡ set bs b full
      none_after zero = refl
      none_after (suc k) = refl
  late_by (inr z) =
      subst (AtEachCut s Q (set bs b full)) (sym z.4)
      (renew_cuts s g z.0 z.1 (set bs b full) old old_inside Q (copied full full_copy)
      (emptied full (blank s.peb_size) full_copy (full_beside old z.3) (blank-vacant s g seq))
      (emptied full (filled s.peb_size (ec_bytes s z.0)) full_copy (full_beside old z.3)
      (bare-vacant s g (ec_bytes s z.0) z.0 (counter_size s g z.0 z.1) (counter_back s g z.0 z.1) seq (λ _. z.2))))

  pub replaced : TurnsAt s P Q bs
      ((prep ++ program_header s b bytes h ∷ []) ++ program_text s b new ++ rel)
      (length prep + suc (pages_needed s new))
  replaced =
      copy.atomic_turns s g bs b inside seq of bytes e h new c P Q prep rel prepared.cuts prepared.ready bad
      (λ x mount good text. copied x (record { mount = mount; good = good; text = text })) (late_by release)

  -- if the power fails during any step, the same holds: the one before the commit point, and the other from it on
  pub replaced_tears : ((x t : List ℕ) → IsGoodCopy s seq bs of h new x → NamedBeside s seq (set bs b x) old
      → TearIs s (λ f. Q) (set bs b x) (step.Erase old) t)
      → AtEachTear s (EitherAt P Q (length prep + suc (pages_needed s new)) (length prep + suc (pages_of s new))) bs
      ((prep ++ program_header s b bytes h ∷ []) ++ program_text s b new ++ rel)
  replaced_tears torn_old =
      subst (λ (xs : List Step). AtEachTear s R bs (xs ++ rel)) joined
      (tears-append s R bs (prep ++ copy_steps) rel first
      (subst (λ (z : List (List ℕ)). AtEachTear s (λ k. R (length (prep ++ copy_steps) + k)) z rel) (sym end)
      (tears-weaken s (λ k f. Q) (λ k. R (length (prep ++ copy_steps) + k)) (set bs b full) rel
      (λ k f x l y. inr (inl ((let n = length-append prep copy_steps in let m = length_copy in let w = place in omega arith), y)))
      (rel_tears release))))
    where
      R : ℕ → Bool → List (List ℕ) → Type 0
      R = EitherAt P Q (length prep + suc (pages_needed s new)) (length prep + suc (pages_of s new))

      copy_steps : List Step
      copy_steps = program_header s b bytes h ∷ program_text s b new

      length_copy : length copy_steps ≡ suc (pages_of s new)
      length_copy = onto.length_steps s g bs b inside seq of bytes e h new c.text

      joined : prep ++ copy_steps ≡ (prep ++ program_header s b bytes h ∷ []) ++ program_text s b new
      joined = sym (append_assoc prep (program_header s b bytes h ∷ []) (program_text s b new))

      end : done s bs (prep ++ copy_steps) ≡ set bs b full
      end = fold-append (step_done s) bs prep copy_steps
          ∙ ap (λ (z : List (List ℕ)). done s z copy_steps) prepared.ready
          ∙ sym (after-all s (set bs b (filled s.peb_size bytes)) copy_steps)
          ∙ onto.text_done s g bs b inside seq of bytes e h new c.text

      rel_tears : IsRelease s bs old seq rel → AtEachTear s (λ k f. Q) (set bs b full) rel
      rel_tears (inl z) = subst (AtEachTear s (λ k f. Q) (set bs b full)) (sym z) (no_tears s (λ k f. Q) (set bs b full))
      rel_tears (inr z) =
          subst (AtEachTear s (λ k f. Q) (set bs b full)) (sym z.4)
          (renew_tears s g (set bs b full) old old_inside z.0 z.1 seq (λ _. z.2) Q
          (λ t. torn_old full t full_copy (full_beside old z.3))
          (λ t v. emptied full t full_copy (full_beside old z.3) v))

      copies : AtEachTear s (EitherAt P Q (suc (pages_needed s new)) (suc (pages_of s new))) (set bs b (filled s.peb_size bytes)) copy_steps
      copies = copy_tears s g bs b inside seq of bytes e h new c P Q
          (λ x v. vacated s bs b x inside seq m a used agrees beside loses v) bad
          (λ x mount good text. copied x (record { mount = mount; good = good; text = text }))

      first : AtEachTear s R bs (prep ++ copy_steps)
      first = tears-append s R bs prep copy_steps
          (tears-weaken s (λ k f. P) R bs prep (λ k f x l y. inl (omega arith, y)) prepared.tears)
          (subst (λ (z : List (List ℕ)). AtEachTear s (λ k. R (length prep + k)) z copy_steps) (sym prepared.ready)
          (tears-weaken s (EitherAt P Q (suc (pages_needed s new)) (suc (pages_of s new))) (λ k. R (length prep + k))
          (set bs b (filled s.peb_size bytes)) copy_steps (λ k f x l y. later P Q (suc (pages_needed s new)) (suc (pages_of s new)) (length prep) k f x y) copies))
