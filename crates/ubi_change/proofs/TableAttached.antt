-- Both copies of the table of an attached image are rewritten, perhaps after orphans were written: the parts of the plan, and
-- what the eraseblocks mean at each cut.
use Rattle.ubi_change.proofs.Prelude.{◌≡◌, ◌≢◌, ℕ, suc, ◌+◌, ◌*◌, ◌^◌, ◌<◌, ◌≤◌, inl, inr, cond, List, ◌++◌, append_assoc, length, refl, ap, sym, ◌∙◌, subst, arith, None, Some, count_by, cases_lt, fold-append, sum_by-append, IsGeometry, Sizes, slots, EcHeader, VidHeader, Image, eraseblocks, of_blocks, IsMember, Leb, Wins, layout, AreRecords, Records, table_bytes, AcceptsBlocks, AttachValue, Meant, records_of, records_are, records_meant, programs_copy, turn, mount, prepare, program_text, ready_bytes, ready_ec, release, taken, copy_plan, holder, layout_header, table_pages, BothGood, blocks_after, step_done, ec_at, weak_pages, pages_needed, Step, [], length-append, program_header, takeable, ◌∷◌, table_plan, ◌-◌, pages_of}
use Rattle.ubi_change.proofs.Torn.{whole_place-is}
use Rattle.ubi_change.proofs.TornCopy.{EitherAt}
use Rattle.ubi_change.proofs.TornRuns.{AtEachTear, tears-append, tears-weaken}
use Rattle.ubi_change.proofs.AttachedImage as on
use Rattle.ubi_change.proofs.Choosing.{MayBeTaken, all_apart, may_be_taken}
use Rattle.ubi_change.proofs.Copied.{IsCopy}
use Rattle.ubi_change.proofs.CopyReplaced.{IsPrepared, IsRelease}
use Rattle.ubi_change.proofs.FirstCopy.{IsHalfway, first_beside, first_tears, first_turns}
use Rattle.ubi_change.proofs.LayoutHeader.{layout_copy}
use Rattle.ubi_change.proofs.Premises.{next_counter, ready, taken_beside}
use Rattle.ubi_change.proofs.Runs.{AtEachCut, TurnsAt, after-all, done, turns-before}
use Rattle.ubi_change.proofs.SecondCopy.{IsWhollyNamed, second_tears, second_turns}
use Rattle.ubi_change.proofs.Seq.{NamedBeside}
use Rattle.ubi_change.proofs.TablePages.{bytes_size}
use Rattle.ubi_change.proofs.Turned.{AllFail, fail-append, one-copy, turn-is}
use Rattle.ubi_change.proofs.Unused.{layout_counts, one_name, used_by_winner}
use Rattle.ubi_change.proofs.Vacated.{LosesAll}
use Rattle.ubi_change.proofs.PlanPremises.{IsShown}
use Rattle.ubi_change.proofs.OrphanWritten.{IsFilling}
use Rattle.ubi_change.proofs.TableAccepted.{ReadsAs}

-- eraseblocks that are left of an attached image once k of those that may be taken hold something else: by the table of n
-- they read as n, and this table can be written to the next two
pub record Rewriting : Type 0 where
  pub image : Image
  pub geometry : IsGeometry image.sizes
  pub from : AttachValue
  pub attached : IsShown image from
  pub at : ℕ
  pub start : List (List ℕ)
  pub filling : of_blocks IsFilling image from at start
  pub next : Meant
  pub reads : ReadsAs image.sizes start next
  pub lost : (i : ℕ) → at ≤ i → i < length (of_blocks takeable image from.states)
      → LosesAll image.sizes start (records_of next) (of_blocks taken image from i)
  pub wins : (c : ℕ) → c < 2 → Wins image.sizes start (layout, c) (of_blocks holder image from c)
  pub strong : weak_pages image.sizes (table_pages image.sizes (records_of next)) ≡ None
  pub few : from.scan.top_sqnum + 1 + (at + 1) ≤ 0xFFFFFFFFFFFFFFFF
  pub enough : at + 2 ≤ length (of_blocks takeable image from.states)

module _ (r : Rewriting) where
  abbrev pub s : Sizes
  s = r.image.sizes

  abbrev pub bs : List (List ℕ)
  bs = eraseblocks r.image

  abbrev pub a : AttachValue
  a = r.from

  abbrev pub m : Meant
  m = a.meaning

  abbrev pub n : Meant
  n = r.next

  -- the eraseblocks before copy 0 is written
  abbrev pub os : List (List ℕ)
  os = r.start

  abbrev seq : ℕ
  seq = a.scan.image_seq

  pub few : a.scan.mean_ec < 2 ^ 31
  few = on.mean_few r.image a r.attached

  pub narrow : seq < 2 ^ 32
  narrow = on.seq_narrow r.image a r.attached

  acc : AcceptsBlocks s os m
  acc = r.filling.accepted

  same : records_of m ≡ acc.records
  same = records_meant s os acc.records m acc.table acc.means

  are : AreRecords (records_of n)
  are = records_are n r.reads.means.meaning

  pub size : length (table_bytes (records_of n)) ≡ slots s * 172
  size = bytes_size s r.geometry (records_of n) r.reads.means.sizes are

  abbrev pub new : List ℕ
  new = table_pages s (records_of n)

  -- the eraseblocks that are taken, and those that hold the copies
  abbrev pub b0 : ℕ
  b0 = taken s bs a r.at

  abbrev pub b1 : ℕ
  b1 = taken s bs a (r.at + 1)

  more0 : r.at < length (takeable s bs a.states)
  more0 = let e = r.enough in omega arith

  more1 : r.at + 1 < length (takeable s bs a.states)
  more1 = let e = r.enough in omega arith

  pub may0 : MayBeTaken s bs a.states b0
  may0 = may_be_taken s bs a.states r.at more0

  pub may1 : MayBeTaken s bs a.states b1
  may1 = may_be_taken s bs a.states (r.at + 1) more1

  abbrev pub old0 : ℕ
  old0 = holder s bs a 0

  abbrev pub old1 : ℕ
  old1 = holder s bs a 1

  pub wins0 : Wins s os (layout, 0) old0
  wins0 = r.wins 0 (omega arith)

  pub wins1 : Wins s os (layout, 1) old1
  wins1 = r.wins 1 (omega arith)

  loses0 : LosesAll s os (records_of m) b0
  loses0 = r.filling.loses r.at (omega arith) more0

  lost0 : LosesAll s os (records_of n) b0
  lost0 = r.lost r.at (omega arith) more0

  lost1 : LosesAll s os (records_of n) b1
  lost1 = r.lost (r.at + 1) (omega arith) more1

  -- these are four
  pub spares_apart : b1 ≢ b0
  spares_apart z = all_apart s bs a.states r.at (r.at + 1) (omega arith) more1 (sym z)

  spare_holds_none : (b c p : ℕ) → LosesAll s os (records_of n) b → Wins s os (layout, c) p → p ≢ b
  spare_holds_none b c p loses wins z = loses (layout, c) (layout_counts (records_of n) c)
      (subst (Wins s os (layout, c)) z wins)

  pub old0_b0 : old0 ≢ b0
  old0_b0 = spare_holds_none b0 0 old0 lost0 wins0

  pub old0_b1 : old0 ≢ b1
  old0_b1 = spare_holds_none b1 0 old0 lost1 wins0

  pub old1_b0 : old1 ≢ b0
  old1_b0 = spare_holds_none b0 1 old1 lost0 wins1

  pub old1_b1 : old1 ≢ b1
  old1_b1 = spare_holds_none b1 1 old1 lost1 wins1

  pub holders_apart : old1 ≢ old0
  holders_apart z =
      let same = one_name s os (records_of m) old0 (layout, 1) (layout, 0)
      (subst (IsMember s os (layout, 1)) z wins1.member) wins0.member in
      let y : ◌≡◌ {A = ℕ} 1 0 = ap (λ (x : Leb). x.1) same in
      omega arith

  -- copy 0
  pub inside0 : b0 < length os
  inside0 = let e = r.filling.size in let l = may0.0 in omega arith

  started : (p : ℕ) → NamedBeside s seq bs p → NamedBeside s seq os p
  started = r.filling.named

  named0 : NamedBeside s seq bs b0
  named0 = taken_beside s r.geometry bs a (records_of m) r.attached.states b0 may0 seq
      (on.agrees r.image r.geometry a r.attached)

  named1 : NamedBeside s seq bs b1
  named1 = taken_beside s r.geometry bs a (records_of m) r.attached.states b1 may1 seq
      (on.agrees r.image r.geometry a r.attached)

  pub made0 : (e : EcHeader) × (ready_ec s bs a b0 ≡ Some e)
      × IsPrepared s os m b0 seq (prepare s bs a b0) (ready_bytes s bs a b0) e
  made0 = ready s r.geometry bs a (records_of m) r.attached.states b0 may0 os m acc inside0
      (r.filling.same r.at (omega arith) more0) (on.whole r.image r.geometry a r.attached b0 may0.0) r.filling.agrees
      (started b0 named0) r.filling.used (subst (λ (t : Records). LosesAll s os t b0) same loses0) few narrow

  abbrev pub header0 : VidHeader
  header0 = layout_header 0 (a.scan.top_sqnum + 1 + r.at) new

  pub copy0 : IsCopy s os seq (layout, 0) (ready_bytes s bs a b0) made0.0 header0 new
  copy0 = layout_copy s r.geometry os m b0 seq (prepare s bs a b0) (ready_bytes s bs a b0) made0.0 made0.2 0
      (a.scan.top_sqnum + 1 + r.at) (omega arith) (let f = r.few in omega arith) r.filling.below (records_of n) size
      r.strong

  release_is : (cs : List (List ℕ)) (p : ℕ) → (NamedBeside s seq bs p → NamedBeside s seq cs p)
      → IsRelease s cs p seq (release s bs a p (ec_at s bs p))
  release_is cs p named = on.release_is r.image r.geometry a r.attached cs p (ec_at s bs p)
      (next_counter s bs a few narrow p) named

  abbrev pub written0 : List Step
  written0 = mount s bs a b0 header0 ++ program_text s b0 new

  abbrev pub rel0 : List Step
  rel0 = release s bs a old0 (ec_at s bs old0)

  abbrev pub steps0 : List Step
  steps0 = written0 ++ rel0

  abbrev pub turn0 : ℕ
  turn0 = length (prepare s bs a b0) + suc (pages_needed s new)

  abbrev IsHalf : List (List ℕ) → Type 0
  IsHalf = IsHalfway s os seq n b0 old1 b1 (a.scan.top_sqnum + 1 + r.at + 1)

  pub first : TurnsAt s (λ x. AcceptsBlocks s x m) IsHalf os steps0 turn0
  first = first_turns s r.geometry os m n acc r.reads b0 b1 old0 old1 inside0 spares_apart seq r.filling.agrees
      (started b0 named0) loses0 lost0 lost1 wins0 wins1 (a.scan.top_sqnum + 1 + r.at)
      (ready_bytes s bs a b0) made0.0 copy0 (prepare s bs a b0) rel0 made0.2 (release_is os old0 (started old0))

  -- the eraseblocks between the copies
  abbrev pub cs : List (List ℕ)
  cs = done s os steps0

  -- the image is named beside an eraseblock, if it was before
  named_then : (p : ℕ) → NamedBeside s seq bs p → NamedBeside s seq cs p
  named_then p named = first_beside s r.geometry os m n acc r.reads b0 b1 old0 old1 inside0 spares_apart seq
      r.filling.agrees (started b0 named0) loses0 lost0 lost1 wins0 wins1 (a.scan.top_sqnum + 1 + r.at)
      (ready_bytes s bs a b0) made0.0 copy0 (prepare s bs a b0) rel0 made0.2 (release_is os old0 (started old0)) p
      (started p named)

  pub half : IsHalf cs
  half = subst IsHalf (after-all s os steps0) (first.from (length steps0) first.comes (omega arith))

  -- copy 1
  pub inside1 : b1 < length cs
  inside1 = let e = half.size in let f = r.filling.size in let l = may1.0 in omega arith

  pub made1 : (e : EcHeader) × (ready_ec s bs a b1 ≡ Some e)
      × IsPrepared s cs n b1 seq (prepare s bs a b1) (ready_bytes s bs a b1) e
  made1 =
      let then = half.accepted in
      let lost = subst (λ (t : Records). LosesAll s cs t b1) (records_meant s cs then.records n then.table then.means)
      half.loses in
      ready s r.geometry bs a (records_of m) r.attached.states b1 may1 cs n then inside1
      (half.same ∙ r.filling.same (r.at + 1) (omega arith) more1)
      (on.whole r.image r.geometry a r.attached b1 may1.0) half.agrees (named_then b1 named1)
      (used_by_winner s cs (layout, 0) b0 half.wins_first) lost few narrow

  abbrev pub header1 : VidHeader
  header1 = layout_header 1 (a.scan.top_sqnum + 1 + r.at + 1) new

  pub copy1 : IsCopy s cs seq (layout, 1) (ready_bytes s bs a b1) made1.0 header1 new
  copy1 = layout_copy s r.geometry cs n b1 seq (prepare s bs a b1) (ready_bytes s bs a b1) made1.0 made1.2 1
      (a.scan.top_sqnum + 1 + r.at + 1) (omega arith) (let f = r.few in omega arith) half.below (records_of n)
      size r.strong

  abbrev pub written1 : List Step
  written1 = mount s bs a b1 header1 ++ program_text s b1 new

  abbrev pub rel1 : List Step
  rel1 = release s bs a old1 (ec_at s bs old1)

  abbrev pub steps1 : List Step
  steps1 = written1 ++ rel1

  pub second : TurnsAt s (λ x. AcceptsBlocks s x n) (IsWhollyNamed s n) cs steps1
      (length (prepare s bs a b1) + suc (pages_needed s new))
  second = second_turns s r.geometry os n b0 b1 old1 seq (a.scan.top_sqnum + 1 + r.at + 1) cs half inside1
      (named_then b1 named1) (ready_bytes s bs a b1) made1.0 copy1 (prepare s bs a b1) rel1 made1.2
      (release_is cs old1 (named_then old1))

  -- both, one behind the other
  abbrev pub steps : List Step
  steps = steps0 ++ steps1

  pub plan-is : table_plan s bs a r.at n ≡ steps
  plan-is =
      let two : a.scan.top_sqnum + 1 + (r.at + 1) ≡ a.scan.top_sqnum + 1 + r.at + 1 = omega arith in
      ap (λ (q : ℕ). copy_plan s bs a new 0 r.at (a.scan.top_sqnum + 1 + r.at) ++ copy_plan s bs a new 1 (r.at + 1) q) two

  pub turns : TurnsAt s (λ x. AcceptsBlocks s x m) (λ x. AcceptsBlocks s x n) os steps turn0
  turns = turns-before s (λ x. AcceptsBlocks s x m) (λ x. AcceptsBlocks s x n) os steps0 steps1 turn0 (record {
    comes = first.comes;
    before = first.before;
    from = λ k l h. (first.from k l h).accepted;
  }) cuts1
    where
      cuts1 : AtEachCut s (λ x. AcceptsBlocks s x n) cs steps1
      cuts1 k l = elim (cases_lt k (length (prepare s bs a b1) + suc (pages_needed s new))) [
        | inl h ↦ second.before k h
        | inr h ↦ (second.from k h l).accepted
      ]

  -- the turn is that of copy 0, also behind steps that program no header of a copy
  pub turn_is : (xs : List Step) → AllFail (programs_copy s) xs → turn s (xs ++ steps) new ≡ length xs + turn0
  turn_is xs fails =
      let ys = xs ++ prepare s bs a b0 in
      let is : xs ++ steps ≡ (ys ++ program_header s b0 (ready_bytes s bs a b0) header0 ∷ [])
      ++ program_text s b0 new ++ (rel0 ++ steps1) =
      ap (λ zs. xs ++ zs) (append_assoc written0 rel0 steps1)
      ∙ sym (append_assoc xs written0 (rel0 ++ steps1))
      ∙ ap (λ zs. zs ++ (rel0 ++ steps1)) (sym (append_assoc xs (mount s bs a b0 header0) (program_text s b0 new)))
      ∙ ap (λ zs. zs ++ program_text s b0 new ++ (rel0 ++ steps1))
      (sym (append_assoc xs (prepare s bs a b0) (program_header s b0 (ready_bytes s bs a b0) header0 ∷ []))) in
      let sum = length-append xs (prepare s bs a b0) in
      ap (λ zs. turn s zs new) is
      ∙ turn-is s r.geometry (ready_bytes s bs a b0) made0.2.size header0 copy0.text.fits copy0.text.sound refl b0 new
      ys (rel0 ++ steps1)
      (fail-append (programs_copy s) xs (prepare s bs a b0) fails (on.prepare_fails r.image r.geometry a r.attached b0))
      ∙ omega arith

  pub two : count_by (programs_copy s) steps ≡ 2
  two =
      let one0 = one-copy s r.geometry (ready_bytes s bs a b0) made0.2.size header0 copy0.text.fits copy0.text.sound
      refl b0 new (prepare s bs a b0) rel0 (on.prepare_fails r.image r.geometry a r.attached b0)
      (on.release_fails r.image r.geometry a r.attached old0 (ec_at s bs old0)) in
      let one1 = one-copy s r.geometry (ready_bytes s bs a b1) made1.2.size header1 copy1.text.fits copy1.text.sound
      refl b1 new (prepare s bs a b1) rel1 (on.prepare_fails r.image r.geometry a r.attached b1)
      (on.release_fails r.image r.geometry a r.attached old1 (ec_at s bs old1)) in
      let sum = sum_by-append (λ (x : Step). cond (programs_copy s x) 1 0) steps0 steps1 in
      omega arith

  -- at the end both copies are good
  pub both_end : BothGood s (blocks_after s os steps (length steps)) (records_of n)
  both_end =
      subst (λ (z : List (List ℕ)). BothGood s z (records_of n))
      (after-all s cs steps1 ∙ sym (fold-append (step_done s) os steps0 steps1) ∙ sym (after-all s os steps))
      (second.from (length steps1) second.comes (omega arith)).both

  -- if the power fails during any step: until all pages of copy 0 are programmed, more than its own page may be harmed
  abbrev pub last0 : ℕ
  last0 = length (prepare s bs a b0) + suc (pages_of s new)

  pub last_is : last0 ≡ turn0 + (pages_of s new - pages_needed s new)
  last_is = let w = whole_place-is s new copy0.text.paged in let most = w.most in omega arith

  tears0 : AtEachTear s (EitherAt (λ x. AcceptsBlocks s x m) (λ x. AcceptsBlocks s x n) turn0 last0) os steps0
  tears0 = first_tears s r.geometry os m n acc r.reads b0 b1 old0 old1 inside0 spares_apart seq r.filling.agrees
      (started b0 named0) loses0 lost0 lost1 wins0 wins1 (a.scan.top_sqnum + 1 + r.at)
      (ready_bytes s bs a b0) made0.0 copy0 (prepare s bs a b0) rel0 made0.2 (release_is os old0 (started old0))

  tears1 : AtEachTear s (λ k f x. AcceptsBlocks s x n) cs steps1
  tears1 =
      tears-weaken s (EitherAt (λ x. AcceptsBlocks s x n) (λ x. AcceptsBlocks s x n)
      (length (prepare s bs a b1) + suc (pages_needed s new)) (length (prepare s bs a b1) + suc (pages_of s new)))
      (λ k f x. AcceptsBlocks s x n) cs steps1
      (λ k f x l y. elim y [ inl z ↦ z.1 | inr (inl z) ↦ z.1 | inr (inr z) ↦ z.2 ])
      (second_tears s r.geometry os n b0 b1 old1 seq (a.scan.top_sqnum + 1 + r.at + 1) cs half inside1
      (named_then b1 named1) (ready_bytes s bs a b1) made1.0 copy1 (prepare s bs a b1) rel1 made1.2
      (release_is cs old1 (named_then old1)))

  pub table_tears : AtEachTear s (EitherAt (λ x. AcceptsBlocks s x m) (λ x. AcceptsBlocks s x n) turn0 last0) os steps
  table_tears =
      tears-append s (EitherAt (λ x. AcceptsBlocks s x m) (λ x. AcceptsBlocks s x n) turn0 last0) os steps0 steps1 tears0
      (tears-weaken s (λ k f x. AcceptsBlocks s x n)
      (λ k. EitherAt (λ x. AcceptsBlocks s x m) (λ x. AcceptsBlocks s x n) turn0 last0 (length steps0 + k)) cs steps1
      (λ k f x l y. inr (inl ((let c = first.comes in omega arith), y))) tears1)
