-- The plan of a commit of an attached image: LEBs are written as orphans, and then the table by which they count. It survives
-- every cut.
use Rattle.ubi_change.proofs.Prelude.{◌≡◌, ℕ, zero, suc, ◌+◌, ◌<◌, ◌≤◌, ◌⊎◌, inl, inr, cond, List, [], ◌∷◌, ◌++◌, length, refl, ap, sym, ◌∙◌, subst, arith, None, Option, Some, option_map_or, count_by, nat_lt, cases_lt, fold-append, sum_by-append, IsGeometry, Sizes, Image, eraseblocks, of_blocks, Leb, NoMember, Wins, layout, leb_of, named_in, AcceptsBlocks, AttachValue, IsOutside, Meant, Records, records_of, VolumeRecord, BothGood, found_wins, programs_copy, turn, holder, taken, takeable, table_pages, weak_pages, blocks_after, step_done, Step, same_Some, Static, get, VolKind, lay_all, table_plan, Laid, LeavesBoth, SurvivesCommit, AllByRecursion, AreApart, IsNoneOf, ◌-◌, SurvivesHarm, SurvivesTears, pages_needed, pages_of}
use Rattle.ubi_volume.proofs.Winners.{none_found}
use Rattle.std.specs.FinMap as finite
use Rattle.ubi_media.specs.declared.vid.VolKind.TheVariants as kind
use Rattle.ubi_change.proofs.OrphansWritten.{AreFilled, AreWritable, IsWritten, filled_all}
use Rattle.ubi_change.proofs.OrphanWritten.{IsFilling, filling_none}
use Rattle.ubi_change.proofs.MeaningKept.{KeepsLeb}
use Rattle.ubi_change.proofs.PlanPremises.{IsShown}
use Rattle.ubi_change.proofs.Runs.{TurnsAt, after-all, done, turns-behind}
use Rattle.ubi_change.proofs.Survives.{accepted_at}
use Rattle.ubi_change.proofs.TableAccepted.{ReadsAs}
use Rattle.ubi_change.proofs.TornCopy.{EitherAt, any_tears, exact_tears, later}
use Rattle.ubi_change.proofs.TornRuns.{AtEachTear, tears-append, tears-weaken}
use Rattle.ubi_change.proofs.TableAttached as table
use Rattle.ubi_change.proofs.TableAttached.{Rewriting}
use Rattle.ubi_change.proofs.Turned.{count-none}
use Rattle.ubi_change.proofs.Unused.{layout_counts, used_by_winner}
use Rattle.ubi_change.proofs.Vacated.{LosesAll}

-- a LEB counts by a table or doesn't
pub outside_or_not : (t : Records) (of : Leb) → IsOutside t of ⊎ (IsOutside t of → ⊥)
outside_or_not t of = elim (cases_lt of.0 128) [
  | inr far ↦ inr (λ h. (let l = h.0 in omega arith))
  | inl user ↦ by_record (finite.get t.of of.0) refl user
]
  where
    by_kind : (r : VolumeRecord) → finite.get t.of of.0 ≡ Some r → of.0 < 128 → (k : VolKind) → r.kind ≡ k
        → IsOutside t of ⊎ (IsOutside t of → ⊥)
    by_kind r e user kind.Static static = inr (λ h. elim h.1 [
      | inl none ↦ (let f = none in absurd (cc))
      | inr k ↦
          let same : k.0 ≡ r = same_Some k.0 r (sym k.1 ∙ e) in
          let dynamic : r.kind ≡ kind.Dynamic = sym (ap (λ (q : VolumeRecord). q.kind) same) ∙ k.2 in
          absurd (cc)
    ])
    by_kind r e user kind.Dynamic dynamic = elim (cases_lt of.1 r.reserved) [
      | inr beyond ↦ inl (user, inr (r, e, dynamic, beyond))
      | inl within ↦ inr (λ h. elim h.1 [
        | inl none ↦ (let f = none in absurd (cc))
        | inr k ↦
            let same : k.0 ≡ r = same_Some k.0 r (sym k.1 ∙ e) in
            let l : r.reserved ≤ of.1 = subst (λ (q : VolumeRecord). q.reserved ≤ of.1) same k.3 in
            omega arith
      ])
    ]

    by_record : (o : Option VolumeRecord) → finite.get t.of of.0 ≡ o → of.0 < 128 → IsOutside t of ⊎ (IsOutside t of → ⊥)
    by_record None e user = inl (user, inl e)
    by_record (Some r) e user = by_kind r e user r.kind refl

-- LEBs and a meaning that an attached image can be given: nothing of the old meaning counts the LEBs, and once they are written
-- the eraseblocks read as the new one by its table
pub record Committing : Type 0 where
  pub image : Image
  pub geometry : IsGeometry image.sizes
  pub from : AttachValue
  pub attached : IsShown image from
  pub laid : List Laid
  pub next : Meant
  pub writable : of_blocks AreWritable image from 0 laid
  pub outside : AllByRecursion (λ l. IsOutside (records_of from.meaning) (leb_of l.header)) laid
  pub apart : AreApart laid
  -- what the new table counts and the old one didn't has no member
  pub fresh : (of : Leb) → IsOutside (records_of from.meaning) of → (IsOutside (records_of next) of → ⊥)
      → of_blocks NoMember image of
  pub reads : (ds : List (List ℕ)) → of_blocks AreFilled image from (eraseblocks image) 0 laid ds → ReadsAs image.sizes ds next
  pub both : of_blocks BothGood image (records_of from.meaning)
  pub strong : weak_pages image.sizes (table_pages image.sizes (records_of next)) ≡ None
  pub few : from.scan.top_sqnum + 1 + (length laid + 1) ≤ 0xFFFFFFFFFFFFFFFF
  pub enough : length laid + 2 ≤ length (of_blocks takeable image from.states)

module _ (c : Committing) where
  abbrev pub s : Sizes
  s = c.image.sizes

  abbrev pub bs : List (List ℕ)
  bs = eraseblocks c.image

  abbrev pub a : AttachValue
  a = c.from

  abbrev pub m : Meant
  m = a.meaning

  abbrev pub n : Meant
  n = c.next

  holder_wins : (k p : ℕ) → Wins s bs (layout, k) p → Wins s bs (layout, k) (holder s bs a k)
  holder_wins k p w = by_found (finite.get a.scan.winners (layout, k)) refl
    where
      by_found : (o : Option ℕ) → finite.get a.scan.winners (layout, k) ≡ o
          → Wins s bs (layout, k) (option_map_or (λ (p : ℕ). p) o 0)
      by_found (Some q) e = found_wins s bs (record a.scan { top_sqnum = c.attached.top }) c.attached.scan (layout, k) q e
      by_found None e = absurd (none_found s bs (record a.scan { top_sqnum = c.attached.top }) c.attached.scan (layout, k) e p w.member)

  pub held : (k : ℕ) → k < 2 → Wins s bs (layout, k) (holder s bs a k)
  held zero l = holder_wins 0 c.both.0.0 c.both.0.1
  held (suc zero) l = holder_wins 1 c.both.1.0 c.both.1.1
  held (suc (suc k)) l = absurd (omega arith)

  begin : IsFilling s bs a 0 bs
  begin = filling_none c.image c.geometry a c.attached
      (used_by_winner s bs (layout, 0) (holder s bs a 0) (held 0 (omega arith)))

  pub begin_loses : (i : ℕ) → i < length (takeable s bs a.states) → LosesAll s bs (records_of m) (taken s bs a i)
  begin_loses i l = begin.loses i (omega arith) l

  abbrev pub lays : List Step
  lays = lay_all s bs a 0 c.laid

  -- the eraseblocks once the LEBs are written
  abbrev pub ds : List (List ℕ)
  ds = done s bs lays

  pub filled : IsWritten s bs a bs 0 c.laid
  filled = filled_all c.image c.geometry a c.attached c.laid 0 bs begin (let e = c.enough in omega arith) c.writable
      c.outside c.apart

  abbrev count : ℕ
  count = length c.laid

  pub filling : IsFilling s bs a count ds
  filling = let e : 0 + count ≡ count = omega arith in subst (λ (k : ℕ). IsFilling s bs a k ds) e filled.3.filling

  none_of_counted : (of : Leb) → (IsOutside (records_of m) of → ⊥) → IsNoneOf c.laid of
  none_of_counted of counts = each c.laid c.outside
    where
      each : (ls : List Laid) → AllByRecursion (λ l. IsOutside (records_of m) (leb_of l.header)) ls → IsNoneOf ls of
      each [] e = tt
      each (l ∷ ls) e = ((λ z. counts (subst (IsOutside (records_of m)) z e.0)), each ls e.1)

  -- what counted keeps its winner
  pub counted_kept : (of : Leb) → (IsOutside (records_of m) of → ⊥) → KeepsLeb s bs ds of
  counted_kept of counts = filled.3.keeps of (none_of_counted of counts)
      (λ i l h w. begin.loses i l (let e = c.enough in omega arith) of counts w)

  -- an eraseblock that isn't taken yet wins nothing by the new table either
  pub lost : (i : ℕ) → count ≤ i → i < length (takeable s bs a.states) → LosesAll s ds (records_of n) (taken s bs a i)
  lost i l h of counts w = elim (outside_or_not (records_of m) of) [
    | inr counted ↦ filling.loses i l h of counted w
    | inl out ↦ c.fresh of out counts (taken s bs a i) (record {
      inside = (let k = w.member.inside in let e = filling.size in omega arith);
      named = ap (named_in s) (sym (filling.same i l h)) ∙ w.member.named;
    })
  ]

  -- it rewrites the table
  abbrev pub w : Rewriting
  w = record {
    image = c.image;
    geometry = c.geometry;
    from = a;
    attached = c.attached;
    at = count;
    start = ds;
    filling = filling;
    next = n;
    reads = c.reads ds filled.3;
    lost = lost;
    wins = λ k l. ((counted_kept (layout, k) (layout_counts (records_of m) k)).winner (holder s bs a k) (held k l)).0;
    strong = c.strong;
    few = c.few;
    enough = c.enough;
  }

  abbrev pub steps : List Step
  steps = lays ++ table.steps w

  pub plan-is : lay_all s bs a 0 c.laid ++ table_plan s bs a (length c.laid) n ≡ steps
  plan-is = ap (λ (xs : List Step). lays ++ xs) (table.plan-is w)

  turns : TurnsAt s (λ x. AcceptsBlocks s x m) (λ x. AcceptsBlocks s x n) bs steps (length lays + table.turn0 w)
  turns = turns-behind s (λ x. AcceptsBlocks s x m) (λ x. AcceptsBlocks s x n) bs lays (table.steps w) (table.turn0 w)
      filled.0 (table.turns w)

  place : turn s steps (table_pages s (records_of n)) ≡ length lays + table.turn0 w
  place = table.turn_is w lays filled.1

  survives_steps : SurvivesCommit s bs m n steps
  survives_steps = record {
    two_copies = two;
    comes = (let t = turns.comes in let p = place in omega arith);
    each = λ k l. subst (λ (t : ℕ). AcceptsBlocks s (blocks_after s bs steps k) (cond (nat_lt k t) m n)) (sym place)
        (accepted_at s bs m n steps (length lays + table.turn0 w) turns k l);
  }
    where
      two : count_by (programs_copy s) steps ≡ 2
      two =
          let none = count-none (programs_copy s) lays filled.1 in
          let behind = table.two w in
          let sum = sum_by-append (λ (x : Step). cond (programs_copy s x) 1 0) lays (table.steps w) in
          omega arith

  pub survives_commit : SurvivesCommit s bs m n (lay_all s bs a 0 c.laid ++ table_plan s bs a (length c.laid) n)
  survives_commit = subst (SurvivesCommit s bs m n) (sym plan-is) survives_steps

  both_end : LeavesBoth s bs n steps
  both_end =
      subst (λ (z : List (List ℕ)). BothGood s z (records_of n))
      (after-all s ds (table.steps w) ∙ sym (fold-append (step_done s) bs lays (table.steps w)) ∙ sym (after-all s bs steps))
      (table.both_end w)

  pub leaves_both : LeavesBoth s bs n (lay_all s bs a 0 c.laid ++ table_plan s bs a (length c.laid) n)
  leaves_both = subst (LeavesBoth s bs n) (sym plan-is) both_end

  -- if the power fails during any step, the old is meant before the turn, and the new from it on
  abbrev last : ℕ
  last = length lays + table.last0 w

  tears : AtEachTear s (EitherAt (λ x. AcceptsBlocks s x m) (λ x. AcceptsBlocks s x n) (length lays + table.turn0 w) last)
      bs steps
  tears =
      tears-append s (EitherAt (λ x. AcceptsBlocks s x m) (λ x. AcceptsBlocks s x n) (length lays + table.turn0 w) last) bs lays
      (table.steps w)
      (tears-weaken s (λ i d x. AcceptsBlocks s x m)
      (EitherAt (λ x. AcceptsBlocks s x m) (λ x. AcceptsBlocks s x n) (length lays + table.turn0 w) last) bs lays
      (λ i d x l y. inl (omega arith, y)) filled.4)
      (tears-weaken s (EitherAt (λ x. AcceptsBlocks s x m) (λ x. AcceptsBlocks s x n) (table.turn0 w) (table.last0 w))
      (λ i. EitherAt (λ x. AcceptsBlocks s x m) (λ x. AcceptsBlocks s x n) (length lays + table.turn0 w) last (length lays + i))
      ds (table.steps w)
      (λ i d x l y. later (λ x. AcceptsBlocks s x m) (λ x. AcceptsBlocks s x n) (table.turn0 w) (table.last0 w) (length lays) i d x y)
      (table.table_tears w))

  -- the turn and the last page of copy 0, by the plan
  plan_place : turn s (lays ++ table_plan s bs a count n) (table_pages s (records_of n)) ≡ length lays + table.turn0 w
  plan_place = ap (λ (xs : List Step). turn s xs (table_pages s (records_of n))) plan-is ∙ place

  pub commit_tears : SurvivesTears s bs m n (lays ++ table_plan s bs a count n)
      (turn s (lays ++ table_plan s bs a count n) (table_pages s (records_of n)))
  commit_tears =
      subst (SurvivesTears s bs m n (lays ++ table_plan s bs a count n)) (sym plan_place)
      (subst (λ (xs : List Step). SurvivesTears s bs m n xs (length lays + table.turn0 w)) (sym plan-is)
      (exact_tears s bs m n steps (length lays + table.turn0 w) last tears))

  pub commit_harm : SurvivesHarm s bs m n (lays ++ table_plan s bs a count n)
      (turn s (lays ++ table_plan s bs a count n) (table_pages s (records_of n)))
      (turn s (lays ++ table_plan s bs a count n) (table_pages s (records_of n))
      + (pages_of s (table_pages s (records_of n)) - pages_needed s (table_pages s (records_of n))))
  commit_harm =
      let end : last ≡ length lays + table.turn0 w
      + (pages_of s (table_pages s (records_of n)) - pages_needed s (table_pages s (records_of n))) =
      (let e = table.last_is w in omega arith) in
      subst (λ (t : ℕ). SurvivesHarm s bs m n (lays ++ table_plan s bs a count n) t
      (t + (pages_of s (table_pages s (records_of n)) - pages_needed s (table_pages s (records_of n))))) (sym plan_place)
      (subst (SurvivesHarm s bs m n (lays ++ table_plan s bs a count n) (length lays + table.turn0 w)) end
      (subst (λ (xs : List Step). SurvivesHarm s bs m n xs (length lays + table.turn0 w) last) (sym plan-is)
      (any_tears s bs m n steps (length lays + table.turn0 w) last (let e = table.last_is w in omega arith) tears)))
