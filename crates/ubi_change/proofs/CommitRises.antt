-- The plan of a commit programs the pages of an eraseblock in ascending order between two erases.
use Rattle.ubi_change.proofs.Prelude.{◌≢◌, ℕ, ◌+◌, ◌<◌, ◌≤◌, inl, inr, List, [], ◌∷◌, ◌++◌, append_assoc, length, sym, subst, arith, None, Option, cases_eq, Sizes, Wins, layout, records_of, AttachValue, RisesBetweenErases, taken, takeable, holder, Step, Laid, lay, lay_all, numbered, table_plan, trimmed}
use Rattle.ubi_change.proofs.Choosing.{all_apart}
use Rattle.ubi_change.proofs.CommitAttached as commit
use Rattle.ubi_change.proofs.CommitAttached.{Committing}
use Rattle.ubi_change.proofs.OrphansWritten.{AreReady}
use Rattle.ubi_change.proofs.HeadersKept.{KeepAll, keep-append, keeps_all, written_keeps}
use Rattle.ubi_change.proofs.PagesRise.{InOrder, page_0_twice, pages_rise, written_order}
use Rattle.ubi_change.proofs.Runs.{done}
use Rattle.ubi_change.proofs.StepsApart.{AllOff, copy_on, off-append, off_order, on_off, order_skip}
use Rattle.ubi_change.proofs.TableAttached as table
use Rattle.ubi_change.proofs.TableRises.{table_keeps, table_off, table_order}
use Rattle.ubi_change.proofs.Unused.{layout_counts}

module _ (c : Committing) where
  abbrev s : Sizes
  s = commit.s c

  abbrev bs : List (List ℕ)
  bs = commit.bs c

  abbrev a : AttachValue
  a = commit.a c

  abbrev count : ℕ
  count = length c.laid

  abbrev rest : List Step
  rest = table.steps (commit.w c)

  enough : count + 2 ≤ length (takeable s bs a.states)
  enough = c.enough

  pub apart : (i j : ℕ) → i < j → j < length (takeable s bs a.states) → taken s bs a i ≢ taken s bs a j
  apart i j l m = all_apart s bs a.states i j l m

  -- an eraseblock that is taken holds no copy
  pub no_holder : (i k : ℕ) → i < count → k < 2 → taken s bs a i ≢ holder s bs a k
  no_holder i k l m z =
      commit.begin_loses c i (let e = enough in omega arith) (layout, k) (layout_counts (records_of a.meaning) k)
      (subst (Wins s bs (layout, k)) (sym z) (commit.held c k m))

  -- so the steps on the table leave each that was taken before
  off_rest : (i : ℕ) → i < count → AllOff (taken s bs a i) rest
  off_rest i l =
      let e = enough in
      table_off (commit.w c) (taken s bs a i) (apart i count l (omega arith)) (no_holder i 0 l (omega arith))
      (apart i (count + 1) (omega arith) (omega arith)) (no_holder i 1 l (omega arith))

  -- and each LEB is written beside the others
  pub off_lays : (p : ℕ) (ls : List Laid) (k : ℕ) → ((i : ℕ) → k ≤ i → i < k + length ls → p ≢ taken s bs a i)
      → AllOff p (lay_all s bs a k ls)
  off_lays p [] k other = tt
  off_lays p (x ∷ ls) k other =
      off-append p (lay s bs a k x) (lay_all s bs a (k + 1) ls)
      (on_off s (taken s bs a k) p (lay s bs a k x)
      (copy_on s c.geometry bs a (taken s bs a k) (numbered s bs a k x) (trimmed s x.text))
      (other k (omega arith) (omega arith)))
      (off_lays p ls (k + 1) (λ i l m. other i (omega arith) (omega arith)))

  lay_order : (p : ℕ) (ls : List Laid) (k : ℕ) → k + length ls ≤ count → InOrder p 0 (lay_all s bs a k ls ++ rest)
  lay_order p [] k m = table_order (commit.w c) p
  lay_order p (x ∷ ls) k m =
      subst (InOrder p 0) (sym (append_assoc (lay s bs a k x) (lay_all s bs a (k + 1) ls) rest))
      (by_place (lay_order p ls (k + 1) (omega arith)))
    where
      on_lay : p ≢ taken s bs a k → AllOff p (lay s bs a k x)
      on_lay other = on_off s (taken s bs a k) p (lay s bs a k x)
          (copy_on s c.geometry bs a (taken s bs a k) (numbered s bs a k x) (trimmed s x.text)) other

      off_here : AllOff (taken s bs a k) (lay_all s bs a (k + 1) ls ++ rest)
      off_here = off-append (taken s bs a k) (lay_all s bs a (k + 1) ls) rest
          (off_lays (taken s bs a k) ls (k + 1) (λ i l n. apart k i (omega arith) (let e = enough in omega arith)))
          (off_rest k (omega arith))

      by_place : InOrder p 0 (lay_all s bs a (k + 1) ls ++ rest)
          → InOrder p 0 (lay s bs a k x ++ (lay_all s bs a (k + 1) ls ++ rest))
      by_place behind = elim (cases_eq p (taken s bs a k)) [
        | inr other ↦ order_skip p 0 (lay s bs a k x) (lay_all s bs a (k + 1) ls ++ rest) (on_lay other) behind
        | inl same ↦ written_order s c.geometry bs a p (taken s bs a k) 0 (numbered s bs a k x) (trimmed s x.text)
            (lay_all s bs a (k + 1) ls ++ rest) (λ _. omega arith)
            (λ n. off_order p n (lay_all s bs a (k + 1) ls ++ rest)
            (subst (λ (q : ℕ). AllOff q (lay_all s bs a (k + 1) ls ++ rest)) (sym same) off_here))
      ]

  lay_keeps : (ls : List Laid) (k : ℕ) (cs : List (List ℕ)) (last : Option ℕ) → AreReady s bs a cs k ls
      → KeepAll s last cs (lay_all s bs a k ls)
  lay_keeps [] k cs last ready = tt
  lay_keeps (x ∷ ls) k cs last ready =
      keep-append s last cs (lay s bs a k x) (lay_all s bs a (k + 1) ls)
      (written_keeps s c.geometry bs a last cs (taken s bs a k) ready.0 ready.1 (numbered s bs a k x) ready.2
      (trimmed s x.text))
      (λ l. lay_keeps ls (k + 1) (done s cs (lay s bs a k x)) l ready.4)

  order : (p : ℕ) → InOrder p 0 (commit.steps c)
  order p = lay_order p c.laid 0 (omega arith)

  keeps : KeepAll s None bs (commit.steps c)
  keeps = keep-append s None bs (commit.lays c) rest (lay_keeps c.laid 0 bs None (commit.filled c).2)
      (λ l. table_keeps (commit.w c) l)

  pub commit_rises : RisesBetweenErases s bs (lay_all s bs a 0 c.laid ++ table_plan s bs a (length c.laid) (commit.n c))
  commit_rises = subst (RisesBetweenErases s bs) (sym (commit.plan-is c)) (record {
    rises = pages_rise (commit.steps c) order;
    twice = page_0_twice (commit.steps c) order;
    keeps = keeps_all s bs (commit.steps c) keeps;
  })
