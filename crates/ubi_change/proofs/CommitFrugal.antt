-- The plan of a commit erases what held a copy of the table once the new one is good, and counts each erase.
use Rattle.ubi_change.proofs.Prelude.{◌≡◌, ◌≢◌, ℕ, ◌+◌, ◌<◌, ◌≤◌, false, List, [], ◌∷◌, ◌++◌, append_assoc, append-nil, length, refl, ap, sym, subst, ◌∙◌, arith, fold-append, count_by, filled, set, Sizes, CopyIs, AttachValue, records_of, erases, Erases, holder, prepare, ready_bytes, taken, takeable, blocks_after, step_done, ec_at, stays, CountsErases, Step, Laid, lay, lay_all, numbered, table_plan, trimmed, IsFrugalCommit}
use Rattle.ubi_table.specs.declared.copy.CopyRead.TheVariants as copy
use Rattle.ubi_change.proofs.CommitAttached as commit
use Rattle.ubi_change.proofs.CommitAttached.{Committing}
use Rattle.ubi_change.proofs.CommitRises.{apart, no_holder, off_lays}
use Rattle.ubi_change.proofs.CommitTouches.{commit_touches}
use Rattle.ubi_change.proofs.CountsErases.{AllCounted, counted, erases-append, erases_none, written_counted}
use Rattle.ubi_change.proofs.OrphansWritten.{AreReady, AreWritable}
use Rattle.ubi_change.proofs.Choosing.{may_be_taken}
use Rattle.ubi_change.proofs.GivenUp.{step_behind}
use Rattle.ubi_change.proofs.Runs.{after-back, done}
use Rattle.ubi_change.proofs.StepsApart.{copy_on, off_erases}
use Rattle.ubi_change.proofs.TableAttached as table
use Rattle.ubi_change.proofs.TableFrugal.{table_counts, table_gives_up}

module _ (c : Committing) where
  abbrev s : Sizes
  s = commit.s c

  abbrev bs : List (List ℕ)
  bs = commit.bs c

  abbrev a : AttachValue
  a = commit.a c

  abbrev count : ℕ
  count = length c.laid

  enough : count + 2 ≤ length (takeable s bs a.states)
  enough = c.enough

  lay_counts : (ls : List Laid) (k : ℕ) (cs : List (List ℕ)) (front : List Step) → AreReady s bs a cs k ls
      → AreWritable s bs a k ls → AllCounted s c.geometry bs a front → done s bs front ≡ cs → k + length ls ≤ count
      → ((i : ℕ) → k ≤ i → i < count → count_by (erases (taken s bs a i)) front ≡ 0)
      → AllCounted s c.geometry bs a (front ++ lay_all s bs a k ls)
  lay_counts [] k cs front ready writable all is few never = subst (AllCounted s c.geometry bs a) (sym (append-nil front)) all
  lay_counts (x ∷ ls) k cs front ready writable all is few never =
      subst (AllCounted s c.geometry bs a) (append_assoc front (lay s bs a k x) (lay_all s bs a (k + 1) ls))
      (lay_counts ls (k + 1) (done s cs (lay s bs a k x)) (front ++ lay s bs a k x) ready.4 writable.1 one next (omega arith)
      never_then)
    where
      b : ℕ
      b = taken s bs a k

      one : AllCounted s c.geometry bs a (front ++ lay s bs a k x)
      one =
          let e = ready.3 in
          written_counted s c.geometry bs a front all (taken s bs a k)
          (may_be_taken s bs a.states k (let h = enough in omega arith)).0 (never k (omega arith) (omega arith)) e.0 e.1
          ready.1 e.2
          (subst (λ (z : List (List ℕ)). done s z (prepare s bs a (taken s bs a k))
          ≡ set z (taken s bs a k) (filled s.peb_size (ready_bytes s bs a (taken s bs a k)))) (sym is) ready.2)
          (numbered s bs a k x) (trimmed s x.text) writable.0.paged writable.0.room

      next : done s bs (front ++ lay s bs a k x) ≡ done s cs (lay s bs a k x)
      next = fold-append (step_done s) bs front (lay s bs a k x)
          ∙ ap (λ (z : List (List ℕ)). done s z (lay s bs a k x)) is

      never_then : (i : ℕ) → k + 1 ≤ i → i < count → count_by (erases (taken s bs a i)) (front ++ lay s bs a k x) ≡ 0
      never_then i l m =
          let j = erases-append (taken s bs a i) front (lay s bs a k x) in
          let before = never i (omega arith) m in
          let here = erases_none s (taken s bs a k) (taken s bs a i) (lay s bs a k x)
          (copy_on s c.geometry bs a (taken s bs a k) (numbered s bs a k x) (trimmed s x.text))
          (λ z. apart c k i (omega arith) (let h = enough in omega arith) (sym z)) in
          omega arith

  start : AllCounted s c.geometry bs a []
  start p = refl

  lays_counted : AllCounted s c.geometry bs a (commit.lays c)
  lays_counted = lay_counts c.laid 0 bs [] (commit.filled c).2 c.writable start refl (omega arith) (λ i l m. refl)

  none_of : (p : ℕ) → ((i : ℕ) → 0 ≤ i → i < 0 + length c.laid → p ≢ taken s bs a i)
      → count_by (erases p) (commit.lays c) ≡ 0
  none_of p other = off_erases p (commit.lays c) (off_lays c p c.laid 0 other)

  counts : AllCounted s c.geometry bs a (commit.steps c)
  counts =
      table_counts (commit.w c) (commit.lays c) lays_counted refl
      (none_of (taken s bs a count) (λ i l m z. apart c i count (omega arith) (let h = enough in omega arith) (sym z)))
      (none_of (taken s bs a (count + 1)) (λ i l m z. apart c i (count + 1) (omega arith) (let h = enough in omega arith) (sym z)))
      (none_of (holder s bs a 0) (λ i l m z. no_holder c i 0 (omega arith) (omega arith) (sym z)))
      (none_of (holder s bs a 1) (λ i l m z. no_holder c i 1 (omega arith) (omega arith) (sym z)))

  gives_up : (k : ℕ) → k < 2 → stays s bs (holder s bs a k) (ec_at s bs (holder s bs a k)) ≡ false
      → (j : ℕ) × Erases (commit.steps c) j (holder s bs a k)
      × CopyIs s (blocks_after s bs (commit.steps c) j) k (copy.Good (records_of (commit.n c)))
  gives_up k l fresh =
      let h = table_gives_up (commit.w c) k l fresh in (
        length (commit.lays c) + h.0,
        step_behind (commit.lays c) (table.steps (commit.w c)) (length (commit.lays c) + h.0) h.0 refl ∙ h.2,
        subst (λ (z : List (List ℕ)). CopyIs s z k (copy.Good (records_of (commit.n c))))
            (sym (after-back s bs (commit.lays c) (table.steps (commit.w c)) h.0)) h.3,
      )

  pub commit_frugal : IsFrugalCommit s bs a (count + 2) (commit.n c)
      (lay_all s bs a 0 c.laid ++ table_plan s bs a count (commit.n c))
  commit_frugal = record {
    touches = commit_touches c;
    gives_up = subst (λ (xs : List Step). (k : ℕ) → k < 2 → stays s bs (holder s bs a k) (ec_at s bs (holder s bs a k)) ≡ false
        → (j : ℕ) × Erases xs j (holder s bs a k)
        × CopyIs s (blocks_after s bs xs j) k (copy.Good (records_of (commit.n c)))) (sym (commit.plan-is c)) gives_up;
    counts = subst (CountsErases s bs a) (sym (commit.plan-is c)) (counted s c.geometry bs a (commit.steps c) counts);
  }
