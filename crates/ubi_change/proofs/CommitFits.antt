-- Each step of the plan of a commit fits what those before it leave.
use Rattle.ubi_change.proofs.Prelude.{ℕ, ◌+◌, ◌<◌, List, [], ◌∷◌, ◌++◌, length, sym, subst, AreBytes, IsGeometry, Sizes, AllFit, AttachValue, ready_bytes, taken, table_pages, records_of, AllByRecursion, Laid, lay, lay_all, numbered, table_plan, trimmed}
use Rattle.ubi_change.proofs.CommitAttached as commit
use Rattle.ubi_change.proofs.CommitAttached.{Committing}
use Rattle.ubi_change.proofs.OrphansWritten.{AreReady, AreWritable}
use Rattle.ubi_change.proofs.Fits.{FitAll, all_fit, fit-append}
use Rattle.ubi_change.proofs.PlanFits.{written_fits}
use Rattle.ubi_change.proofs.Runs.{done}
use Rattle.ubi_change.proofs.TableAttached as table
use Rattle.ubi_change.proofs.TableFits.{table_fits}

-- a LEB whose text is bytes
abbrev pub HasBytes : Sizes → Laid → Type 0
HasBytes s l = AreBytes (trimmed s l.text) × (l.header.compat < 256)

module _ (s : Sizes) (g : IsGeometry s) (bs : List (List ℕ)) (a : AttachValue) where
  lay_fits : (ls : List Laid) (k : ℕ) (cs : List (List ℕ)) → AreReady s bs a cs k ls → AreWritable s bs a k ls
      → AllByRecursion (HasBytes s) ls → FitAll s cs (lay_all s bs a k ls)
  lay_fits [] k cs ready writable bytes = tt
  lay_fits (l ∷ ls) k cs ready writable bytes =
      fit-append s cs (lay s bs a k l) (lay_all s bs a (k + 1) ls)
      (written_fits s g bs a cs (taken s bs a k) ready.0 (ready_bytes s bs a (taken s bs a k)) ready.1 (numbered s bs a k l)
      bytes.0.1 ready.2 (trimmed s l.text) writable.0.paged writable.0.room bytes.0.0)
      (lay_fits ls (k + 1) (done s cs (lay s bs a k l)) ready.4 writable.1 bytes.1)

module _ (c : Committing) (texts : AllByRecursion (HasBytes (commit.s c)) c.laid)
    (pages : AreBytes (table_pages (commit.s c) (records_of (commit.n c)))) where
  pub commit_fits : AllFit (commit.s c) (commit.bs c)
      (lay_all (commit.s c) (commit.bs c) (commit.a c) 0 c.laid
      ++ table_plan (commit.s c) (commit.bs c) (commit.a c) (length c.laid) (commit.n c))
  commit_fits =
      let s = commit.s c in
      let bs = commit.bs c in
      let a = commit.a c in
      subst (AllFit s bs) (sym (commit.plan-is c))
      (all_fit s bs (commit.steps c)
      (fit-append s bs (commit.lays c) (table.steps (commit.w c))
      (lay_fits s c.geometry bs a c.laid 0 bs (commit.filled c).2 c.writable texts) (table_fits (commit.w c) pages)))
