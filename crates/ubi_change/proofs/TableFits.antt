-- Each step that rewrites the table fits what those before it leave.
use Rattle.ubi_change.proofs.Prelude.{arith, AreBytes, records_of, ready_bytes, ec_at}
use Rattle.ubi_change.proofs.Fits.{FitAll, fit-append}
use Rattle.ubi_change.proofs.PlanFits.{copy_fits}
use Rattle.ubi_change.proofs.TableAttached as table
use Rattle.ubi_change.proofs.TableAttached.{Rewriting}
use Rattle.ubi_change.proofs.TablePages.{pages_paged, pages_room}

module _ (r : Rewriting) (are : AreBytes (table.new r)) where
  pub table_fits : FitAll (table.s r) (table.os r) (table.steps r)
  table_fits =
      let g = r.geometry in
      let s = table.s r in
      let bs = table.bs r in
      let a = table.a r in
      let os = table.os r in
      let cs = table.cs r in
      let new = table.new r in
      let b0 = table.b0 r in
      let b1 = table.b1 r in
      let records = records_of (table.n r) in
      let paged = pages_paged s g records (table.size r) in
      let room = pages_room s g records (table.size r) in
      let there = (table.wins1 r).member.inside in
      let size = (table.half r).size in
      let first : FitAll s os (table.steps0 r) =
      copy_fits s g bs a os b0 (table.inside0 r) (ready_bytes s bs a b0) (table.made0 r).2.size (table.header0 r)
      (omega arith) (table.made0 r).2.ready new paged room are (table.old0 r) (ec_at s bs (table.old0 r))
      (table.wins0 r).member.inside in
      let second : FitAll s cs (table.steps1 r) =
      copy_fits s g bs a cs b1 (table.inside1 r) (ready_bytes s bs a b1) (table.made1 r).2.size (table.header1 r)
      (omega arith) (table.made1 r).2.ready new paged room are (table.old1 r) (ec_at s bs (table.old1 r))
      (omega arith) in
      fit-append s os (table.steps0 r) (table.steps1 r) first second
