use Rattle.ubi_change.proofs.Prelude.{refl, ap, sym, ◌∙◌, subst, err_from_is_err_and, Option, AreBytes, IsSome, weak_pages, Holders}
use Rattle.ubi_change.proofs.ReadyCauses.{unready_from}
use Rattle.ubi_change.proofs.written_out.make_ready.Goals as goal

pub returns-in_err-table-clause-refused : goal.returns-in_err-table-clause-refused
returns-in_err-table-clause-refused c =
    let from = err_from_is_err_and c.from_residual.result c.from_residual.ensures.1 in
    rw (from.1, from.2)
    (unready_from c.args.geometry.now c.args.surveyed.now c.args.ends.now c.args.wholes.now c.args.holders c.args.edits.now c.args.room
    c.in_err-table.field-0.0 c.in_err-table.ensures.refused)

pub returns-in-Some-weak_place-clause-refused : goal.returns-in-Some-weak_place-clause-refused
returns-in-Some-weak_place-clause-refused c = (
  c.in_ok-table.field-0,
  c.in_ok-table.ensures.judged,
  subst (λ (o : Option Holders). IsSome o) (sym c.in-Some.is) refl,
  ap (weak_pages c.args.geometry.now) (sym (c.as_slice.ensures.value ∙ c.in_ok-pages.ensures.pages)) ∙ sym c.weak_place.ensures.value
      ∙ c.in-Some-weak_place.is,
)

pub returns-clause-ready : goal.returns-clause-ready
returns-clause-ready c = record {
  table = c.in_ok-table.field-0.table;
  judged = c.in_ok-table.ensures.judged;
  records = c.in_ok-table.ensures.records;
  pages = c.in_ok-pages.ensures.pages;
  both = c.in-Some.is;
  strong = ap (weak_pages c.args.geometry.now) (sym c.as_slice.ensures.value) ∙ sym c.weak_place.ensures.value ∙ c.in-None.is;
}

pub returns-clause-bytes : goal.returns-clause-bytes
returns-clause-bytes c = subst AreBytes c.as_slice.ensures.value c.weak_place.ensures.bytes
