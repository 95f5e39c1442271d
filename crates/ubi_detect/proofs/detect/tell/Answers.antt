use Rattle.ubi_detect.proofs.Prelude.{◌∙◌, sym, refl, arith, eqb-true, nil_from_length}
use Rattle.ubi_detect.proofs.MostVoted.{no_page_is}
use Rattle.ubi_detect.proofs.detect.tell.Goals as goal

pub returns-then-are_none-clause-refused : goal.returns-then-are_none-clause-refused
returns-then-are_none-clause-refused g c =
    let none = eqb-true _ _ (sym c.is_empty.ensures ∙ c.if-not-is_empty.false) in
    let ok = c.in_ok-found.found.ok in (
      λ bytes holds. sym (c.in_ok-found.ensures.told bytes holds) ∙ nil_from_length c.in_ok-found.found.items (omega (arith, none, ok)),
      no_page_is c.args.group.now c.args.ways.now c.requires.ways ∙ sym c.are_none.ensures ∙ c.if-are_none.true,
      refl,
      refl,
    )

pub returns-clause-refused : goal.returns-clause-refused
returns-clause-refused g c =
    let none = eqb-true _ _ (sym c.is_empty.ensures ∙ c.if-not-is_empty.false) in
    let ok = c.in_ok-found.found.ok in (
      λ bytes holds. sym (c.in_ok-found.ensures.told bytes holds) ∙ nil_from_length c.in_ok-found.found.items (omega (arith, none, ok)),
      no_page_is c.args.group.now c.args.ways.now c.requires.ways ∙ sym c.are_none.ensures ∙ c.if-are_none.false,
      refl,
    )
