use Rattle.ubi_detect.proofs.Prelude.{rules, ◌∙◌, nat_le, sym, le-leb, lt-leb, IfOk-weaker, is_whole_size}
use Rattle.ubi_detect.proofs.InTurn.{fourth_decides, none_of, second_passes}
use Rattle.ubi_detect.proofs.Looking.{looks_on, looks_same}
use Rattle.ubi_detect.proofs.sure.says_so.Goals as goal

pub returns-then-group-lt3-clause-says : goal.returns-then-group-lt3-clause-says
returns-then-group-lt3-clause-says g c = λ bytes holds.
    none_of _ _ _ _
    (sym (c.in_ok-some_ends_blank.ensures.ends bytes (c.in_ok-tables_meet.ensures.source.narrows bytes holds)) ∙ c.if-not-branch.false)
    (sym (c.in_ok-tables_meet.ensures.meet bytes holds) ∙ c.if-branch.false) (lt-leb 3 c.args.group.now.count c.if-group-lt3.true)

pub returns-clause-source : goal.returns-clause-source
returns-clause-source g c = record {
  known = search rules;
  narrows = λ bytes holds.
      c.in_ok-some_ends_blank.ensures.source.narrows bytes (c.in_ok-tables_meet.ensures.source.narrows bytes (c.is_whole_size.ensures.source.narrows bytes holds));
  named = search rules;
}

pub returns-clause-says : goal.returns-clause-says
returns-clause-says g c =
    IfOk-weaker c.is_whole_size.result _ _
    (λ says is bytes holds.
    let after = c.is_whole_size.ensures.source.narrows bytes holds in
    fourth_decides _ _ _ _ says
    (sym (c.in_ok-some_ends_blank.ensures.ends bytes (c.in_ok-tables_meet.ensures.source.narrows bytes after)) ∙ c.if-not-branch.false)
    (sym (c.in_ok-tables_meet.ensures.meet bytes after) ∙ c.if-branch.false) (le-leb 3 c.args.group.now.count c.if-group-lt3.false)
    (is bytes holds))
    c.is_whole_size.ensures.is

pub returns-in_err-tables_meet-clause-source : goal.returns-in_err-tables_meet-clause-source
returns-in_err-tables_meet-clause-source g c = record {
  known = search rules;
  narrows = λ bytes holds. c.in_ok-some_ends_blank.ensures.source.narrows bytes (c.tables_meet.ensures.source.narrows bytes holds);
  named = search rules;
}

pub returns-then-branch-clause-source : goal.returns-then-branch-clause-source
returns-then-branch-clause-source g c =
    looks_same _ _ _ _ _ (looks_on _ _ _ _ _ _ c.in_ok-some_ends_blank.ensures.source c.in_ok-tables_meet.ensures.source)

pub returns-then-branch-clause-says : goal.returns-then-branch-clause-says
returns-then-branch-clause-says g c = λ bytes holds.
    second_passes _ _ (nat_le 3 c.args.group.now.count) (is_whole_size bytes c.args.group.now)
    (sym (c.in_ok-some_ends_blank.ensures.ends bytes (c.in_ok-tables_meet.ensures.source.narrows bytes holds)) ∙ c.if-not-branch.false)
    (sym (c.in_ok-tables_meet.ensures.meet bytes holds) ∙ c.if-branch.true)

pub returns-then-group-lt3-clause-source : goal.returns-then-group-lt3-clause-source
returns-then-group-lt3-clause-source g c =
    looks_same _ _ _ _ _ (looks_on _ _ _ _ _ _ c.in_ok-some_ends_blank.ensures.source c.in_ok-tables_meet.ensures.source)
