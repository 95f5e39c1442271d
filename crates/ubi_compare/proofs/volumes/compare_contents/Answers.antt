use Rattle.ubi_compare.proofs.Prelude.{◌∙◌, List, ◌++◌, sym, subst, on_ok_weaker, entry_of, condition_of, leb_differences, length_differences, same_condition, unless, Difference, Adds}
use Rattle.ubi_compare.proofs.Adding.{adds_more, adds_none, adds_settled}
use Rattle.ubi_compare.proofs.Differing.{both_cases, left_unread, other_sizes, right_unread}
use Rattle.ubi_compare.specs.declared.difference.Difference.TheVariants as difference
use Rattle.ubi_compare.proofs.volumes.compare_contents.Goals as goal

pub returns-then-is_settled-clause-told : goal.returns-then-is_settled-clause-told
returns-then-is_settled-clause-told g c = λ x xs y ys h k v w at bt.
    let s = c.args.geometry.now in
    let id = c.args.id in
    let here = c.args.here in
    let there = c.args.there in
    let a = c.requires.here.case x xs h v at in
    let b = c.requires.there.case y ys k w bt in
    let f = c.args.found.now in
    let e = c.compare_lengths.new.found in
    let front = both_cases s id v w here.case there.case a b f c.add_unless.new.self e
    (rw (c.is_same_condition-is_same.ensures, c.condition_of-one.ensures, c.condition_of-other.ensures)
    at c.in_ok-add_unless.ensures) c.in_ok-compare_lengths.ensures in
    adds_more f e e (unless (same_condition (condition_of v.content) (condition_of w.content))
    (difference.Condition id (condition_of v.content) (condition_of w.content)) ++ length_differences id v.content w.content)
    (leb_differences s id v w) front
    (adds_settled e (leb_differences s id v w) (c.is_settled.ensures.brief c.if-is_settled.true)
    (c.is_settled.ensures.some c.if-is_settled.true))

pub returns-in-Err-clause-told : goal.returns-in-Err-clause-told
returns-in-Err-clause-told g c = λ x xs y ys h k v w at bt.
    let s = c.args.geometry.now in
    let id = c.args.id in
    let here = c.args.here in
    let there = c.args.there in
    let a = c.requires.here.case x xs h v at in
    let b = c.requires.there.case y ys k w bt in
    let f = c.args.found.now in
    let e = c.compare_lengths.new.found in
    let front = both_cases s id v w here.case there.case a b f c.add_unless.new.self e
    (rw (c.is_same_condition-is_same.ensures, c.condition_of-one.ensures, c.condition_of-other.ensures)
    at c.in_ok-add_unless.ensures) c.in_ok-compare_lengths.ensures in
    adds_more f e e (unless (same_condition (condition_of v.content) (condition_of w.content))
    (difference.Condition id (condition_of v.content) (condition_of w.content)) ++ length_differences id v.content w.content)
    (leb_differences s id v w) front
    (subst (λ (ds : List Difference). Adds e e ds)
    (sym (left_unread s id v w here.case there.case a b c.in-Err.field-0 here.entry.now (entry_of s x here.survey.now h id here.entry.now c.requires.here.recorded v at)
    (sym c.of.ensures.value ∙ c.in-Err.is))) (adds_none e))

pub returns-in-Err-of-clause-told : goal.returns-in-Err-of-clause-told
returns-in-Err-of-clause-told g c = λ x xs y ys h k v w at bt.
    let s = c.args.geometry.now in
    let id = c.args.id in
    let here = c.args.here in
    let there = c.args.there in
    let a = c.requires.here.case x xs h v at in
    let b = c.requires.there.case y ys k w bt in
    let f = c.args.found.now in
    let e = c.compare_lengths.new.found in
    let front = both_cases s id v w here.case there.case a b f c.add_unless.new.self e
    (rw (c.is_same_condition-is_same.ensures, c.condition_of-one.ensures, c.condition_of-other.ensures)
    at c.in_ok-add_unless.ensures) c.in_ok-compare_lengths.ensures in
    adds_more f e e (unless (same_condition (condition_of v.content) (condition_of w.content))
    (difference.Condition id (condition_of v.content) (condition_of w.content)) ++ length_differences id v.content w.content)
    (leb_differences s id v w) front
    (subst (λ (ds : List Difference). Adds e e ds)
    (sym (right_unread s id v w here.case there.case a b c.in-Err-of.field-0 there.entry.now (entry_of s y there.survey.now k id there.entry.now c.requires.there.recorded w bt)
    (sym c.of-2.ensures.value ∙ c.in-Err-of.is))) (adds_none e))

pub returns-then-one-other-clause-told : goal.returns-then-one-other-clause-told
returns-then-one-other-clause-told g c = λ x xs y ys h k v w at bt.
    let s = c.args.geometry.now in
    let id = c.args.id in
    let here = c.args.here in
    let there = c.args.there in
    let a = c.requires.here.case x xs h v at in
    let b = c.requires.there.case y ys k w bt in
    let f = c.args.found.now in
    let e = c.compare_lengths.new.found in
    let front = both_cases s id v w here.case there.case a b f c.add_unless.new.self e
    (rw (c.is_same_condition-is_same.ensures, c.condition_of-one.ensures, c.condition_of-other.ensures)
    at c.in_ok-add_unless.ensures) c.in_ok-compare_lengths.ensures in
    adds_more f e e (unless (same_condition (condition_of v.content) (condition_of w.content))
    (difference.Condition id (condition_of v.content) (condition_of w.content)) ++ length_differences id v.content w.content)
    (leb_differences s id v w) front
    (subst (λ (ds : List Difference). Adds e e ds)
    (sym (other_sizes s id v w here.case there.case a b here.entry.now there.entry.now c.in-Ok.extent c.in-Ok-of.extent
    (entry_of s x here.survey.now h id here.entry.now c.requires.here.recorded v at) (entry_of s y there.survey.now k id there.entry.now c.requires.there.recorded w bt)
    (sym c.of.ensures.value ∙ c.in-Ok.is) (sym c.of-2.ensures.value ∙ c.in-Ok-of.is) c.if-one-other.true)) (adds_none e))

pub returns-clause-told : goal.returns-clause-told
returns-clause-told g c = on_ok_weaker c.compare_lebs.result (λ told x xs y ys h k v w at bt.
    let s = c.args.geometry.now in
    let id = c.args.id in
    let here = c.args.here in
    let there = c.args.there in
    let a = c.requires.here.case x (c.compare_lebs.ensures.left_narrows x xs) h v at in
    let b = c.requires.there.case y (c.compare_lebs.ensures.right_narrows y ys) k w bt in
    let f = c.args.found.now in
    let e = c.compare_lengths.new.found in
    let front = both_cases s id v w here.case there.case a b f c.add_unless.new.self e
    (rw (c.is_same_condition-is_same.ensures, c.condition_of-one.ensures, c.condition_of-other.ensures)
    at c.in_ok-add_unless.ensures) c.in_ok-compare_lengths.ensures in
    adds_more f e c.compare_lebs.new.found (unless (same_condition (condition_of v.content) (condition_of w.content))
    (difference.Condition id (condition_of v.content) (condition_of w.content)) ++ length_differences id v.content w.content)
    (leb_differences s id v w) front (told x xs y ys h k v w at bt))
    c.compare_lebs.ensures.told
