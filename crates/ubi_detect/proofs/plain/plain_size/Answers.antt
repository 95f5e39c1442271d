use Rattle.ubi_detect.proofs.Prelude.{◌∙◌, ◌*◌, ◌/◌, ◌%◌, ap, sym, arith, min, greatest_size}
use Rattle.ubi_detect.proofs.PlainSizes.{no_second, not_alone, not_whole, plain_size_is}
use Rattle.ubi_detect.proofs.plain.plain_size.Goals as goal

pub returns-in_default-clause-plain : goal.returns-in_default-clause-plain
returns-in_default-clause-plain g c = λ bytes holds.
    let none = rw c.in_default.is at c.in_ok-unit.ensures.first in
    let sized = (g.met.S.BlockSource.sized c.args.source.now).sized bytes (c.in_ok-unit.ensures.source.narrows bytes holds) in
    let e = c.min.ensures ∙ ap (λ n. min (n / 2) greatest_size) (c.len-len.ensures ∙ sym sized) in
    λ f plain. no_second bytes f plain _ (omega (arith, e)) (none bytes holds)

pub returns-then-len-unit-ne0-clause-plain : goal.returns-then-len-unit-ne0-clause-plain
returns-then-len-unit-ne0-clause-plain g c = λ bytes holds.
    let first = rw c.in-Some.is at c.in_ok-unit.ensures.first in
    let sized = (g.met.S.BlockSource.sized c.args.source.now).sized bytes (c.in_ok-unit.ensures.source.narrows bytes holds) in
    not_whole bytes c.in-Some.unit _ (first bytes holds)
    (λ e. c.if-len-unit-ne0.true (ap (λ n. n % (c.in-Some.unit * 64)) (c.len-len.ensures ∙ sym sized) ∙ e))

pub returns-in-Some-2-clause-plain : goal.returns-in-Some-2-clause-plain
returns-in-Some-2-clause-plain g c = λ bytes holds.
    let first = rw c.in-Some.is at c.in_ok-unit.ensures.first in
    let other = rw c.in-Some-2.is at c.in_ok-first_head.ensures.first in
    not_alone bytes c.in-Some.unit _ (first bytes (c.in_ok-first_head.ensures.source.narrows bytes holds)) c.in-Some-2.field-0 (other bytes holds)

pub returns-in-None-clause-plain : goal.returns-in-None-clause-plain
returns-in-None-clause-plain g c = λ bytes holds.
    let first = rw c.in-Some.is at c.in_ok-unit.ensures.first in
    let none = rw c.in-None.is at c.in_ok-first_head.ensures.first in
    let after = c.in_ok-first_head.ensures.source.narrows bytes holds in
    let sized = (g.met.S.BlockSource.sized c.args.source.now).sized bytes (c.in_ok-unit.ensures.source.narrows bytes after) in
    let e = c.min.ensures ∙ ap (λ n. min (n / 2) greatest_size) (c.len-len.ensures ∙ sym sized) in
    plain_size_is bytes c.in-Some.unit _ (first bytes after) (ap (λ n. n % (c.in-Some.unit * 64)) (sized ∙ sym c.len-len.ensures) ∙ c.if-len-unit-ne0.false)
    (omega (arith, e)) (none bytes holds)
