use Rattle.ubi_detect.proofs.Prelude.{◌≡◌, ◌∙◌, Bool, ap, ap₂, subst, sym, true, false, ℕ, goes_on, is_hole, some_inner, some_start}
use Rattle.std.proofs.Common.{◌&&◌, not}
use Rattle.ubi_detect.proofs.sure.are_no_parts.Goals as goal

pub returns-then-not-branch-clause-are : goal.returns-then-not-branch-clause-are
returns-then-not-branch-clause-are g c = λ bytes holds.
    let group = c.args.group.now in
    let at = some_inner group.last group.size c.args.parts in
    let goes : some_start bytes group (at (goes_on c.min.result bytes)) ≡ false =
    sym (c.in_ok-some_start.ensures.some bytes holds) ∙ c.if-not-branch.true in
    sym (ap (λ b. b && not (some_start bytes group (at (is_hole bytes))))
    (subst (λ (n : ℕ). some_start bytes group (at (goes_on n bytes)) ≡ false) c.min.ensures goes))

pub returns-clause-are : goal.returns-clause-are
returns-clause-are g c = λ bytes holds.
    let group = c.args.group.now in
    let at = some_inner group.last group.size c.args.parts in
    let goes : some_start bytes group (at (goes_on c.min.result bytes)) ≡ true =
    sym (c.in_ok-some_start.ensures.some bytes (c.in_ok-some_start-2.ensures.source.narrows bytes holds)) ∙ c.if-not-branch.false in
    sym (ap₂ (λ (a b : Bool). a && not b)
    (subst (λ (n : ℕ). some_start bytes group (at (goes_on n bytes)) ≡ true) c.min.ensures goes)
    (sym (c.in_ok-some_start-2.ensures.some bytes holds)))
