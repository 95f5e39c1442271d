use Rattle.ubi_detect.proofs.Prelude.{◌∙◌, refl, sym}
use Rattle.ubi_detect.proofs.JoinedKeys.{joined_first, joined_more, none_joined, none_there}
use Rattle.ubi_detect.proofs.plain.joined_key.Goals as goal

pub loop-i-init : goal.loop-i-init
loop-i-init g c = record {
  source = refl;
  narrows = λ bytes holds. holds;
  joined = λ bytes holds. joined_first bytes c.args.size c.args.first (c.requires.first bytes holds);
}

pub returns-in_default-clause-joined : goal.returns-in_default-clause-joined
returns-in_default-clause-joined g c = λ bytes holds.
    none_there bytes c.args.size c.loop-i.i c.args.count c.loop-i-test.true
    (sym (c.in_ok-next.ensures.key bytes holds) ∙ c.in_default.is)

pub returns-in_default-joined-clause-joined : goal.returns-in_default-joined-clause-joined
returns-in_default-joined-clause-joined g c = λ bytes holds.
    none_joined bytes c.args.size c.loop-i.i c.loop-i.key c.in-Some.next
    (c.loop-i.invariant.joined bytes (c.in_ok-next.ensures.source.narrows bytes holds))
    (sym (c.in_ok-next.ensures.key bytes holds) ∙ c.in-Some.is) c.args.count c.loop-i-test.true c.in_default-joined.ensures

pub loop-i-preserved : goal.loop-i-preserved
loop-i-preserved g c = record {
  source = c.in_ok-next.ensures.source.known ∙ c.loop-i.invariant.source;
  narrows = λ bytes holds. c.loop-i.invariant.narrows bytes (c.in_ok-next.ensures.source.narrows bytes holds);
  joined = λ bytes holds.
      joined_more bytes c.args.size c.loop-i.i c.loop-i.key c.in-Some.next
      (c.loop-i.invariant.joined bytes (c.in_ok-next.ensures.source.narrows bytes holds))
      (sym (c.in_ok-next.ensures.key bytes holds) ∙ c.in-Some.is) c.in-Some-joined.joined c.in-Some-joined.ensures;
}
