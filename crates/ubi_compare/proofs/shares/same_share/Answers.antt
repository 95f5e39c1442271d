use Rattle.ubi_compare.proofs.Prelude.{◌≡◌, ◌∙◌, length, ap, sym, false≢true, leb_long}
use Rattle.ubi_compare.proofs.shares.same_share.Goals as goal

pub returns-then-here-there-clause-answer : goal.returns-then-here-there-clause-answer
returns-then-here-there-clause-answer g c = λ x xs y ys. (
  λ t. absurd (false≢true t),
  λ same. (let long : c.args.here.len ≡ c.args.there.len =
      sym (leb_long c.args.geometry.now _ _ (g.met.L.BlockSource.sized c.args.left.now) x xs _ c.args.here.place c.requires.here
      c.requires.here_len)
      ∙ ap length same
      ∙ leb_long c.args.geometry.now _ _ (g.met.R.BlockSource.sized c.args.right.now) y ys _ c.args.there.place c.requires.there
      c.requires.there_len in absurd (c.if-here-there.true long)),
)
