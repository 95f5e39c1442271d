use Rattle.ubi_detect.proofs.Prelude.{◌≡◌, ◌∙◌, refl, sym, subst, true, ℕ, IsGcd, true≢false, is_of}
use Rattle.ubi_detect.proofs.groups.Group.add.Goals as goal

pub returns : goal.returns
returns c =
    let owned : is_of c.args.self.now.key c.args.head.now.key ≡ true = sym c.owns.ensures ∙ c.if-not-owns.false in
    let P : ℕ → Type 0 = λ d. IsGcd c.args.self.now.size d c.gcd-size.result in
    record {
      key = refl;
      other = λ other. absurd (true≢false (sym owned ∙ other));
      count = λ is. refl;
      first = λ is. c.first_with-first.ensures;
      last = λ is. refl;
      size = λ is. subst P c.saturating_sub.ensures c.gcd-size.ensures;
    }
