use Rattle.ubi_detect.proofs.Prelude.{◌≡◌, ◌∙◌, ◌-◌, List, ap, inl, inr, length, refl, subst, sym, arith, eqb-false, eqb-true, nil_from_length, heads_of, Group, AreGroups}
use Rattle.ubi_detect.proofs.MoreKeys.{as_many_keys}
use Rattle.ubi_detect.proofs.SaidGroups.{no_heads, some_heads, too_many}
use Rattle.ubi_detect.proofs.detect.said_group.Goals as goal

pub returns-in_default-clause-refused : goal.returns-in_default-clause-refused
returns-in_default-clause-refused g c = λ bytes holds.
    let many = rw c.in_default.is at c.in_ok-groups.ensures.groups in
    too_many bytes (c.requires.none bytes (c.in_ok-groups.ensures.source.narrows bytes holds)) (many bytes holds)

pub returns-then-is_empty-clause-refused : goal.returns-then-is_empty-clause-refused
returns-then-is_empty-clause-refused g c = λ bytes holds.
    let are = rw c.in-Some.is at c.in_ok-groups.ensures.groups in
    let none = eqb-true _ _ (sym c.is_empty.ensures ∙ c.if-is_empty.true) in
    let ok = c.in-Some.groups.ok in
    no_heads _ c.in-Some.groups.items (are bytes holds) (nil_from_length c.in-Some.groups.items (omega (arith, none, ok)))

pub returns-in_default-image_among-clause-refused : goal.returns-in_default-image_among-clause-refused
returns-in_default-image_among-clause-refused g c = λ bytes holds.
    let are = rw c.in-Some.is at c.in_ok-groups.ensures.groups in
    let some = eqb-false _ _ (sym c.is_empty.ensures ∙ c.if-is_empty.false) in
    let ok = c.in-Some.groups.ok in
    let none = rw c.in_default-image_among.is at c.image_among.ensures.image in
    let P : List Group → Type 0 = λ gs. AreGroups (heads_of bytes) gs in (
      some_heads (heads_of bytes) c.in-Some.groups.items (are bytes holds) (omega (arith, some, ok)),
      c.requires.none bytes (c.in_ok-groups.ensures.source.narrows bytes holds),
      inr (inl (none (heads_of bytes) (subst P (sym c.as_slice.ensures.value) (are bytes holds)))),
    )

pub returns-then-rest-group-clause-refused : goal.returns-then-rest-group-clause-refused
returns-then-rest-group-clause-refused g c = λ bytes holds.
    let before = c.in_ok-groups.ensures.source.narrows bytes holds in
    let are = rw c.in-Some.is at c.in_ok-groups.ensures.groups in
    let few = rw c.in-Some.is at c.in_ok-groups.ensures.few in
    let found = rw c.in-Some-image_among.is at c.image_among.ensures.image in
    let P : List Group → Type 0 = λ gs. AreGroups (heads_of bytes) gs in
    let image = found (heads_of bytes) (subst P (sym c.as_slice.ensures.value) (are bytes holds)) in
    let sized = (g.met.S.BlockSource.sized c.args.source.now).sized bytes before in
    let known = ap (λ k. k.size) c.in_ok-groups.ensures.source.known in
    let len : c.len.result ≡ length bytes = c.len.ensures ∙ known ∙ sym sized in
    let keys = as_many_keys (heads_of bytes) c.in-Some.groups.items (are bytes holds) in
    let ok = c.in-Some.groups.ok in (
      c.requires.none bytes before,
      omega (arith, keys, few, ok),
      (
        image.0,
        c.in-Some-image_among.group,
        image.1,
        (let rest = c.if-rest-group.true in omega (arith, rest, len)),
        refl,
        ap (λ n. n - c.in-Some-image_among.group.last) len,
      ),
    )

pub returns-clause-found : goal.returns-clause-found
returns-clause-found g c = λ bytes holds.
    let before = c.in_ok-groups.ensures.source.narrows bytes holds in
    let are = rw c.in-Some.is at c.in_ok-groups.ensures.groups in
    let few = rw c.in-Some.is at c.in_ok-groups.ensures.few in
    let found = rw c.in-Some-image_among.is at c.image_among.ensures.image in
    let P : List Group → Type 0 = λ gs. AreGroups (heads_of bytes) gs in
    let image = found (heads_of bytes) (subst P (sym c.as_slice.ensures.value) (are bytes holds)) in
    let sized = (g.met.S.BlockSource.sized c.args.source.now).sized bytes before in
    let known = ap (λ k. k.size) c.in_ok-groups.ensures.source.known in
    let len : c.len.result ≡ length bytes = c.len.ensures ∙ known ∙ sym sized in
    let keys = as_many_keys (heads_of bytes) c.in-Some.groups.items (are bytes holds) in
    let ok = c.in-Some.groups.ok in
    record {
      none = c.requires.none bytes before;
      few = omega (arith, keys, few, ok);
      index = image.0;
      image = image.1;
      whole = (let rest = c.if-rest-group.false in let from = image.1.says.from in omega (arith, rest, len, from));
    }
