use Rattle.ubi_detect.proofs.Prelude.{◌∙◌, ◌/◌, All, ap, inl, inr, subst, sym, IsWithin, Source, step}
use Rattle.ubi_detect.proofs.DetectedParts.{detected, undetected}
use Rattle.ubi_detect.proofs.Looking.{looks_on}
use Rattle.ubi_detect.proofs.detect.detect_from.Goals as goal

pub tell_plain-requires-clause-plain : goal.tell_plain-requires-clause-plain
tell_plain-requires-clause-plain g c = let plain = rw c.in-Some.is at c.in_ok-group.ensures.plain in plain

pub returns-in-Some-clause-source : goal.returns-in-Some-clause-source
returns-in-Some-clause-source g c = looks_on _ _ _ _ _ _ c.in_ok-group.ensures.source c.tell_plain.ensures.source

pub returns-in-Some-clause-found : goal.returns-in-Some-clause-found
returns-in-Some-clause-found g c =
    let plain = rw c.in-Some.is at c.in_ok-group.ensures.plain in
    detected _ c.in-Some.group (λ bytes holds. inl (plain bytes (c.tell_plain.ensures.source.narrows bytes holds))) (λ v. v.geometries.items)
    c.tell_plain.result c.tell_plain.ensures.told c.tell_plain.ensures.some

pub returns-in-Some-clause-refused : goal.returns-in-Some-clause-refused
returns-in-Some-clause-refused g c =
    let plain = rw c.in-Some.is at c.in_ok-group.ensures.plain in
    undetected _ c.in-Some.group (λ bytes holds. inl (plain bytes (c.tell_plain.ensures.source.narrows bytes holds)))
    (g.S.BlockSource.known c.args.source.now) _ c.tell_plain.result (ap (λ (k : Source). k.size) c.in_ok-group.ensures.source.known)
    c.tell_plain.ensures.refused

pub tell_said-requires-clause-within : goal.tell_said-requires-clause-within
tell_said-requires-clause-within g c =
    let P : Source → Type 0 = λ k. All (IsWithin (k.size / step)) c.in_ok-said.said.groups.items in
    subst P (sym c.in_ok-said.ensures.source.known) c.in_ok-said.ensures.within

pub returns-clause-source : goal.returns-clause-source
returns-clause-source g c =
    looks_on _ _ _ _ _ _ (looks_on _ _ _ _ _ _ c.in_ok-group.ensures.source c.in_ok-said.ensures.source) c.tell_said.ensures.source

pub returns-clause-found : goal.returns-clause-found
returns-clause-found g c =
    detected _ c.in_ok-said.said.group
    (λ bytes holds.
    let before = c.tell_said.ensures.source.narrows bytes holds in
    inr (c.in_ok-said.ensures.found bytes before, c.in_ok-said.ensures.sure bytes before))
    (λ v. v.geometries.items) c.tell_said.result c.tell_said.ensures.told c.tell_said.ensures.some

pub returns-clause-refused : goal.returns-clause-refused
returns-clause-refused g c =
    undetected _ c.in_ok-said.said.group
    (λ bytes holds.
    let before = c.tell_said.ensures.source.narrows bytes holds in
    inr (c.in_ok-said.ensures.found bytes before, c.in_ok-said.ensures.sure bytes before))
    (g.S.BlockSource.known c.args.source.now) _ c.tell_said.result
    (ap (λ (k : Source). k.size) (c.in_ok-said.ensures.source.known ∙ c.in_ok-group.ensures.source.known)) c.tell_said.ensures.refused
