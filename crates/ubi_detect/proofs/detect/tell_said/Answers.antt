use Rattle.ubi_detect.proofs.Prelude.{rules, ◌/◌, List, All, inr, subst, sym, AreGroups, Group, heads_of, IsWithin, Source, step}
use Rattle.ubi_detect.proofs.DetectedParts.{first_of}
use Rattle.ubi_detect.proofs.Looking.{looks_on, looks_same}
use Rattle.ubi_detect.proofs.detect.tell_said.Goals as goal

pub images_among-requires-clause-within : goal.images_among-requires-clause-within
images_among-requires-clause-within g c =
    let P : Source → Type 0 = λ k. All (IsWithin (k.size / step)) c.args.said.now.groups.items in
    let Q : List Group → Type 0 = λ gs. All (IsWithin ((g.S.BlockSource.known c.tell.new.source).size / step)) gs in
    subst Q (sym c.as_slice.ensures.value) (subst P (sym c.in_ok-geometries.ensures.source.known) c.requires.within)

pub images_among-requires-clause-groups : goal.images_among-requires-clause-groups
images_among-requires-clause-groups g c = λ bytes holds.
    let Q : List Group → Type 0 = λ gs. AreGroups (heads_of bytes) gs in
    subst Q (sym c.as_slice.ensures.value) (c.requires.groups bytes (c.in_ok-geometries.ensures.source.narrows bytes holds))

pub returns-in_err-images-clause-source : goal.returns-in_err-images-clause-source
returns-in_err-images-clause-source g c = record {
  known = search rules;
  narrows = λ bytes holds. c.in_ok-geometries.ensures.source.narrows bytes (c.images_among.ensures.source.narrows bytes holds);
  named = search rules;
}

pub returns-clause-source : goal.returns-clause-source
returns-clause-source g c =
    looks_same _ _ _ _ _ (looks_on _ _ _ _ _ _ c.in_ok-geometries.ensures.source c.in_ok-images.ensures.source)

pub returns-clause-told : goal.returns-clause-told
returns-clause-told g c = λ bytes holds. c.in_ok-geometries.ensures.told bytes (c.in_ok-images.ensures.source.narrows bytes holds)

pub returns-clause-images : goal.returns-clause-images
returns-clause-images g c = λ bytes holds.
    let before = c.in_ok-geometries.ensures.source.narrows bytes (c.in_ok-images.ensures.source.narrows bytes holds) in
    let first = first_of c.in_ok-geometries.geometries.items c.index.result.now c.in_ok-geometries.ensures.some c.index.ensures in (
      c.index.result.now,
      first.0,
      first.1,
      (
        c.args.said.now.group,
        inr (c.requires.found bytes before, c.requires.sure bytes before, c.in_ok-images.ensures.images bytes holds),
      ),
    )
