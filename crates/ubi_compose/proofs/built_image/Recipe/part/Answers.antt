use Rattle.ubi_compose.proofs.Prelude.{◌≡◌, ◌==◌, ◌∙◌, ap, sym, subst, None, find, Sizes, rec_fault, Parts, part_at, Part}
use Rattle.std.proofs.Common.{Some}
use Rattle.ubi_compose.proofs.ListedParts.{found_part, listed_at, part_sound}
use Rattle.ubi_compose.proofs.built_image.Recipe.part.Goals as goal

pub returns-clause-sound : goal.returns-clause-sound
returns-clause-sound c = λ p e.
    let ps : Parts = record {
      sizes = c.self.inside.geometry;
      image_seq = c.self.inside.image_seq;
      of = c.self.inside.parts.items;
    } in
    let found : part_at ps c.args.id ≡ Some p =
    sym (c.numbered.ensures ∙ ap (find (λ (q : Part). q.id == c.args.id)) c.as_slice.ensures.value) ∙ e in
    let listed = found_part ps.of c.args.id p found in
    let at = listed_at ps.of p listed.0 in
    subst (λ (s : Sizes). rec_fault s p.entry ≡ None) (ap (λ (q : Parts). q.sizes) c.self.view_is)
    (part_sound ps c.self.invariant at.0 p at.1)
