use Rattle.ubi_compose.proofs.Prelude.{◌≡◌, [], ◌∷◌, ◌++◌, length, ap, ◌∙◌, arith, place_of}
use Rattle.ubi_compose.proofs.Changes.{drafts_more}
use Rattle.ubi_compose.proofs.spec_text.Drafts.push.Goals as goal

pub invariant_of-self-2 : goal.invariant_of-self-2
invariant_of-self-2 c =
    let same = c.push_reserved.ensures.items
    ∙ ap (λ items. items ++ (c.args.id, c.args.volume) ∷ []) c.reserve.ensures.items in
    let long = c.self.inside.volumes.ok.0 in
    let n : c.len.result ≡ length c.self.inside.volumes.items = omega (arith, c.len.ensures, c.reserve.ensures.len) in
    rw same
    (drafts_more c.self.inside.places c.insert.new.self c.self.inside.volumes.items c.args.id c.len.result c.args.volume
    c.self.invariant
    (ap (place_of c.args.id) c.self.view_is ∙ c.requires) n c.insert.ensures.ordered (c.in_ok-insert.ensures.updates.0))
