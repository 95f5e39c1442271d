use Rattle.ubi_volume.proofs.Prelude.{◌≡◌, ◌==◌, ◌&&◌, Bool, true, refl, sym, ◌∙◌}
use Rattle.ubi_media.specs.contracts.geometry.GeometryPartialEq.TheImpl as geometry_eq
use Rattle.ubi_volume.proofs.Equal.{same_volumes_same, tells_equal}
use Rattle.ubi_volume.proofs.meaning.MeaningPartialEq.eq.Goals as goal
use Rattle.ubi_volume.proofs.meaning.MeaningPartialEq.eq.Goals.{then-eq, else-eq}

both : (a b : Bool) → a ≡ true → b ≡ true → (a && b) ≡ true
both a b e f = rw (e, f) refl

-- the geometries and the image sequence numbers are equal
same_front : (c : goal.After-eq-then-self-other)
    → ((geometry_eq.ghosts).eq c.self.inside.geometry c.other.inside.geometry
    && (c.self.inside.image_seq == c.other.inside.image_seq)) ≡ true
same_front c = elim c.if-eq.branch [
  | then-eq w ↦ both _ _ (sym c.eq.ensures ∙ w.if-eq.true) (sym w.value-is ∙ c.if-self-other.true)
  | else-eq w ↦ absurd (let is = w.value-is in let test = c.if-self-other.true in cc)
]

pub returns-then-self-other-clause-value : goal.returns-then-self-other-clause-value
returns-then-self-other-clause-value c =
    rw (← c.self.view_is, ← c.other.view_is)
    (same_volumes_same c.self.inside.geometry c.other.inside.geometry c.self.inside.image_seq c.other.inside.image_seq
    c.self.inside.volumes.items c.other.inside.volumes.items _ (same_front c) c.self.invariant.sorted
    c.other.invariant.sorted
    c.eq-then-self-other.ensures)

pub returns-then-self-other-clause-same : goal.returns-then-self-other-clause-same
returns-then-self-other-clause-same c = tells_equal c.args.self.now c.args.other.now _ (returns-then-self-other-clause-value c)
