use Rattle.ubi_compose.proofs.Prelude.{rules, ◌≡◌, ap, ◌∙◌, arith, HasRoom, composed}
use Rattle.ubi_compose.proofs.Accepted.{normal_accepted}
use Rattle.ubi_compose.proofs.Puts.{composed_pieces}
use Rattle.ubi_compose.proofs.Room.{normal_fits}
use Rattle.ubi_compose.proofs.memory_image.compose.Goals as goal

pub overflow_add-count : goal.overflow_add-count
overflow_add-count c =
    let g = c.geometry-geometry.ensures.limits in
    let fits = normal_fits c.args.meaning.now c.geometry-geometry.ensures.meaning in
    omega (arith, fits, g.pebs_to, c.block_count.ensures)

pub returns-clause-bytes : goal.returns-clause-bytes
returns-clause-bytes c =
    c.in_ok-put_spares.ensures
    ∙ rw (
      c.in_ok-put_volumes.ensures,
      c.in_ok-put_table.ensures,
      c.in_ok-image.ensures.items,
      c.geometry-geometry.ensures.value,
      c.image_seq.ensures.value,
    )
    (composed_pieces c.args.meaning.now c.args.spares)

pub returns-clause-accepted : goal.returns-clause-accepted
returns-clause-accepted c =
    let m = c.args.meaning.now in
    let g = c.geometry-geometry.ensures.limits in
    let bytes : c.put_spares.new.image.items ≡ composed m c.args.spares =
    c.in_ok-put_spares.ensures
    ∙ rw (
      c.in_ok-put_volumes.ensures,
      c.in_ok-put_table.ensures,
      c.in_ok-image.ensures.items,
      c.geometry-geometry.ensures.value,
      c.image_seq.ensures.value,
    )
    (composed_pieces m c.args.spares) in
    let room : HasRoom m c.args.spares = search rules in
    rw bytes (normal_accepted m g c.geometry-geometry.ensures.meaning c.args.spares room)

pub returns-then-count-pebs-clause-fits : goal.returns-then-count-pebs-clause-fits
returns-then-count-pebs-clause-fits c = λ none same.
    let fits = normal_fits c.args.meaning.now c.geometry-geometry.ensures.meaning in
    let size = ap (λ s. s.pebs) c.geometry-geometry.ensures.value in
    omega (arith, fits, size)
