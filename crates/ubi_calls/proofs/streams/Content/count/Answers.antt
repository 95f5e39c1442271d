use Rattle.ubi_calls.proofs.Prelude.{image_of, wanted}
use Rattle.ubi_calls.proofs.FilledBuffers.{counted, uncounted_full}
use Rattle.ubi_calls.proofs.Wanted.{one_told}
use Rattle.ubi_calls.proofs.streams.Content.count.Goals as goal

pub returns-in-Some : goal.returns-in-Some
returns-in-Some g c =
    let image = image_of c.args.geometry.now c.args.image.now in
    counted (wanted c.args.self image) g.K.Room.before c.args.out.now c.requires.room c.requires.first c.in-Some.count c.from.result
    (one_told c.args.self image) c.in-Some.ensures c.from.ensures

pub returns-in-None : goal.returns-in-None
returns-in-None g c =
    uncounted_full (wanted c.args.self (image_of c.args.geometry.now c.args.image.now)) g.K.Room.before c.args.out.now c.requires.room
    c.requires.first
