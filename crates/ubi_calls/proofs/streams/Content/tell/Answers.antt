use Rattle.ubi_calls.proofs.Prelude.{Sizes, image_of, Under, ended, wanted}
use Rattle.ubi_calls.proofs.ToldOutcomes.{at_sizes, fills, limited, streams_more}
use Rattle.ubi_calls.proofs.streams.Content.tell.Goals as goal

pub returns-in-Ok : goal.returns-in-Ok
returns-in-Ok c =
    let told = λ (s : Sizes). wanted c.args.self (image_of s c.args.image.now) in
    streams_more (told c.in-Ok.geometry) (Under c.args.sizes.now told)
    (λ bytes status h. at_sizes c.args.sizes.now told c.in-Ok.geometry c.in-Ok.ensures bytes status h) c.fill_all.ensures

pub returns-in-Err : goal.returns-in-Err
returns-in-Err c =
    let told = λ (s : Sizes). wanted c.args.self (image_of s c.args.image.now) in
    ended (fills (Under c.args.sizes.now told) c.limit_outcome.result
    (limited c.args.sizes.now told c.in-Err.limit c.limit_outcome.result c.in-Err.ensures c.limit_outcome.ensures) c.hand_outcome.ensures)
