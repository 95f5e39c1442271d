use Rattle.ubi_reading.proofs.Prelude.{arith, common_steps, room_words}
use Rattle.ubi_reading.proofs.list.put_room.Goals as goal

pub returns : goal.returns
unfolding room_words
returns c = grind (arith, common_steps)
