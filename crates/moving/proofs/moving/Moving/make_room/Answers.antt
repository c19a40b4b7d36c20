-- `Moving::make_room` meets its contract: room is made for what is put out, and then for what is told. Assumes nothing.
use Rattle.moving.proofs.Places.{room_made}
use Rattle.moving.proofs.moving.Moving.make_room.Goals as goal

pub returns : goal.returns
returns c = room_made c.out_room.ensures c.told_room.ensures
