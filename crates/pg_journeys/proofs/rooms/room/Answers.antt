use Rattle.pg_journeys.proofs.Common.{arith}
use Rattle.pg_journeys.proofs.RoomLemmas.{room_low, room_is}
use Rattle.pg_journeys.proofs.rooms.room.Goals as goal

pub overflow_cast-result : goal.overflow_cast-result
overflow_cast-result c = omega (arith, room_low c.args.costs.now c.args.least.now c.args.paid c.args.i c.args.j c.from.result c.requires.least c.requires.man c.requires.column c.if-total-paid.false c.requires.paid c.from.ensures)

pub returns-else-total-paid : goal.returns-else-total-paid
returns-else-total-paid c = room_is c.args.costs.now c.args.least.now c.args.paid c.args.i c.args.j c.from.result c.requires.least c.requires.man c.requires.column c.if-total-paid.false c.requires.paid c.from.ensures
