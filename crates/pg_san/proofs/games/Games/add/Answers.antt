use Rattle.pg_san.proofs.Common.{◌<◌, length, arith}
use Rattle.pg_san.proofs.PlaceLemmas.{fresh}
use Rattle.pg_san.proofs.games.Games.add.Goals as goal

pub returns-in-Err-clause-err : goal.returns-in-Err-clause-err
returns-in-Err-clause-err c =
    let room : length c.args.self.now < 4096 = omega arith in
    fresh c.args.self.now c.args.game.now c.in-Some-place.i c.in_default.ensures room (rw (c.deref.ensures.value, c.self.view_is) at c.in-Some-place.ensures)

pub put-requires-clause-fresh : goal.put-requires-clause-fresh
put-requires-clause-fresh c =
    let room : length c.args.self.now < 4096 = omega arith in
    rw c.in-Ok.ensures.items (fresh c.args.self.now c.args.game.now c.in-Some-place.i c.in_default.ensures room (rw (c.deref.ensures.value, c.self.view_is) at c.in-Some-place.ensures))

pub returns-in-Err-put-clause-err : goal.returns-in-Err-put-clause-err
returns-in-Err-put-clause-err c =
    let room : length c.args.self.now < 4096 = omega arith in
    fresh c.args.self.now c.args.game.now c.in-Some-place.i c.in_default.ensures room (rw (c.deref.ensures.value, c.self.view_is) at c.in-Some-place.ensures)
