use Rattle.pg_san.proofs.PlaceLemmas.{fresh}
use Rattle.pg_san.proofs.games.Games.admit.Goals as goal

pub put-requires-clause-fresh : goal.put-requires-clause-fresh
put-requires-clause-fresh c = fresh c.args.self.now c.args.game.items c.in-Some.i c.requires.legal c.requires.room (rw (c.deref.ensures.value, c.self.view_is, c.as_slice.ensures.value) at c.in-Some.ensures)

pub returns-in-Err-clause-err : goal.returns-in-Err-clause-err
returns-in-Err-clause-err c = fresh c.args.self.now c.args.game.items c.in-Some.i c.requires.legal c.requires.room (rw (c.deref.ensures.value, c.self.view_is, c.as_slice.ensures.value) at c.in-Some.ensures)
