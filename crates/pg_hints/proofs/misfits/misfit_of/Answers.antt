use Rattle.std.proofs.Common.{refl}
use Rattle.pg_hints.proofs.misfits.misfit_of.Goals as goal

pub returns-in-Some-2 : goal.returns-in-Some-2
returns-in-Some-2 c = record {
  games = c.in-Some.games;
  game = c.in-Some-game.game.now;
  last = c.in-Some-end_of.last;
  listing = rw c.in-Some.is at c.in_ok-games.ensures;
  indexed = c.in-Some-game.ensures;
  line = rw c.in-Some-2.is at c.in_ok-line.ensures;
  plies = refl;
  plays = c.in-Some-end_of.ensures;
  end = c.of.ensures;
}
