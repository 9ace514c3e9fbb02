use Rattle.pg_san.proofs.PlaceLemmas.{contains_by_place}
use Rattle.pg_san.proofs.games.Games.contains.Goals as goal

pub returns : goal.returns
returns c = contains_by_place c.args.self.now c.args.game.now c.place.result c.is_none.result (rw (c.deref.ensures.value, c.self.view_is) at c.place.ensures) c.is_none.ensures
