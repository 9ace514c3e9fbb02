use Rattle.pg_hints.proofs.PlaceLemmas.{alike}
use Rattle.pg_hints.proofs.places.line_like.Goals as goal

pub returns-in-Some-game : goal.returns-in-Some-game
returns-in-Some-game c =
    let h = rw c.in-Some-2.is at c.in_ok-games.ensures in
    alike c.args.list.now c.in-Some.text.now c.args.line c.in-Some-2.games c.in-Some-game.game.now c.line_of.result c.in-Some.ensures h.0 h.1 c.in-Some-game.ensures c.line_of.ensures
