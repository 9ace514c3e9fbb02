use Rattle.pg_hints.proofs.PlaceLemmas.{alone}
use Rattle.pg_hints.proofs.places.is_game.Goals as goal

pub returns-in-Some : goal.returns-in-Some
returns-in-Some c =
    let h = rw c.in-Some.is at c.in_ok-games.ensures in
    alone c.args.line.now c.in-Some.games c.args.game.now c.contains.result h.0 h.1 c.contains.ensures

pub returns-in-None : goal.returns-in-None
returns-in-None c = (λ t. absurd cc, λ g. absurd ((rw c.in-None.is at c.in_ok-games.ensures) c.args.game.now g))
