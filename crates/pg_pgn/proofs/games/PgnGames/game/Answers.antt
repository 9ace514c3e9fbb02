use Rattle.pg_pgn.proofs.LegalLemmas.{legal_at}
use Rattle.pg_pgn.proofs.games.PgnGames.game.Goals as goal

pub returns-in-Some-clause-legal : goal.returns-in-Some-clause-legal
returns-in-Some-clause-legal c =
    legal_at (λ v. v.items) c.self.inside.games.items c.deref.result.now c.args.i c.in-Some.game.now c.as_slice.result.now c.self.invariant c.deref.ensures.value c.in-Some.ensures.lookup.0 c.in-Some.ensures.lookup.1 c.as_slice.ensures.value
