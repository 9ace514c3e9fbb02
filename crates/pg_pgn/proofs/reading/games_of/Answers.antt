use Rattle.pg_pgn.proofs.Common.{map, at}
use Rattle.pg_pgn.proofs.LegalLemmas.{games_legal}
use Rattle.pg_pgn.proofs.reading.games_of.Goals as goal

pub invariant_of-result : goal.invariant_of-result
invariant_of-result c = games_legal (map (λ v. v.items) c.in-Ok.games.items) (at c.args.reading) c.in-Ok.ensures c.requires.legal
