use Rattle.pg_moves.proofs.ShiftLemmas.{ways_counted}
use Rattle.pg_moves.proofs.pawns.PawnMoves.count.Goals as goal

pub returns-clause-count : goal.returns-clause-count
returns-clause-count c = ways_counted c.args.self.now _ _ _ _ c.len.ensures.squares c.len-2.ensures.squares c.len-3.ensures.squares c.len-4.ensures.squares
