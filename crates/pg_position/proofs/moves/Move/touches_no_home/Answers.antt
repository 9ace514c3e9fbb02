use Rattle.pg_position.proofs.CastlingLemmas.{rights_kept, king_stays, not_met}
use Rattle.pg_position.proofs.moves.Move.touches_no_home.Goals as goal

pub returns-clause-rights : goal.returns-clause-rights
returns-clause-rights c t r = rights_kept r c.args.self.now _ c.single.result c.single-2.result c.castling_homes.result c.meets.result c.bitor-touched.ensures.members c.castling_homes.ensures c.single.ensures c.single-2.ensures c.meets.ensures (not_met c.meets.result t)

pub returns-clause-kings : goal.returns-clause-kings
returns-clause-kings c t = king_stays c.args.self.now _ c.single.result c.single-2.result c.castling_homes.result c.meets.result c.bitor-touched.ensures.members c.castling_homes.ensures c.single.ensures c.single-2.ensures c.meets.ensures (not_met c.meets.result t)
