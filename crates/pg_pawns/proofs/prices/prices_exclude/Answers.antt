use Rattle.pg_pawns.proofs.Common.{list_of}
use Rattle.pg_pawns.specs.lemmas.PawnPricesLaw.{pawn_prices_barren}
use Rattle.pg_pawns.proofs.prices.prices_exclude.Goals as goal

pub returns-clause-barren : goal.returns-clause-barren
returns-clause-barren c = λ it_is k. pawn_prices_barren c.args.diagram.now c.args.position.now c.args.color (list_of c.args.u.now c.args.v.now) c.side.ensures.position (c.excluded.ensures.0 it_is) k
