use Rattle.pg_position.proofs.Common.{White, Black, KingSide, QueenSide}
use Rattle.pg_position.proofs.CastlingLemmas.{path_set, path_is}
use Rattle.pg_position.proofs.castling.path.Goals as goal

pub returns-in-KingSide : goal.returns-in-KingSide
unfolding path_set
returns-in-KingSide c = path_is c.args.color White c.args.wing KingSide _ c.in-White.is c.in-KingSide.is c.of_bits.ensures

pub returns-in-QueenSide : goal.returns-in-QueenSide
unfolding path_set
returns-in-QueenSide c = path_is c.args.color White c.args.wing QueenSide _ c.in-White.is c.in-QueenSide.is c.of_bits-in-QueenSide.ensures

pub returns-in-KingSide-wing : goal.returns-in-KingSide-wing
unfolding path_set
returns-in-KingSide-wing c = path_is c.args.color Black c.args.wing KingSide _ c.in-Black.is c.in-KingSide-wing.is c.of_bits-in-KingSide-wing.ensures

pub returns-in-QueenSide-wing : goal.returns-in-QueenSide-wing
unfolding path_set
returns-in-QueenSide-wing c = path_is c.args.color Black c.args.wing QueenSide _ c.in-Black.is c.in-QueenSide-wing.is c.of_bits-in-QueenSide-wing.ensures
