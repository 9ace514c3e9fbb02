use Rattle.pg_journeys.proofs.Common.{White, Black, KingSide, QueenSide}
use Rattle.pg_journeys.proofs.SpanLemmas.{span_set, span_is}
use Rattle.pg_journeys.proofs.plans.span.Goals as goal

pub returns-in-White-KingSide : goal.returns-in-White-KingSide
unfolding span_set
returns-in-White-KingSide c = span_is c.args.color White c.args.wing KingSide _ c.in-White-KingSide.is-0 c.in-White-KingSide.is-1 c.of_bits.ensures

pub returns-in-White-QueenSide : goal.returns-in-White-QueenSide
unfolding span_set
returns-in-White-QueenSide c = span_is c.args.color White c.args.wing QueenSide _ c.in-White-QueenSide.is-0 c.in-White-QueenSide.is-1 c.of_bits-in-White-QueenSide.ensures

pub returns-in-Black-KingSide : goal.returns-in-Black-KingSide
unfolding span_set
returns-in-Black-KingSide c = span_is c.args.color Black c.args.wing KingSide _ c.in-Black-KingSide.is-0 c.in-Black-KingSide.is-1 c.of_bits-in-Black-KingSide.ensures

pub returns-in-Black-QueenSide : goal.returns-in-Black-QueenSide
unfolding span_set
returns-in-Black-QueenSide c = span_is c.args.color Black c.args.wing QueenSide _ c.in-Black-QueenSide.is-0 c.in-Black-QueenSide.is-1 c.of_bits-in-Black-QueenSide.ensures
