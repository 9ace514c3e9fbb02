use Rattle.pg_journeys.proofs.Common.{◌∙◌, ap, sym, subst, Some, None, IsLeast, lesser_of, PayInSome, KingSide, QueenSide}
use Rattle.pg_journeys.proofs.LeastNeeds.{least_for, least_of_ways}
use Rattle.pg_journeys.proofs.needs.least_in_all.Goals as goal

pub returns : goal.returns
returns c = λ d side.
    subst (λ o. IsLeast (PayInSome d c.args.side.now c.args.is_quiet) o) (sym (c.lesser.ensures ∙ ap (λ o. lesser_of o c.least_in_way-2.result) c.lesser-short.ensures))
    (least_of_ways d c.args.side.now c.args.is_quiet c.least_in_way-none.result c.least_in_way.result c.least_in_way-2.result (least_for c.args.side.now c.by_measure-measured.result.side.now c.args.is_quiet c.by_measure-measured.result.is_quiet None c.least_in_way-none.result c.by_measure-measured.ensures.side c.by_measure-measured.ensures.quiet c.least_in_way-none.ensures d side) (least_for c.args.side.now c.by_measure-measured.result.side.now c.args.is_quiet c.by_measure-measured.result.is_quiet (Some KingSide) c.least_in_way.result c.by_measure-measured.ensures.side c.by_measure-measured.ensures.quiet c.least_in_way.ensures d side) (least_for c.args.side.now c.by_measure-measured.result.side.now c.args.is_quiet c.by_measure-measured.result.is_quiet (Some QueenSide) c.least_in_way-2.result c.by_measure-measured.ensures.side c.by_measure-measured.ensures.quiet c.least_in_way-2.ensures d side))
