use Rattle.pg_report.proofs.Common.{below_more, arith, list_any, array_state}
use Rattle.pg_report.proofs.ShortestLemmas.{length_from, none_shorter, none_left, first_open}
use Rattle.pg_report.proofs.lengths.first_open.Goals as goal

pub returns-then-not-is_excluded-clause-headline : goal.returns-then-not-is_excluded-clause-headline
returns-then-not-is_excluded-clause-headline g c =
    none_shorter c.args.diagram.now c.loop-plies.plies c.from_plies.result (length_from c.from_plies.result c.loop-plies.plies (omega (arith, c.loop-plies-test.true)) c.from_plies.ensures.valid c.from_plies.ensures.value) c.loop-plies.invariant.barren

pub returns-then-not-is_excluded-clause-least : goal.returns-then-not-is_excluded-clause-least
returns-then-not-is_excluded-clause-least g c =
    first_open (λ m. list_any (λ b. (goal.Bound-dyn g (b.vtable, b.value)).excluded b.value c.args.diagram.now array_state m) c.args.bounds.now) c.args.diagram.now c.loop-plies.plies c.from_plies.result (length_from c.from_plies.result c.loop-plies.plies (omega (arith, c.loop-plies-test.true)) c.from_plies.ensures.valid c.from_plies.ensures.value) c.loop-plies.invariant.excluded (c.is_excluded.ensures.no c.if-not-is_excluded.true)

pub loop-plies-preserved : goal.loop-plies-preserved
loop-plies-preserved g c = record {
  excluded = below_more _ _ c.loop-plies.invariant.excluded (c.is_excluded.ensures.yes c.if-not-is_excluded.false);
  barren = below_more _ _ c.loop-plies.invariant.barren (c.is_excluded.ensures.barren c.if-not-is_excluded.false);
}

pub returns-clause-headline : goal.returns-clause-headline
returns-clause-headline g c m ms few = none_left c.args.diagram.now c.loop-plies.plies c.loop-plies.invariant.barren m ms (omega (arith, few, c.loop-plies-test.false))

pub returns-clause-least : goal.returns-clause-least
returns-clause-least g c m few = c.loop-plies.invariant.excluded m (omega (arith, few, c.loop-plies-test.false))
