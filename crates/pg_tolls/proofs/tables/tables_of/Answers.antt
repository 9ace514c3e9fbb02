use Rattle.pg_tolls.proofs.Common.{subst, List, ℕ, known, stated, AreLayers}
use Rattle.pg_tolls.proofs.ClosingLemmas.{none_closed, closed_by}
use Rattle.pg_tolls.proofs.TightHalves.{numbers_closed}
use Rattle.pg_tolls.proofs.tables.tables_of.Goals as goal

pub returns-then-is_closed-clause-closed : goal.returns-then-is_closed-clause-closed
returns-then-is_closed-clause-closed c =
    closed_by (stated c.args.tariff.now) (known c.args.ground.now.facts) c.args.ground.now.color c.args.goals.now c.args.most c.in_ok-table.table.items
    (subst (λ (rows : List (List ℕ)). AreLayers (stated c.args.tariff.now) (known c.args.ground.now.facts) c.args.ground.now.color c.args.goals.now c.args.most rows) c.deref.ensures.value (c.is_closed.ensures c.if-is_closed.true))

pub returns-then-is_closed-clause-tight : goal.returns-then-is_closed-clause-tight
returns-then-is_closed-clause-tight c = λ full. record {
  closed = numbers_closed (stated c.args.tariff.now) (known c.args.ground.now.facts) c.args.ground.now.color c.args.goals.now c.args.most c.in_ok-table.table.items
      (subst (λ (rows : List (List ℕ)). AreLayers (stated c.args.tariff.now) (known c.args.ground.now.facts) c.args.ground.now.color c.args.goals.now c.args.most rows) c.deref.ensures.value (c.is_closed.ensures c.if-is_closed.true));
  highest = c.in_ok-table.ensures;
}

pub returns-else-is_closed-clause-closed : goal.returns-else-is_closed-clause-closed
returns-else-is_closed-clause-closed c = none_closed (stated c.args.tariff.now) (known c.args.ground.now.facts) c.args.ground.now.color c.other.result c.args.goals.now c.args.most c.new.result.items c.other.ensures c.new.ensures.items c.look_at_tolls.ensures

pub returns-else-is_closed-clause-tight : goal.returns-else-is_closed-clause-tight
returns-else-is_closed-clause-tight c = λ full. absurd (full c.new.ensures.items)
