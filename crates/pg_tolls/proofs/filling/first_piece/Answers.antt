use Rattle.pg_tolls.proofs.Common.{ℕ, subst, arith, known, stated, AreClosedAt, KeepsSteps}
use Rattle.pg_tolls.proofs.FillingLemmas.{ends_below}
use Rattle.pg_tolls.proofs.filling.first_piece.Goals as goal

pub returns : goal.returns
returns c = λ u h.
    (let at : AreClosedAt (stated c.args.tariff.now) (known c.args.ground.now.facts) c.args.ground.now.color c.args.goals.now u 0 = h 0 (omega arith) in
    let spreads : KeepsSteps (known c.args.ground.now.facts) c.args.ground.now.color c.args.kind ((stated c.args.tariff.now).weight c.args.ground.now.color) c.add_ends.new.rows c.spread.new.rows =
    subst (λ (n : ℕ). KeepsSteps (known c.args.ground.now.facts) c.args.ground.now.color c.args.kind n c.add_ends.new.rows c.spread.new.rows) c.weight.ensures.value c.spread.ensures in
    spreads (u 0 c.args.kind) (at.numbers c.args.kind) (at.plain c.args.kind c.requires.piece)
    (ends_below (stated c.args.tariff.now) (known c.args.ground.now.facts) c.args.ground.now.color c.args.goals.now u c.args.kind c.args.rows.now c.add_ends.new.rows at c.requires.blank c.add_ends.ensures))
