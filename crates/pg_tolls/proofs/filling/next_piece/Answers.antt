use Rattle.pg_tolls.proofs.Common.{ℕ, subst, known, stated, KeepsSteps}
use Rattle.pg_tolls.proofs.FillingLemmas.{piece_high}
use Rattle.pg_tolls.proofs.filling.next_piece.Goals as goal

pub returns : goal.returns
returns c = λ goals j few tolls high u.
    (let spreads : KeepsSteps (known c.args.ground.now.facts) c.args.ground.now.color c.args.kind ((stated c.args.tariff.now).weight c.args.ground.now.color) c.offer_marked-changed.new.rows c.spread.new.rows =
    subst (λ (n : ℕ). KeepsSteps (known c.args.ground.now.facts) c.args.ground.now.color c.args.kind n c.offer_marked-changed.new.rows c.spread.new.rows) c.weight.ensures.value c.spread.ensures in
    piece_high (stated c.args.tariff.now) (known c.args.ground.now.facts) c.args.ground.now.color goals u j c.args.kind c.args.rows.now c.left_over.result c.offer_marked-changed.new.rows c.spread.new.rows
    c.requires.piece few tolls high c.left_over.ensures c.offer_marked-changed.ensures spreads)
