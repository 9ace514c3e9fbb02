use Rattle.pg_position.proofs.AttackLemmas.{none_straight}
use Rattle.pg_position.proofs.attack.attacked_straight.Goals as goal

pub returns-then-not-meets : goal.returns-then-not-meets
returns-then-not-meets c = none_straight c.args.board.now c.args.by c.args.square c.sliders.result c.straight_lines.result c.meets.result c.meets.ensures c.if-not-meets.true c.sliders.ensures c.straight_lines.ensures
