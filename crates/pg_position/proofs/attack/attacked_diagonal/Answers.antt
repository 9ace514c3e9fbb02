use Rattle.pg_position.proofs.AttackLemmas.{none_diagonal}
use Rattle.pg_position.proofs.attack.attacked_diagonal.Goals as goal

pub returns-then-not-meets : goal.returns-then-not-meets
returns-then-not-meets c = none_diagonal c.args.board.now c.args.by c.args.square c.sliders.result c.diagonal_lines.result c.meets.result c.meets.ensures c.if-not-meets.true c.sliders.ensures c.diagonal_lines.ensures
