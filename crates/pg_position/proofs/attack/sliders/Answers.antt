use Rattle.pg_position.proofs.AttackLemmas.{kind_or_queen}
use Rattle.pg_position.proofs.attack.sliders.Goals as goal

pub returns : goal.returns
returns c = kind_or_queen c.args.board.now c.args.by c.args.kind c.new.result c.new-2.result c.squares_of.result c.squares_of-2.result c.bitor.result c.new.ensures c.new-2.ensures c.squares_of.ensures c.squares_of-2.ensures c.bitor.ensures.members
