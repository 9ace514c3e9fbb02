use Rattle.pg_board.proofs.SetLemmas.{set_of_rest}
use Rattle.pg_san.proofs.RivalLemmas.{men_set}
use Rattle.pg_san.proofs.rivals.others.Goals as goal

pub returns : goal.returns
returns c = set_of_rest c.sub.result c.squares_of.result c.single.result c.sub.ensures.members (men_set c.args.position.now c.args.kind c.board.result c.side.result c.new.result c.squares_of.result c.board.ensures.value c.side.ensures.value c.new.ensures c.squares_of.ensures) c.single.ensures
