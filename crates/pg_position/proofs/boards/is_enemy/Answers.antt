use Rattle.pg_position.proofs.Common.{◌∙◌, Decides-at, other, get, of_decides, IsEnemy}
use Rattle.pg_position.proofs.boards.is_enemy.Goals as goal

pub returns : goal.returns
unfolding IsEnemy
returns c = Decides-at _ _ (c.contains.ensures.value ∙ (rw c.other.ensures at c.squares_of_color.ensures) c.args.square c.contains.ensures.bound) (of_decides (other c.args.color) (get c.args.board.now c.args.square))
