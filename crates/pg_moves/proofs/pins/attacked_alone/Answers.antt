use Rattle.pg_moves.proofs.SearchLemmas.{not_both}
use Rattle.pg_moves.proofs.BareLemmas.{bare_lifted}
use Rattle.pg_moves.proofs.pins.attacked_alone.Goals as goal

pub returns : goal.returns
returns c = λ off. bare_lifted c.args.board.now c.men_of.result c.args.color c.args.square (rw c.other.ensures at c.men_of.ensures) (λ hit. not_both ((rw c.other-2.ensures at c.attacked.ensures).1 hit) off)
