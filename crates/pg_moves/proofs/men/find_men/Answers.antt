use Rattle.pg_moves.proofs.MenLemmas.{allowed_goals}
use Rattle.pg_moves.proofs.QuietLemmas.{out_of}
use Rattle.pg_moves.proofs.men.find_men.Goals as goal

pub quiet_pawns-requires-clause-off : goal.quiet_pawns-requires-clause-off
quiet_pawns-requires-clause-off c = λ q l e. (out_of c.sub-free.result c.squares_of_color-own.result c.find_guard-guard.result.pinned q c.sub-free.ensures.members l e).1

pub returns : goal.returns
returns c = record {
  goals = c.find_guard-guard.result.goals;
  guards = rw c.new-player.ensures at c.find_guard-guard.ensures.guards;
  allowed = allowed_goals c.args.position.now c.board-board.result c.side-color.result c.squares_of_color-own.result c.find_guard-guard.result.goals
      c.sub.result c.board-board.ensures.value c.side-color.ensures.value c.squares_of_color-own.ensures c.sub.ensures.members;
  quiet = rw c.new-player.ensures at c.quiet_pawns.ensures.quiet;
}
