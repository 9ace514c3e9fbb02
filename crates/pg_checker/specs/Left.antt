-- The legal moves of a position that come after one of them, in canonical order.
use Rattle.std.specs.Prelude.{Bool, true, Option, Some, None, List}
use Rattle.std.specs.List.{filter}
use Rattle.std.specs.Ordering.{is_lt}
use Rattle.pg_position.specs.declared.state.State.{State}
use Rattle.pg_position.specs.declared.moves.Move.{Move}
use Rattle.pg_moves.specs.Moves.{move_cmp}
use Rattle.pg_moves.proofs.ListLemmas.{moves_of}

-- whether a move comes after the last one, if there is a last one
abbrev pub comes_after : Option Move → Move → Bool
comes_after None m = true
comes_after (Some last) m = is_lt (move_cmp last m)

-- the legal moves after the last one; all of them, where there is no last one
unfoldable pub left_after : State → Option Move → List Move
left_after p last = filter (comes_after last) (moves_of p)
