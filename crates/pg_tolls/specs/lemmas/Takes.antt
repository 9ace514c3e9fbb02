-- Whether a move takes a man, as a test.
use Rattle.std.proofs.Common.{◌≡◌, ◌↔◌, ℕ, Some, Bool, true}
use Rattle.pg_board.specs.declared.man.Color.{Color}
use Rattle.pg_board.specs.declared.man.Kind.TheVariants.{Pawn}
use Rattle.pg_board.specs.Men.{man, other}
use Rattle.pg_board.specs.Placement.{Placement}
use Rattle.pg_board.specs.Squares.{file}
use Rattle.pg_board.specs.lemmas.Decisions.{answer, answer_tells, dec_and3, dec_equal, dec_get, dec_kinds, dec_not, dec_option, dec_or}
use Rattle.pg_position.specs.declared.state.State.{State}
use Rattle.pg_position.specs.declared.moves.Move.{Move}
use Rattle.pg_position.specs.Position.{Stands}
use Rattle.pg_position.specs.Step.{IsEnemy}
use Rattle.pg_captures.specs.Taking.{Takes}

dec_enemy : (b : Placement) (c : Color) (s : ℕ) → Dec (IsEnemy b c s)
unfolding IsEnemy
dec_enemy b c s = dec_kinds (λ k. Stands b (other c) k s) (λ k. dec_get b s (Some (man (other c) k)))

pub dec_takes : (p : State) (m : Move) → Dec (Takes p m)
unfolding Takes
dec_takes p m =
    dec_or (dec_enemy p.board p.side m.to)
    (dec_and3 (dec_option dec_equal p.passed (Some m.to)) (dec_get p.board m.from (Some (man p.side Pawn))) (dec_not (dec_equal (file m.from) (file m.to))))

-- the move is a capture, en passant included
unfoldable pub takes : State → Move → Bool
takes p m = answer (dec_takes p m)

pub takes_tells : (p : State) (m : Move) → (takes p m ≡ true) ↔ Takes p m
unfolding takes
takes_tells p m = answer_tells (dec_takes p m)
