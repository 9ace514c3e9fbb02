-- Positions with the same future: equal but for a passed square that no pawn of the side to move attacks.
use Rattle.std.specs.Prelude.{◌≡◌, ℕ, ◌<◌, Option, Some, None}
use Rattle.pg_board.specs.declared.man.Kind.TheVariants.{Pawn}
use Rattle.pg_position.specs.declared.state.State.{State}
use Rattle.pg_position.specs.Attack.{Reaches}
use Rattle.pg_position.specs.Position.{Stands}

-- a pawn of the side to move attacks the square, whether or not it may capture there
unfoldable pub IsPawnAttacked : State → ℕ → Type 0
IsPawnAttacked p e = (r : ℕ) × (r < 64) × Stands p.board p.side Pawn r × Reaches p.board p.side Pawn r e

-- the effective passed square: the passed square where a pawn of the side to move attacks it, else none
abbrev pub IsEffective : State → Option ℕ → Type 0
IsEffective p (Some e) = (p.passed ≡ Some e) × IsPawnAttacked p e
IsEffective p None = (e : ℕ) → p.passed ≡ Some e → ¬ IsPawnAttacked p e

-- equal placement, side, rights and effective passed square
pub record SameFuture (p q : State) : Type 0 where
  pub board : p.board ≡ q.board
  pub side : p.side ≡ q.side
  pub rights : p.rights ≡ q.rights
  pub passed : (o : Option ℕ) × IsEffective p o × IsEffective q o
