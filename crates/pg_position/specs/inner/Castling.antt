-- What stands between a king and his castling, asked in three steps.
-- Helper notions of this crate's castling functions: no contract of a caller outside needs them.
use Rattle.std.specs.Prelude.{◌≡◌, ℕ, Bool, true}
use Rattle.pg_board.specs.Men.{other}
use Rattle.pg_position.specs.declared.rights.Wing.{Wing}
use Rattle.pg_position.specs.declared.state.State.{State}
use Rattle.pg_position.specs.Attack.{IsClear, Attacks}
use Rattle.pg_position.specs.Position.{holds}
use Rattle.pg_position.specs.Squares.{king_home, rook_home, king_crossed, king_target}

-- the right is held, and no man stands between king and rook
abbrev pub IsOpen : State → Wing → Type 0
IsOpen p w = (holds p.rights p.side w ≡ true) × IsClear p.board (king_home p.side) (rook_home p.side w)

-- neither the square that the king crosses nor the one that he comes to is attacked
abbrev pub IsSafe : State → Wing → Type 0
IsSafe p w = (¬ Attacks p.board (other p.side) (king_crossed p.side w)) × (¬ Attacks p.board (other p.side) (king_target p.side w))

-- where the king goes towards a wing whose way is open, if he is safe there
abbrev pub IsSafeTo : State → Bool → Wing → ℕ → Type 0
IsSafeTo p way w q = (q ≡ king_target p.side w) × (way ≡ true) × IsSafe p w
