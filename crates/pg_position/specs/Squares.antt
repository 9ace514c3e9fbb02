-- Squares and ranks as a colour sees them: forward, where its men begin, where it castles (FIDE 2.3, 3.7, 3.8).
use Rattle.std.specs.Prelude.{◌≡◌, ℕ, ◌+◌, ◌-◌, ◌*◌, ◌<◌, ◌≤◌, ◌⊎◌}
use Rattle.pg_board.specs.declared.man.Color.{Color}
use Rattle.pg_board.specs.declared.man.Color.TheVariants.{White, Black}
use Rattle.pg_position.specs.declared.rights.Wing.{Wing}
use Rattle.pg_position.specs.declared.rights.Wing.TheVariants.{KingSide, QueenSide}

-- the square n ranks forward
abbrev pub ahead : Color → ℕ → ℕ → ℕ
ahead White n s = s + 8 * n
ahead Black n s = s - 8 * n

-- the square n ranks forward is on the board
abbrev pub HasAhead : Color → ℕ → ℕ → Type 0
HasAhead White n s = s + 8 * n < 64
HasAhead Black n s = 8 * n ≤ s

-- where the colour's pawns begin, and where they promote
abbrev pub home_rank : Color → ℕ
home_rank White = 2
home_rank Black = 7

abbrev pub last_rank : Color → ℕ
last_rank White = 8
last_rank Black = 1

-- the rank of a passed square, with this colour to move
abbrev pub passed_rank : Color → ℕ
passed_rank White = 6
passed_rank Black = 3

-- the squares where a game begins with the king, and with the rook of each wing: e1, h1, a1, e8, h8, a8
abbrev pub king_home : Color → ℕ
king_home White = 4
king_home Black = 60

abbrev pub rook_home : Color → Wing → ℕ
rook_home White KingSide = 7
rook_home White QueenSide = 0
rook_home Black KingSide = 63
rook_home Black QueenSide = 56

abbrev pub IsCastlingHome : ℕ → Type 0
IsCastlingHome q = (c : Color) × ((q ≡ king_home c) ⊎ ((w : Wing) × (q ≡ rook_home c w)))

-- the square that the king crosses as it castles: f1, d1, f8, d8; and where it goes: g1, c1, g8, c8
abbrev pub king_crossed : Color → Wing → ℕ
king_crossed White KingSide = 5
king_crossed White QueenSide = 3
king_crossed Black KingSide = 61
king_crossed Black QueenSide = 59

abbrev pub king_target : Color → Wing → ℕ
king_target White KingSide = 6
king_target White QueenSide = 2
king_target Black KingSide = 62
king_target Black QueenSide = 58
