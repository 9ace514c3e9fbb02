-- Free steps: one man alone on the board.
use Rattle.std.specs.Prelude.{◌≡◌, ◌≢◌, ℕ, ◌<◌, ◌⊎◌}
use Rattle.pg_board.specs.declared.man.Color.{Color}
use Rattle.pg_board.specs.declared.man.Kind.{Kind}
use Rattle.pg_board.specs.declared.man.Kind.TheVariants.{Pawn}
use Rattle.pg_board.specs.Squares.{file, rank}
use Rattle.pg_position.specs.Geometry.{IsForward, InPattern}
use Rattle.pg_position.specs.Step.{IsPiece}
use Rattle.pg_position.specs.Squares.{home_rank, last_rank}

-- where a man alone on the board may step: a pawn one forward, two from its home rank, or one diagonally forward; any
-- other by its pattern
unfoldable pub StepsTo : Color → Kind → ℕ → ℕ → Type 0
StepsTo c Pawn r s =
    ((file r ≡ file s) × IsForward c 1 r s)
    ⊎ (((rank r ≡ home_rank c) × (file r ≡ file s) × IsForward c 2 r s) ⊎ InPattern c Pawn r s)
StepsTo c k r s = InPattern c k r s

-- what it is there: a pawn on the last rank is a knight, bishop, rook or queen; any other man stays what it is
unfoldable pub Becomes : Color → Kind → ℕ → Kind → Type 0
Becomes c Pawn s j = ((rank s ≡ last_rank c) × IsPiece j) ⊎ ((rank s ≢ last_rank c) × (j ≡ Pawn))
Becomes c k s j = j ≡ k

-- a free step of a man of kind k on r: it is of kind j on s. A pawn on the last rank has none, as no square lies
-- ahead of it
abbrev pub FreeStep : Color → Kind → ℕ → Kind → ℕ → Type 0
FreeStep c k r j s = (r < 64) × (s < 64) × StepsTo c k r s × Becomes c k s j
