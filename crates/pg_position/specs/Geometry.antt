-- How squares lie to one another, and the pattern of each man (FIDE 3.2 to 3.8). A square is its index, 0 to 63.
use Rattle.std.specs.Prelude.{◌≡◌, ◌≢◌, ℕ, ◌+◌, ◌-◌, ◌≤◌, ◌⊎◌}
use Rattle.pg_board.specs.declared.man.Color.{Color}
use Rattle.pg_board.specs.declared.man.Color.TheVariants.{White, Black}
use Rattle.pg_board.specs.declared.man.Kind.{Kind}
use Rattle.pg_board.specs.declared.man.Kind.TheVariants.{Pawn, Knight, Bishop, Rook, Queen, King}
use Rattle.pg_board.specs.Squares.{file, rank}

-- how far two files, or two ranks, are apart
abbrev pub apart : ℕ → ℕ → ℕ
apart a b = (a - b) + (b - a)

-- n ranks forward, as a man of this colour sees it
abbrev pub IsForward : Color → ℕ → ℕ → ℕ → Type 0
IsForward White n r s = rank s ≡ rank r + n
IsForward Black n r s = rank r ≡ rank s + n

-- two squares of one file or of one rank
abbrev pub OnOneLine : ℕ → ℕ → Type 0
OnOneLine r s = (file r ≡ file s) ⊎ (rank r ≡ rank s)

-- two squares of one diagonal
abbrev pub OnOneDiagonal : ℕ → ℕ → Type 0
OnOneDiagonal r s = apart (file r) (file s) ≡ apart (rank r) (rank s)

-- the pattern of a man: s is one of the squares that it attacks from r on an empty board
unfoldable pub InPattern : Color → Kind → ℕ → ℕ → Type 0
InPattern c Pawn r s = (apart (file r) (file s) ≡ 1) × IsForward c 1 r s
InPattern c Knight r s =
    ((apart (file r) (file s) ≡ 1) × (apart (rank r) (rank s) ≡ 2))
    ⊎ ((apart (file r) (file s) ≡ 2) × (apart (rank r) (rank s) ≡ 1))
InPattern c Bishop r s = (r ≢ s) × OnOneDiagonal r s
InPattern c Rook r s = (r ≢ s) × OnOneLine r s
InPattern c Queen r s = (r ≢ s) × (OnOneLine r s ⊎ OnOneDiagonal r s)
InPattern c King r s = (r ≢ s) × (apart (file r) (file s) ≤ 1) × (apart (rank r) (rank s) ≤ 1)

-- b is between a and c, or one of them
abbrev pub IsWithin : ℕ → ℕ → ℕ → Type 0
IsWithin a b c = apart a b + apart b c ≡ apart a c

-- t is strictly between r and s, on their line or diagonal: between them in file and in rank, on a diagonal on it too
unfoldable pub IsBetween : ℕ → ℕ → ℕ → Type 0
IsBetween r t s =
    (t ≢ r) × (t ≢ s) × IsWithin (file r) (file t) (file s) × IsWithin (rank r) (rank t) (rank s)
    × (OnOneLine r s ⊎ (OnOneDiagonal r t × OnOneDiagonal r s))
