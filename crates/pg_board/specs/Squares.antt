-- The 64 squares, each seen as its index 8 * (rank - 1) + file - 1: a1 is 0, h1 is 7, h8 is 63 (FIDE 2.1, 2.4).
use Rattle.std.specs.Prelude.{ℕ, Bool, not, nat_eq, ◌+◌, ◌/◌, ◌%◌}

-- the file of a square, 1 for a to 8 for h
abbrev pub file : ℕ → ℕ
file s = s % 8 + 1

-- the rank of a square, 1 to 8
abbrev pub rank : ℕ → ℕ
rank s = s / 8 + 1

-- a square is dark where its file and its rank add up to an even number, as 1 + 1 of a1
abbrev pub is_dark : ℕ → Bool
is_dark s = nat_eq ((file s + rank s) % 2) 0

-- the other squares are light
abbrev pub is_light : ℕ → Bool
is_light s = not (is_dark s)
