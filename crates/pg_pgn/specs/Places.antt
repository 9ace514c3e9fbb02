-- Lines and columns of a text, counted from 1.
use Rattle.std.specs.Prelude.{ℕ, ◌+◌, ◌-◌, Bool, false, ◌||◌, ◌&&◌, ◌==◌, not, nat_lt, List, [], ◌∷◌, length, take, if◌then◌else◌}
use Prim.Native.Char.{code}

-- `\n`, `\r\n` and `\r` end a line: at a `\r` with `\n` behind it the line ends behind that
abbrev pub begins_feed : List ℕ → Bool
begins_feed [] = false
begins_feed (b ∷ more) = b == code "\n"

abbrev pub ends_line : ℕ → List ℕ → Bool
ends_line b more = (b == code "\n") || ((b == code "\r") && not (begins_feed more))

-- behind a byte in line n, before these
abbrev pub next_line : ℕ → ℕ → List ℕ → ℕ
next_line n b more = if ends_line b more then n + 1 else n

-- the line that is reached behind these bytes from line n on
unfoldable pub line_from : ℕ → List ℕ → ℕ
line_from n [] = n
line_from n (b ∷ more) = line_from (next_line n b more) more

-- a byte that goes on with a character of several bytes
abbrev pub goes_on : ℕ → Bool
goes_on b = not (nat_lt b 128) && nat_lt b 192

-- behind a byte in column n, before these: a character takes one column
abbrev pub next_column : ℕ → ℕ → List ℕ → ℕ
next_column n b more = if ends_line b more then 1 else (if goes_on b then n else n + 1)

-- the column that is reached behind these bytes from column n on
unfoldable pub column_from : ℕ → List ℕ → ℕ
column_from n [] = n
column_from n (b ∷ more) = column_from (next_column n b more) more

-- what stands before the rest of a text
abbrev pub before : List ℕ → List ℕ → List ℕ
before text rest = take (length text - length rest) text
