-- What is left of a text of games: the text behind a line feed, or nothing.
use Rattle.std.specs.Prelude.{ℕ, ◌+◌, List, [], length, Option, Some, None}
use Rattle.std.specs.Borrow.{Bor}
use Rattle.pg_san.specs.GameText.{lines}

-- the lines that are left: behind a line feed there is one at least
abbrev pub lines_left : Option (Bor (List ℕ)) → List (List ℕ)
lines_left None = []
lines_left (Some text) = lines text.now

abbrev pub length_left : Option (Bor (List ℕ)) → ℕ
length_left None = 0
length_left (Some text) = length text.now + 1
