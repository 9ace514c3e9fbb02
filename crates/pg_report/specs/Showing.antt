-- What is said at once of a diagram: its board, what either colour has done, and the least length.
use Rattle.std.specs.Prelude.{◌≡◌, ℕ, ◌-◌, eqb, nat_le, cond, List, ◌++◌, Option, Some, None, codes}
use Rattle.std.specs.Fmt.{decimal}
use Rattle.std.specs.Option.{option_map}
use Rattle.pg_board.specs.Placement.{Placement}
use Rattle.pg_board.specs.declared.man.Color.{Color}
use Rattle.pg_board.specs.declared.man.Color.TheVariants.{White, Black}
use Rattle.pg_captures.specs.Counting.{men, any_man}
use Rattle.pg_captures.specs.Owed.{victims}
use Rattle.pg_fen.specs.Lengths.{length_text}
use Rattle.pg_texts.specs.BoardText.{board_text}
use Rattle.pg_report.specs.declared.sides.Reason.{Reason}
use Rattle.pg_report.specs.declared.sides.Reason.TheVariants.{Captures, Promotions, PawnFiles, Travel, Pairs}
use Rattle.pg_report.specs.Sides.{own_plies, IsSideNeed}
use Rattle.pg_report.specs.Expecting.{IsExpected, expected_text}
use Rattle.pg_report.specs.declared.expecting.Expected.{Expected}
use Rattle.pg_report.specs.Within.{AreKnown, name_of, known_text}
use Rattle.pg_journeys.specs.declared.facts.Facts.{Facts as FactSets}

-- a number, and what is said of one or of another number
abbrev pub counted_text : ℕ → List ℕ → List ℕ → List ℕ
counted_text n one many = decimal n ++ cond (eqb n 1) one many

-- how many men a colour has
abbrev pub men_text : Placement → Color → List ℕ
men_text d c = name_of c ++ counted_text (men c any_man d) (codes " man, captured ") (codes " men, captured ")

-- how many it captured: those that the other colour lacks of 16
abbrev pub captured_text : Placement → Color → List ℕ
captured_text d c = decimal (16 - victims c d) ++ codes ", "

-- what a need is for
abbrev pub reason_text : Option Reason → List ℕ
reason_text None = codes ""
reason_text (Some Captures) = codes " (captures)"
reason_text (Some Promotions) = codes " (promotions)"
reason_text (Some PawnFiles) = codes " (pawn files)"
reason_text (Some Travel) = codes " (travel)"
reason_text (Some Pairs) = codes " (travel, pair by pair)"

-- a comma, a number, and what is said of it
abbrev pub behind_text : ℕ → List ℕ → List ℕ
behind_text n words = codes ", " ++ (decimal n ++ words)

-- how many of a colour's `own` plies are left over, or short, for a need of n; nothing where no length is asked
abbrev pub spare_text : Option ℕ → ℕ → List ℕ
spare_text None n = codes "\n"
spare_text (Some own) n =
    cond (nat_le n own) (behind_text (own - n) (codes " left over\n")) (behind_text (n - own) (codes " short\n"))

-- what a colour needs, for what reason, and what is left over
-- of its plies of a game of the length that is asked, if one is
abbrev pub need_text : Color → Option ℕ → Option Reason → Option ℕ → List ℕ
need_text c None reason asked = codes "cannot stand so in 64.0 moves or less" ++ (reason_text reason ++ codes "\n")
need_text c (Some n) reason asked =
    (codes "needs " ++ (counted_text n (codes " ply") (codes " plies") ++ reason_text reason))
    ++ spare_text (option_map (own_plies c) asked) n

-- the line of a colour, by what it needs from the initial array
abbrev pub IsSideLine : Placement → Color → Option ℕ → List ℕ → Type 0
IsSideLine d c asked text =
    (need : Option ℕ) × (reason : Option Reason) × IsSideNeed d c need reason
    × (text ≡ men_text d c ++ (captured_text d c ++ need_text c need reason asked))

-- the least length, none where no length up to 128 plies is open
abbrev pub open_line : Option ℕ → List ℕ
open_line None = codes "no game of 64.0 moves or less\n"
open_line (Some n) = codes "no game is shorter than " ++ (length_text n ++ codes "\n")

-- what stands below the lines of the colours: with a length what is known
-- of its games, the least length, and what may be expected of a search
abbrev pub below_text : Option ℕ → Option FactSets → Option ℕ → Option Expected → List ℕ
below_text asked facts least expected = known_text asked facts ++ (open_line least ++ expected_text expected)

-- the board, a line for white and one for black, and what stands below them
abbrev pub IsShown : Placement → Option ℕ → Option ℕ → List ℕ → Type 0
IsShown d asked least text =
    (white : List ℕ) × (black : List ℕ) × (facts : Option FactSets) × (expected : Option Expected)
    × IsSideLine d White asked white × IsSideLine d Black asked black × AreKnown d asked facts
    × IsExpected d asked facts least expected
    × (text ≡ board_text d ++ (white ++ (black ++ below_text asked facts least expected)))
