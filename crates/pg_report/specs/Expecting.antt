-- What is said of the nodes that a search by journeys may visit: two powers of ten, each rounded to a digit and zeros.
use Rattle.std.specs.Prelude.{◌≡◌, ℕ, ◌+◌, ◌-◌, ◌*◌, ◌/◌, ◌%◌, ◌≤◌, ◌↔◌, min, nat_le, cond, Bool, IsTrue, List, ◌++◌, Option, Some, None, IsSome, codes}
use Rattle.std.specs.Option.{option_map}
use Rattle.pg_board.specs.Bits.{has}
use Rattle.pg_board.specs.Placement.{Placement}
use Rattle.pg_board.specs.Tally.{count_below}
use Rattle.pg_board.specs.declared.man.Color.TheVariants.{White, Black}
use Rattle.pg_captures.specs.Counting.{men, any_man}
use Rattle.pg_journeys.specs.declared.facts.Facts.{Facts as FactSets}
use Rattle.pg_report.specs.declared.expecting.Expected.{Expected}

-- nothing is known against games of n plies: there are facts about them, and the least length is
-- no longer; and it is shorter by four plies at most, since the rule of thumb is fitted to no others
abbrev pub IsOpen : ℕ → Option FactSets → Option ℕ → Type 0
IsOpen n facts None = ⊥
IsOpen n facts (Some least) = IsSome facts × (least ≤ n) × (n ≤ least + 4)

-- how many men of the initial array may move or be captured in some games, by facts about these
abbrev pub free_men : FactSets → ℕ
free_men f = 32 - count_below (has f.still) 64

-- how many men were captured where a game ends on d
abbrev pub captured_men : Placement → ℕ
captured_men d = 32 - (men White any_man d + men Black any_man d)

-- a rule of thumb for a search by journeys for games of n plies, in hundredths of the logarithm to the base 10 of its nodes
abbrev pub by_journeys : ℕ → ℕ → ℕ → ℕ
by_journeys n free captured = 60 + 28 * min n 14 + 8 * min free 11 - 28 * min captured 4

-- one for a search without them, by plies and the slack of either side
abbrev pub without_journeys : ℕ → ℕ → ℕ → ℕ
without_journeys n white black = 65 * (white + black) + 26 * n - 60

-- what the rule of thumb says of the length that is asked, and whether the other one says ten times more for some slack of
-- either side, of which nothing is said; it may be missing, and is where something is known against games of that length
-- or where that is longer than the least one by more than four plies
abbrev pub IsExpected : Placement → Option ℕ → Option FactSets → Option ℕ → Option Expected → Type 0
IsExpected d asked facts least None = Unit {0}
IsExpected d None facts least (Some e) = ⊥
IsExpected d (Some n) facts least (Some e) =
    IsOpen n facts least
    × (Some e.hundredths ≡ option_map
    (λ f. by_journeys n (free_men f) (captured_men d)) facts)
    × ((white : ℕ) × (black : ℕ) × (IsTrue e.is_longer ↔ (e.hundredths + 100 ≤ without_journeys n white black)))

-- h hundredths of an exponent; those of the next power of ten where
-- that is nearer than nine times the last one, since 9.5 is 10^0.9777
abbrev pub rounded : ℕ → ℕ
rounded h = cond (nat_le 98 (h % 100)) (h + 2) h

-- the digit that is nearest to the power of ten whose exponent is r hundredths, fewer than 98: 1.5 is 10^0.1760, 2.5 is
-- 10^0.3979 and so on
abbrev pub digit_text : ℕ → List ℕ
digit_text r =
    cond (nat_le r 17) (codes "1") (cond (nat_le r 39) (codes "2") (cond (nat_le r 54) (codes "3")
    (cond (nat_le r 65) (codes "4") (cond (nat_le r 74) (codes "5") (cond (nat_le r 81) (codes "6")
    (cond (nat_le r 87) (codes "7") (cond (nat_le r 92) (codes "8") (codes "9"))))))))

-- z zeros, three of them as a word
abbrev pub unit_text : ℕ → List ℕ
unit_text z =
    cond (nat_le z 0) (codes "") (cond (nat_le z 1) (codes "0") (cond (nat_le z 2) (codes "00")
    (cond (nat_le z 3) (codes " thousand") (cond (nat_le z 4) (codes "0 thousand")
    (cond (nat_le z 5) (codes "00 thousand")
    (cond (nat_le z 6) (codes " million") (cond (nat_le z 7) (codes "0 million") (cond (nat_le z 8) (codes "00 million")
    (cond (nat_le z 9) (codes " billion") (cond (nat_le z 10) (codes "0 billion")
    (cond (nat_le z 11) (codes "00 billion") (codes "000 billion or more"))))))))))))

-- a power of ten, by hundredths of its exponent
abbrev pub power_text : ℕ → List ℕ
power_text h = digit_text (rounded h % 100) ++ unit_text (rounded h / 100)

-- from a twentieth of it, but at least one, to twenty times as much: 20 is 10^1.3010
abbrev pub range_text : ℕ → List ℕ
range_text h = power_text (h - 130) ++ (codes " to " ++ power_text (h + 130))

-- what stands behind these numbers
abbrev pub end_text : Bool → List ℕ
end_text is_longer =
    cond is_longer (codes " nodes, as a guess; without journeys ten times more, or worse\n") (codes " nodes, as a guess\n")

-- the line of what may be expected; none where nothing is
abbrev pub expected_text : Option Expected → List ℕ
expected_text None = codes ""
expected_text (Some e) = codes "a search by journeys may visit " ++ (range_text e.hundredths ++ end_text e.is_longer)
