-- What is known of the games of a length that end on a diagram: where captures land, and which men never move.
use Rattle.std.specs.Prelude.{◌≡◌, ℕ, zero, suc, ◌+◌, ◌/◌, ◌%◌, eqb, nat_le, nat_lt, cond, Bool, ◌&&◌, ◌||◌, List, [], ◌∷◌, ◌++◌, Option, Some, None, codes}
use Prim.Native.Char.{code}
use Rattle.pg_board.specs.Bits.{has}
use Rattle.pg_board.specs.Men.{is_of}
use Rattle.pg_board.specs.Placement.{Placement, get}
use Rattle.pg_board.specs.Tally.{count_below}
use Rattle.pg_board.specs.declared.man.Color.{Color}
use Rattle.pg_board.specs.declared.man.Color.TheVariants.{White, Black}
use Rattle.pg_board.specs.declared.man.Kind.{Kind}
use Rattle.pg_board.specs.declared.man.Kind.TheVariants.{Pawn}
use Rattle.pg_board.specs.declared.man.Man.{Man}
use Rattle.pg_position.specs.Array.{array_state}
use Rattle.pg_position.specs.declared.moves.Move.{Move}
use Rattle.pg_fen.specs.Lengths.{length_text}
use Rattle.pg_fen.specs.Letters.{letter_of_kind}
use Rattle.pg_journeys.specs.Facts.{FactsHold}
use Rattle.pg_journeys.specs.Known.{known, landing}
use Rattle.pg_journeys.specs.Rounds.{AreFacts, JourneysHold}
use Rattle.pg_journeys.specs.declared.facts.Facts.{Facts as FactSets}
use Rattle.pg_checker.specs.Answer.{IsSolution}
use Rattle.pg_report.specs.declared.within.Naming.{Naming}
use Rattle.pg_report.specs.declared.within.Naming.TheVariants.{Squares, Men}

-- what the bound by journeys knows of the games from the initial array to d of the length that is asked, if one is:
-- facts that hold for them, those of the last round; none where it excludes them, and then there is no such game
abbrev pub AreKnown : Placement → Option ℕ → Option FactSets → Type 0
AreKnown d None facts = facts ≡ None
AreKnown d (Some n) None = JourneysHold d array_state n × ((ms : List Move) → ¬ IsSolution d n ms)
AreKnown d (Some n) (Some f) = FactsHold (known f) d array_state n × AreFacts d array_state n 3 (known f)

-- ---- names of squares and men
abbrev pub name_of : Color → List ℕ
name_of White = codes "white "
name_of Black = codes "black "

-- the letter of the file and the digit of the rank
abbrev pub square_text : ℕ → List ℕ
square_text s = (code "a" + s % 8) ∷ (code "1" + s / 8) ∷ []

-- the capital letter of a piece, and nothing for a pawn
abbrev pub kind_text : Kind → List ℕ
kind_text Pawn = []
kind_text k = letter_of_kind k ∷ []

abbrev pub piece_text : Option Man → List ℕ
piece_text None = []
piece_text (Some m) = kind_text m.kind

-- the name of a square, or of the man that stands there in the initial array, as in `Ra1` and `a2`
abbrev pub item_text : Naming → ℕ → List ℕ
item_text Squares s = square_text s
item_text Men s = piece_text (get array_state.board s) ++ square_text s

-- ---- lists of squares or men
-- what stands before the last one of several: captures land on one or another square
abbrev pub last_mark : Naming → List ℕ
last_mark Squares = codes " or "
last_mark Men = codes ", "

-- what stands before the one with the number k, from 0, of n
abbrev pub mark_text : Naming → ℕ → ℕ → List ℕ
mark_text how k n = cond (eqb k 0) (codes "") (cond (nat_lt (k + 1) n) (codes ", ") (last_mark how))

-- the name of s behind its mark, where a set has it, and k squares before it
abbrev pub place_text : Naming → (ℕ → Bool) → ℕ → ℕ → List ℕ
place_text how set k s = cond (set s) (mark_text how k (count_below set 64) ++ item_text how s) []

-- the names of the squares below n that a set has
unfoldable pub list_text : Naming → (ℕ → Bool) → ℕ → List ℕ
list_text how set zero = []
list_text how set (suc n) = list_text how set n ++ place_text how set (count_below set n) n

-- ---- what is said of a colour
-- few enough squares to be named, where captures may land
abbrev pub are_few : (ℕ → Bool) → Bool
are_few set = nat_le (count_below set 64) 8

-- some man
abbrev pub are_some : (ℕ → Bool) → Bool
are_some set = nat_lt 0 (count_below set 64)

-- where captures land, if the squares are few
abbrev pub captures_text : (ℕ → Bool) → List ℕ
captures_text set =
    cond (eqb (count_below set 64) 0) (codes "captures nothing")
    (cond (are_few set) (codes "captures on " ++ (list_text Squares set 64 ++ codes " alone")) [])

-- who never moves, if anybody
abbrev pub unmoved_text : (ℕ → Bool) → List ℕ
unmoved_text set = cond (are_some set) (codes "never moved: " ++ list_text Men set 64) []

-- both, with a mark between them
abbrev pub said_text : (ℕ → Bool) → (ℕ → Bool) → List ℕ
said_text lands stays =
    captures_text lands ++ (cond (are_few lands && are_some stays) (codes "; ") [] ++ unmoved_text stays)

-- the line of a colour, by where its captures may land and which of its men stay; none where there is nothing to say
abbrev pub known_line : Color → (ℕ → Bool) → (ℕ → Bool) → List ℕ
known_line c lands stays =
    cond (are_few lands || are_some stays) (name_of c ++ (said_text lands stays ++ codes "\n")) []

-- by these facts the man of c stays who stands on s in the initial array
abbrev pub stays : Color → FactSets → ℕ → Bool
stays c f s = has f.still s && is_of c (get array_state.board s)

-- the line of a colour by facts
abbrev pub facts_text : FactSets → Color → List ℕ
facts_text f c = known_line c (has (landing f c)) (stays c f)

-- what is said of the games of the length that is asked, if one is
abbrev pub known_text : Option ℕ → Option FactSets → List ℕ
known_text None facts = []
known_text (Some n) None = codes "no game of " ++ (length_text n ++ codes " moves\n")
known_text (Some n) (Some f) = facts_text f White ++ facts_text f Black
