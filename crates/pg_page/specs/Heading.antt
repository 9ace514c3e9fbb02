-- What stands on a page above the trees: the title, the diagram, the verdict, what was checked, and the games.
use Rattle.std.specs.Prelude.{◌≡◌, ℕ, ◌==◌, List, [], ◌∷◌, ◌++◌, codes, decimal, length, if◌then◌else◌, nat_le}
use Rattle.pg_board.specs.Placement.{Placement}
use Rattle.pg_position.specs.declared.state.State.{State}
use Rattle.pg_position.specs.declared.moves.Move.{Move}
use Rattle.pg_position.specs.Array.{array_state}
use Rattle.pg_position.specs.Step.{Legal}
use Rattle.pg_fen.specs.PlacementText.{placement_text}
use Rattle.pg_fen.specs.Lengths.{length_text}
use Rattle.pg_checker.specs.declared.certify.Answer.{Answer}
use Rattle.pg_texts.specs.Items.{AreTexts}
use Rattle.pg_texts.specs.Movetext.{IsMovetext}
use Rattle.pg_page.specs.Board.{board_text}
use Rattle.pg_page.specs.Escaping.{escaped}
use Rattle.pg_page.specs.Lines.{IsMoveText}
use Rattle.pg_page.specs.declared.style.TheConstants.{BEGIN, MEN}
use Rattle.pg_page.specs.declared.heading.TheConstants.{CHECKED}

-- a title, or that of a length where it is empty
abbrev pub title_text : List ℕ → List ℕ → List ℕ
title_text title moves =
    if length title == 0 then codes "A proof game in " ++ (moves ++ codes " moves") else escaped title

-- by whom a problem is, where that is said
abbrev pub author_text : List ℕ → List ℕ
author_text author = if length author == 0 then [] else codes " by " ++ escaped author

-- both: the caption of a problem of this length
abbrev pub caption_text : List ℕ → List ℕ → List ℕ → List ℕ
caption_text title author moves = title_text title moves ++ author_text author

-- the length behind the diagram, up to the plies
abbrev pub asked : List ℕ → List ℕ
asked length = codes "\" data-length=\"" ++ (length ++ codes "\" data-plies=\"")

-- from the style to the problem's diagram: the title of the document
abbrev pub named_text : List ℕ → List ℕ
named_text caption = BEGIN.now ++ (codes "<title>" ++ (caption ++ codes "</title>\n</head>\n<body data-diagram=\""))

-- the drawings of the men, and the heading
abbrev pub headed_text : List ℕ → List ℕ
headed_text caption = MEN.now ++ (codes "<h1>" ++ (caption ++ codes "</h1>\n"))

-- what stands before the verdict: the style, the title, the problem for the script, the drawings of the men, the heading
-- and the diagram
abbrev pub front_text : Placement → ℕ → List ℕ → List ℕ → List ℕ
front_text d plies title author =
    named_text (caption_text title author (length_text plies))
    ++ (escaped (placement_text d)
    ++ (asked (length_text plies)
    ++ (decimal plies
    ++ (codes "\">\n" ++ (headed_text (caption_text title author (length_text plies)) ++ board_text d)))))

-- the verdict on so many games
abbrev pub verdict_words : ℕ → List ℕ
verdict_words count =
    if count == 0 then codes "<strong>No game.</strong> No game of "
    else (if count == 1 then codes "<strong>Sound.</strong> Just one game of "
    else ((codes "<strong>Cooked.</strong> " ++ decimal count) ++ codes " games of "))

-- what such games do
abbrev pub end_words : ℕ → List ℕ
end_words count =
    if nat_le count 1 then codes " moves from the initial array ends on this diagram, and no shorter game does.</p>\n<p>"
    else codes " moves from the initial array end on this diagram, and no shorter game does.</p>\n<p>"

-- so many records, and so many named nodes, up to the words behind the numbers
abbrev pub checked_text : ℕ → ℕ → List ℕ
checked_text records named =
    (codes "What was checked: a certificate of " ++ decimal records) ++ (codes " records with " ++ decimal named)

-- the verdict of an answer in so many plies, in a sentence, and what was checked
abbrev pub answer_text : ℕ → Answer → List ℕ
answer_text plies a =
    codes "<p id=\"verdict\">"
    ++ (verdict_words (length a.games)
    ++ (length_text plies
    ++ (end_words (length a.games) ++ (checked_text a.proved.records a.proved.named ++ CHECKED.now))))

-- moves that are legal one after another from p on, each for the script, with a space behind it
unfoldable pub AreMoveTexts : State → List Move → List ℕ → Type 0
AreMoveTexts p [] text = text ≡ []
AreMoveTexts p (m ∷ ms) text =
    (q : State) × (first : List ℕ) × (rest : List ℕ) × Legal p m q × IsMoveText p m first × AreMoveTexts q ms rest
    × (text ≡ first ++ 32 ∷ rest)

-- a game of the list: its moves for the script, and its movetext
pub record IsGameItem (game : List Move) (text : List ℕ) : Type 0 where
  pub moves : List ℕ
  pub movetext : List ℕ
  pub are_moves : AreMoveTexts array_state game moves
  pub is_movetext : IsMovetext game movetext
  pub is : text ≡ codes "<li><span data-moves=\"" ++ (moves ++ (codes "\">" ++ (movetext ++ codes "</span></li>\n")))

-- each game of the list, in their order
abbrev pub AreGameItems : List (List Move) → List ℕ → Type 0
AreGameItems games text = AreTexts IsGameItem games text

-- what stands before so many games, and behind them: more than twenty are folded
abbrev pub list_start : ℕ → List ℕ
list_start count =
    if nat_le count 20 then codes "<h2>The games</h2>\n<ol id=\"games\">\n"
    else ((codes "<h2>The games</h2>\n<details><summary>" ++ decimal count) ++ codes " games</summary>\n<ol id=\"games\">\n")

abbrev pub list_end : ℕ → List ℕ
list_end count = if nat_le count 20 then codes "</ol>\n" else codes "</ol>\n</details>\n"

-- the list of the games
abbrev pub IsGameList : List (List Move) → List ℕ → Type 0
IsGameList games text =
    (items : List ℕ) × AreGameItems games items
    × (text ≡ list_start (length games) ++ (items ++ list_end (length games)))

-- the head of a page of an answer to a diagram and so many plies, with a title and an author
pub record IsHead (d : Placement) (plies : ℕ) (title author : List ℕ) (a : Answer) (text : List ℕ) : Type 0 where
  pub games : List ℕ
  pub are_games : IsGameList a.games games
  pub is : text ≡ front_text d plies title author ++ (answer_text plies a ++ games)
