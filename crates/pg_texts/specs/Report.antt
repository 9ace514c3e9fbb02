-- The report of a diagram, a length and a list of games: what was asked, the games, and the verdict.
use Rattle.std.specs.Prelude.{◌≡◌, ℕ, ◌≤◌, List, [], ◌∷◌, ◌++◌, Option, length, codes}
use Rattle.std.specs.Fmt.{decimal}
use Rattle.std.specs.Io.KnownBytes.{Appends}
use Prim.Native.Char.{code}
use Rattle.pg_board.specs.Placement.{Placement}
use Rattle.pg_position.specs.declared.moves.Move.{Move}
use Rattle.pg_fen.specs.PlacementText.{placement_text}
use Rattle.pg_fen.specs.Lengths.{length_text}
use Rattle.pg_texts.specs.declared.verdict.Verdict.{Verdict}
use Rattle.pg_texts.specs.declared.verdict.Verdict.TheVariants.{Sound, Cooked, NoGame}
use Rattle.pg_texts.specs.Movetext.{IsMovetext}

-- the verdict on a list of games: one game is sound, two or more are cooked
abbrev pub IsVerdict : List (List Move) → Verdict → Type 0
IsVerdict games Sound = length games ≡ 1
IsVerdict games Cooked = 2 ≤ length games
IsVerdict games NoGame = games ≡ []

abbrev pub verdict_text : Verdict → List ℕ
verdict_text Sound = codes "sound"
verdict_text Cooked = codes "cooked"
verdict_text NoGame = codes "no game"

-- a line: a text and a line feed; and a label before it
abbrev pub line_text : List ℕ → List ℕ
line_text text = text ++ code "\n" ∷ []

abbrev pub labelled_text : List ℕ → List ℕ → List ℕ
labelled_text label text = label ++ line_text text

-- some text of this kind is appended, and a line feed
abbrev pub AddsLine : (List ℕ → Type 0) → Option (List ℕ) → Option (List ℕ) → Type 0
AddsLine Is before after = (text : List ℕ) × Is text × Appends before after (line_text text)

-- the lines that say what was asked, and how many games there are
unfoldable pub head_text : Placement → ℕ → ℕ → List ℕ
head_text diagram plies count =
    labelled_text (codes "diagram ") (placement_text diagram)
    ++ (labelled_text (codes "length ") (length_text plies) ++ labelled_text (codes "games ") (decimal count))

-- the movetext of each game, in their order, one a line
unfoldable pub AreGameLines : List (List Move) → List ℕ → Type 0
AreGameLines [] text = text ≡ []
AreGameLines (game ∷ games) text =
    (line : List ℕ) × (rest : List ℕ) × IsMovetext game line × AreGameLines games rest
    × (text ≡ line ++ code "\n" ∷ rest)

-- the report of a diagram, a length in plies and a list of games: the head, the games and the verdict
pub record IsReport (diagram : Placement) (plies : ℕ) (games : List (List Move)) (text : List ℕ) : Type 0 where
  pub lines : List ℕ
  pub verdict : Verdict
  pub are_lines : AreGameLines games lines
  pub is_verdict : IsVerdict games verdict
  pub is : text ≡ head_text diagram plies (length games) ++ (lines ++ line_text (verdict_text verdict))
