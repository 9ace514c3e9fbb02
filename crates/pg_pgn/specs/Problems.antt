-- The games of a file as a list of problems.
use Rattle.std.specs.Prelude.{◌≡◌, ◌≢◌, ℕ, Bool, true, ◌||◌, ◌==◌, List, [], ◌∷◌, ◌++◌, Some, length, slice_get}
use Rattle.std.specs.List.{list_all}
use Rattle.std.specs.Char.{is_ascii_alphanumeric}
use Prim.Native.Char.{code}
use Rattle.pg_position.specs.declared.state.State.{State}
use Rattle.pg_position.specs.declared.moves.Move.{Move}
use Rattle.pg_position.specs.Array.{array_state}
use Rattle.pg_position.specs.Game.{IsGame}
use Rattle.pg_fen.specs.Lengths.{length_text}
use Rattle.pg_fen.specs.PlacementText.{placement_text}
use Rattle.pg_texts.specs.Items.{AreTexts}
use Rattle.pg_texts.specs.Movetext.{IsMovetext}
use Rattle.pg_texts.specs.Report.{line_text}

-- a letter or a digit of ASCII, a hyphen, an underscore or a dot
abbrev pub is_fit : ℕ → Bool
is_fit b = is_ascii_alphanumeric b || (b == code "-") || (b == code "_") || (b == code ".")

-- the word has a first byte, which is no dot
abbrev pub BeginsWell : List ℕ → Type 0
BeginsWell word = (b : ℕ) × (slice_get word 0 ≡ Some b) × (b ≢ code ".")

-- the word is of such bytes, one or more, and begins with no dot
abbrev pub IsName : List ℕ → Type 0
IsName word = (list_all is_fit word ≡ true) × BeginsWell word

-- a text and a tab
abbrev pub field_text : List ℕ → List ℕ
field_text text = text ++ code "\t" ∷ []

-- the line on a game from the initial array: some name, the diagram at its end, its length, and its moves
pub record IsProblem (game : List Move) (text : List ℕ) : Type 0 where
  pub name : List ℕ
  pub moves : List ℕ
  pub last : State
  pub is_name : IsName name
  pub is_movetext : IsMovetext game moves
  pub is_game : IsGame array_state game last
  pub is : text ≡ field_text name ++ (field_text (placement_text last.board)
      ++ (field_text (length_text (length game)) ++ line_text moves))

-- those on games, one after another
abbrev pub AreProblems : List (List Move) → List ℕ → Type 0
AreProblems games text = AreTexts IsProblem games text
