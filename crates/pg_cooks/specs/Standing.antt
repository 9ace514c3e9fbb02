-- What a list of games alone says of a problem, and its report.
use Rattle.std.specs.Prelude.{◌≡◌, ℕ, ◌≤◌, List, [], ◌++◌, length, codes}
use Rattle.pg_board.specs.Placement.{Placement}
use Rattle.pg_position.specs.declared.moves.Move.{Move}
use Rattle.pg_texts.specs.Report.{AreGameLines, line_text, head_text}
use Rattle.pg_cooks.specs.declared.standing.Standing.{Standing}
use Rattle.pg_cooks.specs.declared.standing.Standing.TheVariants.{NotSound, AtLeastOne, NoneGiven}

-- what a list of solutions says: two or more are a cook, one may not be the only one
abbrev pub IsStanding : List (List Move) → Standing → Type 0
IsStanding games NotSound = 2 ≤ length games
IsStanding games AtLeastOne = length games ≡ 1
IsStanding games NoneGiven = games ≡ []

abbrev pub standing_text : Standing → List ℕ
standing_text NotSound = codes "not sound"
standing_text AtLeastOne = codes "at least one game"
standing_text NoneGiven = codes "no game given"

-- the lines that say which diagram, which length in plies and how many games, and the movetext of each game
pub record IsKnownText (diagram : Placement) (plies : ℕ) (games : List (List Move)) (text : List ℕ) : Type 0 where
  pub lines : List ℕ
  pub are_lines : AreGameLines games lines
  pub is : text ≡ head_text diagram plies (length games) ++ lines

-- the report of a diagram, a length in plies and games that are known: these lines, and what the games say
pub record IsGamesReport (diagram : Placement) (plies : ℕ) (games : List (List Move)) (text : List ℕ) : Type 0 where
  pub front : List ℕ
  pub standing : Standing
  pub is_front : IsKnownText diagram plies games front
  pub is_standing : IsStanding games standing
  pub is : text ≡ front ++ line_text (standing_text standing)
