-- Cuts by a list of bounds and by prices, and the rules that a check goes by.
use Rattle.std.specs.Prelude.{ℕ, Bool, false, ◌==◌, List, [], ◌∷◌, Option, Some, None, if◌then◌else◌}
use Rattle.std.specs.Option.{option_map}
use Rattle.pg_board.specs.declared.man.Color.{Color}
use Rattle.pg_board.specs.Placement.{Placement}
use Rattle.pg_position.specs.declared.state.State.{State}
use Rattle.pg_position.specs.declared.moves.Move.{Move}
use Rattle.pg_captures.specs.Lists.{first_of}
use Rattle.pg_captures.specs.PriceLists.{PriceList}
use Rattle.pg_pawns.specs.PricesDecided.{pawn_prices_test}
use Rattle.pg_travel.specs.PricesDecided.{travel_prices_test}
use Rattle.std.specs.declared.alloc.Global.{Global}
use Rattle.std.specs.declared.dyn_box.DynBox.{DynBox}
use Rattle.pg_checker.specs.declared.machine.Question.{Question}
use Rattle.pg_checker.specs.Tree.{Rules}
use Rattle.pg_checker.specs.Chess.{Cuts, any_game, chess, chess_with}

-- pawn files have one price list
abbrev pub files_by : Placement → State → Color → List PriceList → Bool
files_by d p color (l ∷ []) = pawn_prices_test d p color l
files_by d p color _ = false

-- whether prices exclude, for the diagram d: code 3 is that of
-- pawn files, 4 that of travel; None: no prices have the code
abbrev pub prices_by : Placement → ℕ → Color → List PriceList → State → ℕ → Option Bool
prices_by d code color prices p k =
    if code == 3 then Some (files_by d p color prices) else
    if code == 4 then Some (travel_prices_test d p k color prices) else
    None

-- in a certificate of this version, for the diagram d: the first bound of a code excludes, or prices do
abbrev pub cuts_by : {B : Type 0} → (B → ℕ) → (B → Placement → State → ℕ → Bool) → ℕ → Placement → List B → Cuts
cuts_by code_of excluded version d bounds = record {
  version = version;
  bounds = λ code p k. option_map (λ b. excluded b d p k) (first_of code_of code bounds);
  prices = prices_by d;
}

-- the stated number of plies, and what a certificate of each version goes by
pub record CheckRules : Type 0 where
  pub plies : ℕ
  pub of : (version : ℕ) → Rules State Move

-- chess with the diagram d, n plies and the games, cut by prices and by a list of bounds in boxes: each bound is seen
-- by its code and by what it excludes
abbrev pub rules_by : {B : Type 0} → (B → ℕ) → (B → Placement → State → ℕ → Bool) → List B → Placement → ℕ
    → List (List Move) → CheckRules
rules_by code_of excluded bounds d n games =
    record { plies = n; of = λ version. chess d n games (cuts_by code_of excluded version d bounds) }

-- the same where every game is listed
abbrev pub any_rules_by : {B : Type 0} → (B → ℕ) → (B → Placement → State → ℕ → Bool) → List B → Placement → ℕ
    → List (List Move) → CheckRules
any_rules_by code_of excluded bounds d n games =
    record { plies = n; of = λ version. chess_with d n any_game (cuts_by code_of excluded version d bounds) }

-- ---- what is asked of a certificate, and its version
module _ {X : Type 0} {F : X → Type 0} (code_of : DynBox X Global F → ℕ)
    (excluded : DynBox X Global F → Placement → State → ℕ → Bool) where
  -- what cuts nodes
  abbrev pub cuts_for : Question X F → Cuts
  cuts_for question = cuts_by code_of excluded question.version question.diagram.now question.bounds.now

  -- the rules that its trees must fit, by a test of which games are listed
  abbrev pub rules_for : Question X F → (List Move → Bool) → Rules State Move
  rules_for question listed = chess_with question.diagram.now question.plies listed (cuts_for question)
