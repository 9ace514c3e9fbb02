-- What a check goes by: rules, limits, and the bytes of its source.
use Rattle.std.specs.Prelude.{ℕ, List, Option}
use Rattle.pg_board.specs.Placement.{Placement}
use Rattle.pg_position.specs.declared.moves.Move.{Move}
use Rattle.pg_checker.specs.Cuts.{CheckRules}

-- the rules for a diagram, a number of plies and a list of games; how many records and named nodes are taken at most;
-- and the bytes that the source gives, where it tells them
pub record Terms : Type 0 where
  pub rules : Placement → ℕ → List (List Move) → CheckRules
  pub max_records : ℕ
  pub max_named : ℕ
  pub known : Option (List ℕ)

-- these, one after the other
abbrev pub terms : (Placement → ℕ → List (List Move) → CheckRules) → ℕ → ℕ → Option (List ℕ) → Terms
terms rules max_records max_named known =
    record { rules = rules; max_records = max_records; max_named = max_named; known = known }
