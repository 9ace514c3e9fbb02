-- A game's captures, and the plans that it makes of the men of either colour: they keep its accounts.
use Rattle.std.specs.Prelude.{◌≡◌, ℕ, ◌+◌, ◌≤◌, cond, ◌&&◌, List, [], ◌∷◌, length}
use Rattle.pg_board.specs.declared.man.Color.{Color}
use Rattle.pg_board.specs.Men.{color_eq, other}
use Rattle.pg_position.specs.declared.state.State.{State}
use Rattle.pg_position.specs.declared.moves.Move.{Move}
use Rattle.pg_position.specs.Position.{IsPosition}
use Rattle.pg_captures.specs.Owed.{plies_left}
use Rattle.pg_journeys.specs.Facts.{Facts, IsManned, IsGameUnder}
use Rattle.pg_tolls.specs.Charges.{Plan, plies_of, taken_on, lost_on}
use Rattle.pg_tolls.specs.lemmas.Takes.{takes}

-- the sum of a number over the squares to which c's captures go in a game, once for each capture
abbrev pub captured : (ℕ → ℕ) → Color → (f : Facts) (p : State) (ms : List Move) (q : State) → IsGameUnder f p ms q → ℕ
captured h c f p [] q e = 0
captured h c f p (m ∷ ms) q (n, legal, keeps, game) =
    cond (color_eq p.side c && takes p m) (h m.to) 0 + captured h c f n ms q game

-- a plan keeps the accounts of a game: it takes no more plies than c's share of the game, its marked steps go to the squares
-- where c captures, and its men are captured on the squares where the other colour does, as often
pub record KeepsAccounts (f : Facts) (p : State) (ms : List Move) (q : State) (game : IsGameUnder f p ms q) (c : Color) (x : Plan f q.board p c) : Type 0 where
  pub plies : plies_of f q.board p c x ≤ plies_left p.side c (length ms)
  pub taken : (h : ℕ → ℕ) → taken_on f q.board p c x h ≡ captured h c f p ms q game
  pub lost : (h : ℕ → ℕ) → lost_on f q.board p c x h ≡ captured h (other c) f p ms q game

-- the law: a game that keeps facts makes of the men of each colour a plan that keeps its accounts
abbrev pub AccountsLaw : Type 0
AccountsLaw =
    (f : Facts) (p : State) (ms : List Move) (q : State) (game : IsGameUnder f p ms q) (c : Color) → IsPosition p → IsManned f p.board →
    (x : Plan f q.board p c) × KeepsAccounts f p ms q game c x
