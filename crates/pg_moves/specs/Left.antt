-- The legal moves that are left of a position, and what is known of the man that moved last.
use Rattle.std.specs.Prelude.{◌≡◌, ℕ, ◌+◌, Bool, true, false, Option, Some, None, refl}
use Rattle.std.specs.Coded.{Coded, code_by, coded×, coded_option}
use Rattle.pg_position.specs.declared.state.State.{State}
use Rattle.pg_position.specs.declared.moves.Move.{Move}
use Rattle.pg_position.specs.contracts.state.State.{the_row as state_row}
use Rattle.pg_position.specs.contracts.moves.Move.{the_row as move_row}
use Rattle.pg_board.specs.SquareSets.{IsSetOf}
use Rattle.pg_position.specs.Step.{IsLegal, IsOnBoard}
use Rattle.pg_moves.specs.Moves.{IsNext, IsLast, IsBefore}
use Rattle.pg_moves.specs.inner.Places.{most_moves, place, place_of, NoneFrom, IsFirstMove}
use Rattle.pg_moves.specs.inner.Sources.{IsSource, IsToldSource}
use Rattle.pg_moves.specs.inner.Men.{AreKept, AreToCome}
use Rattle.pg_moves.specs.Targets.{FreeOff, IsTried, plain_move}
use Rattle.pg_moves.specs.declared.cursor.Peeked.{Peeked}
use Rattle.pg_moves.specs.declared.men.Men.{Men}
use Rattle.pg_moves.specs.declared.turns.Turn.{Turn}

-- a position, and the move that was handed out last
pub record MovesLeft : Type 0 where
  pub position : State
  pub last : Option Move

abbrev pub moves_left_code : Coded MovesLeft
moves_left_code =
    code_by (State × Option Move) (coded× state_row.coded (coded_option move_row.coded))
    (λ a. (a.position, a.last)) (λ q. record { position = q.0; last = q.1 }) (λ _. refl)

-- the set has the squares to which the man that made the move has legal moves past it, and he has no others past it
pub record IsRestOf (p : State) (a : Move) (rest : ℕ) : Type 0 where
  pub squares : IsSetOf rest (λ q. IsLegal p (plain_move a.from q) × IsBefore a (plain_move a.from q))
  pub plain : (m : Move) → IsLegal p m → m.from ≡ a.from → IsBefore a m → m.promotion ≡ None

-- past a move what is kept holds: the men that did not yet move, the man that made it, and where he goes to just the squares of
-- his set, those of them that are left
pub record IsTurn (p : State) (m : Move) (t : Turn) : Type 0 where
  pub to_come : AreToCome p (m.from + 1) t.left
  pub source : IsToldSource p m.from t.source
  pub rest : t.source.exact ≡ true → IsRestOf p m t.rest

-- so it does past the move that was handed out last, and before there is one all men are to come; what is kept of them holds
unfoldable pub IsReady : State → Option Move → Men → Turn → Type 0
IsReady p None men t = AreKept p men × AreToCome p 0 t.left
IsReady p (Some m) men t = AreKept p men × IsTurn p m t

-- the first legal move from one place up to another is kept as the last one
pub record IsBegun (p : State) (low high : ℕ) (t : Turn) : Type 0 where
  pub move : Move
  pub last : t.last ≡ Some move
  pub first : IsFirstMove p low high move
  pub source : IsToldSource p move.from t.source
  pub rest : t.source.exact ≡ true → IsRestOf p move t.rest

-- the man on r begins with his first legal move and these men are to come, or he has none and nothing changes
unfoldable pub IsFirstOfMan : State → ℕ → ℕ → Turn → Turn → Bool → Type 0
IsFirstOfMan p r set old new true = IsBegun p (place_of r 0 0) (place_of (r + 1) 0 0) new × (new.left ≡ set)
IsFirstOfMan p r set old new false = (new ≡ old) × NoneFrom p (place_of r 0 0) (place_of (r + 1) 0 0)

-- what was found for a move ahead holds past it
unfoldable pub IsPeeked : State → Peeked → Type 0
IsPeeked p a = FreeOff p a.maybe_pinned × IsSource p a.m.from a.source

-- the man that moved last, if one did, has no legal move left
unfoldable pub IsManDone : State → Option Move → Type 0
IsManDone p None = Unit {0}
IsManDone p (Some a) = IsOnBoard a × NoneFrom p (place a + 1) (place_of (a.from + 1) 0 0)

-- the next legal move is one of the man that moved last
unfoldable pub IsNextOfMan : State → Option Move → Move → Type 0
IsNextOfMan p None m = ⊥
IsNextOfMan p (Some a) m = IsNext p (Some a) m × (m.from ≡ a.from)

-- the squares of the men that did not yet move begin here
abbrev pub men_from : Option Move → ℕ
men_from None = 0
men_from (Some a) = a.from + 1

-- a man moved last, and the set has his further moves
unfoldable pub IsRest : State → Option Move → ℕ → Type 0
IsRest p None rest = ⊥
IsRest p (Some a) rest = IsRestOf p a rest

-- the move of the man that moved last to another square, without promotion
abbrev pub to_square : Option Move → ℕ → Option Move
to_square None s = None
to_square (Some a) s = Some (plain_move a.from s)

-- a man moved last, if one did, whose moves are tried one by one
unfoldable pub IsOneByOne : State → Option Move → Type 0
IsOneByOne p None = Unit {0}
IsOneByOne p (Some a) = IsTried p a.from

-- the first legal move of the men that did not yet move is kept as the last one, with what holds past it; or they have none and nothing
-- changes
unfoldable pub IsFirstOfAll : State → Turn → Turn → Bool → Type 0
IsFirstOfAll p old new true =
    (m : Move) × (new.last ≡ Some m) × IsFirstMove p (place_of (men_from old.last) 0 0) most_moves m × IsTurn p m new
IsFirstOfAll p old new false = (new ≡ old) × NoneFrom p (place_of (men_from old.last) 0 0) most_moves

-- the next legal move is handed out, or there is none and nothing changes
unfoldable pub IsHandedOut : MovesLeft → MovesLeft → Bool → Type 0
IsHandedOut old new true =
    (m : Move) × IsNext old.position old.last m × (new ≡ record { position = old.position; last = Some m })
IsHandedOut old new false = IsLast old.position old.last × (new ≡ old)
