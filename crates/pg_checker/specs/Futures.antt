-- When two positions have the same future, as a test: they are equal but for the passed square, and their effective
-- passed squares are equal.
use Rattle.std.specs.Prelude.{ℕ, Bool, Option, Some, None}
use Rattle.pg_board.specs.declared.man.Kind.TheVariants.{Pawn}
use Rattle.pg_board.specs.Men.{man}
use Rattle.pg_board.specs.lemmas.Decisions.{dec_and, dec_along, dec_some_below, dec_get}
use Rattle.pg_position.specs.declared.state.State.{State}
use Rattle.pg_position.specs.Attack.{Reaches}
use Rattle.pg_position.specs.Position.{Stands}
use Rattle.pg_position.specs.Equality.{state_eq}
use Rattle.pg_position.specs.Future.{IsPawnAttacked}
use Rattle.pg_moves.proofs.DecisionLemmas.{dec_pattern, dec_clear}

pub dec_attacked : (p : State) (e : ℕ) → Dec (IsPawnAttacked p e)
unfolding IsPawnAttacked
dec_attacked p e =
    dec_along (λ h. (h.0, h.1, h.2.0, h.2.1)) (λ h. (h.0, h.1, (h.2, h.3)))
    (dec_some_below (λ r. Stands p.board p.side Pawn r × Reaches p.board p.side Pawn r e)
    (λ r. dec_and (dec_get p.board r (Some (man p.side Pawn)))
    (dec_and (dec_pattern p.side Pawn r e) (dec_clear p.board r e))) 64)

-- a square, where a pawn attacks it
abbrev pub kept_if : {A : Type 0} → Dec A → ℕ → Option ℕ
kept_if (yes h) e = Some e
kept_if (no f) e = None

abbrev pub effective_of : State → Option ℕ → Option ℕ
effective_of p None = None
effective_of p (Some e) = kept_if (dec_attacked p e) e

-- the effective passed square
unfoldable pub effective : State → Option ℕ
effective p = effective_of p p.passed

-- whether two positions are equal where each has its effective passed square in place of its own
unfoldable pub future_eq : State → State → Bool
future_eq p q = state_eq (record p { passed = effective p }) (record q { passed = effective q })
