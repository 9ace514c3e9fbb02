-- A test that no turn turns off, and that does not hold at the end, rules games out.
use Rattle.std.proofs.Common.{◌≢◌, ℕ, List, [], ◌∷◌, length, suc, sym, subst}
use Rattle.pg_board.specs.Placement.{Placement as Board}
use Rattle.pg_position.specs.declared.state.State.{State}
use Rattle.pg_position.specs.declared.moves.Move.{Move}
use Rattle.pg_position.specs.Position.{IsPosition}
use Rattle.pg_position.specs.Step.{Legal}
use Rattle.pg_position.specs.Game.{IsGame, Barren}
use Rattle.pg_position.proofs.FutureLemmas.{legal_position}

-- a test of a position and its plies left that every legal move keeps, with one ply less
abbrev pub Lasts : (State → ℕ → Type 0) → Type 0
Lasts H = (p : State) (m : Move) (q : State) (k : ℕ) → IsPosition p → Legal p m q → H p (suc k) → H q k

-- a test that does not hold with no ply left on the diagram
abbrev pub FailsAt : Board → (State → ℕ → Type 0) → Type 0
FailsAt d H = (p : State) → H p 0 → p.board ≢ d

never : (d : Board) (H : State → ℕ → Type 0) → Lasts H → FailsAt d H → (ms : List Move) (p r : State) → IsPosition p → H p (length ms) → IsGame p ms r → r.board ≢ d
never d H lasts fails [] p r valid holds e = let P : State → Type 0 = λ x. x.board ≢ d in subst P e (fails p holds)
never d H lasts fails (m ∷ ms) p r valid holds (q, turn, game) = never d H lasts fails ms q r (legal_position p m q valid turn) (lasts p m q (length ms) valid turn holds) game

pub barren_from : (d : Board) (H : State → ℕ → Type 0) → Lasts H → FailsAt d H → (p : State) (k : ℕ) → IsPosition p → H p k → Barren d p k
unfolding Barren
barren_from d H lasts fails p k valid holds ms r e game = let P : ℕ → Type 0 = λ n. H p n in never d H lasts fails ms p r valid (subst P (sym e) holds) game
