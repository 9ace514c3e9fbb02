-- Playing a legal move, as a function.
use Rattle.pg_moves.proofs.Common.{◌≡◌, State, Move, IsPosition, Legal, IsLegal, one_result}
use Rattle.pg_moves.proofs.DecisionLemmas.{dec_legal}

pub found_or : {A : Type 0} {P : A → Type 0} → A → Dec ((x : A) × P x) → A
found_or a (yes h) = h.0
found_or a (no f) = a

-- the state after the move; the state itself, where the move is illegal
unfoldable pub play_of : State → Move → State
play_of p m = found_or p (dec_legal p m)

found : {A : Type 0} (P : A → Type 0) (a : A) (d : Dec ((x : A) × P x)) → (x : A) × P x → P (found_or a d)
unfolding found_or
found P a (yes h) k = h.1
found P a (no f) k = absurd (f k)

-- a legal move is played by the function, for each state
pub play_of_legal : (p : State) (m : Move) → IsLegal p m → Legal p m (play_of p m)
unfolding play_of
play_of_legal p m l = found (λ q. Legal p m q) p (dec_legal p m) l

-- in a position it leads nowhere else
pub play_of_is : (p : State) (m : Move) (q : State) → IsPosition p → Legal p m q → play_of p m ≡ q
play_of_is p m q pos h = one_result p m (play_of p m) q pos (play_of_legal p m (q, h)) h
