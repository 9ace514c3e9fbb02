-- The games of a few plies, summed move by move as a cursor hands the moves out.
use Rattle.pg_moves.proofs.Common.{◌≡◌, ℕ, suc, ◌+◌, ◌≤◌, List, [], ◌∷◌, ◌++◌, length, refl, sym, subst, ◌∙◌, arith, sum_by, sum_by_push, State, Move, IsPosition, Legal, legal_position, IsGameCount, place, NoneFrom, IsFirstMove, IsListBelow}
use Rattle.pg_moves.proofs.ListLemmas.{list_start, list_more, list_end, moves_of, moves_of_is, few_moves}
use Rattle.pg_moves.proofs.PlayLemmas.{play_of}
use Rattle.pg_moves.proofs.CountLemmas.{games_of, number_of, number_more, number_is, count_is, follow, follow_is, whole}
use Rattle.pg_moves.proofs.LeafLemmas.{ones}

-- the games of k plies after the legal moves of the places below `at` are n
pub record AreBelow (p : State) (k : ℕ) (at : ℕ) (n : ℕ) : Type 0 where
  moves : List Move
  list : IsListBelow p at moves
  sum : n ≡ sum_by (follow p k) moves

pub below_start : (p : State) (k : ℕ) → AreBelow p k 0 0
below_start p k = record { moves = []; list = list_start p; sum = omega arith }

pub below_more : (p : State) (k low n g : ℕ) (m : Move) → AreBelow p k low n → IsFirstMove p low 28672 m → g ≡ follow p k m → AreBelow p k (place m + 1) (n + g)
below_more p k low n g m h first is = record {
  moves = h.moves ++ m ∷ [];
  list = list_more p low h.moves m h.list first;
  sum = (let pushed : sum_by (follow p k) (h.moves ++ m ∷ []) ≡ sum_by (follow p k) h.moves + follow p k m = sum_by_push (follow p k) h.moves m in let old : n ≡ sum_by (follow p k) h.moves = h.sum in omega arith);
}

pub below_end : (p : State) (k low n : ℕ) → IsPosition p → AreBelow p k low n → low ≤ 28672 → NoneFrom p low 28672 → IsGameCount p (suc k) n
below_end p k low n pos h le none =
    let all : sum_by (follow p k) h.moves ≡ number_of (suc k) p = whole p (suc k) k h.moves pos (list_end p low h.moves h.list le none) refl in
    subst (λ (x : ℕ). IsGameCount p (suc k) x) (sym (h.sum ∙ all)) (number_is (suc k) p pos)

-- what follows a legal move
pub games_after : (p : State) (k : ℕ) (m : Move) (q : State) (n : ℕ) → IsPosition p → Legal p m q → IsGameCount q k n → n ≡ follow p k m
games_after p k m q n pos legal games = follow_is p (suc k) k (moves_of p) pos (moves_of_is p) refl m q n legal games

-- no position has more than 28,672 legal moves
pub few_replies : (p : State) (m : Move) (q : State) (n : ℕ) → IsPosition p → Legal p m q → IsGameCount q 1 n → n ≤ 28672
unfolding number_of games_of
few_replies p m q n pos legal games =
    let there : IsPosition q = legal_position p m q pos legal in
    let is : n ≡ number_of 1 q = count_is q 1 n there games in
    let all : number_of 1 q ≡ length (moves_of q) = number_more 0 q ∙ ones (moves_of q) (λ m. number_of 0 (play_of q m)) (λ m. refl) in
    let few : length (moves_of q) ≤ 28672 = few_moves q in
    omega arith
