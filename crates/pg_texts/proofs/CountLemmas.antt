-- How many plies are counted. Leads to the contract of `run_count_watched`.
use Rattle.pg_texts.proofs.Common.{◌≡◌, ℕ, ◌<◌, ◌≤◌, Result, Ok, Err, subst, arith, OnErr}

-- at most 8 plies, where more are refused
pub few : {A E : Type 0} (plies : ℕ) (a : A) (e : E) → (8 < plies → Ok a ≡ Err e) → plies ≤ 8
few {A = A} {E = E} plies a e h = let shallow : ¬ (8 < plies) = λ deep. subst (λ (r : Result A E). OnErr r ⊥) (h deep) tt in omega (arith, shallow)
