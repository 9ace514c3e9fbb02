-- The games that are told. Leads to the contract of `run_cooks`.
use Rattle.pg_cooks.proofs.Common.{ℕ, List, length, Placement, Move, IsSolution, CookAnswer, Cook, Shorter, NotFound, IsCookAnswer, IsTold}
use Rattle.pg_san.specs.Games.{IsFromArray}

from_array : (d : Placement) (n : ℕ) (g : List Move) → IsSolution d n g → IsFromArray g
unfolding IsFromArray
from_array d n g (long, (r, is, same)) = (r, is)

-- what is found is a game from the array
pub told : (d : Placement) (n : ℕ) (games : List (List Move)) (answer : CookAnswer) → IsCookAnswer d n games answer → IsTold answer
told d n games (Cook game) h = from_array d n game.items h.0
told d n games (Shorter game) h = from_array d (length game.items) game.items h.1
told d n games (NotFound foreign nodes end standing) h = tt
