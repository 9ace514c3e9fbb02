-- What the status of `pg games` and `pg cooks` says.
use Rattle.std.specs.Prelude.{◌≡◌, ℕ, List}
use Rattle.pg_board.specs.Placement.{Placement}
use Rattle.pg_position.specs.declared.moves.Move.{Move}
use Rattle.pg_checker.specs.Answer.{AreSolutions}
use Rattle.pg_cooks.specs.Standing.{IsStanding}
use Rattle.pg_cooks.specs.Cooks.{IsCookAnswer}
use Rattle.pg_cooks.specs.declared.standing.Standing.{Standing}
use Rattle.pg_cooks.specs.declared.standing.Standing.TheVariants.{NotSound, AtLeastOne, NoneGiven}
use Rattle.pg_cooks.specs.declared.finding.CookAnswer.{CookAnswer}
use Rattle.pg_cooks.specs.declared.finding.CookAnswer.TheVariants.{Cook, Shorter, NotFound}

-- 1 where the problem is not sound, else 0
abbrev pub standing_status : Standing → ℕ
standing_status NotSound = 1
standing_status AtLeastOne = 0
standing_status NoneGiven = 0

-- 1 where a game is found, else that of what the listed games say by themselves
abbrev pub answer_status : CookAnswer → ℕ
answer_status (Cook game) = 1
answer_status (Shorter game) = 1
answer_status (NotFound foreign nodes end standing) = standing_status standing

-- the games are solutions, and the status is that of what they show by themselves
abbrev pub IsTestedWith : Placement → ℕ → List (List Move) → ℕ → Type 0
IsTestedWith d n list status =
    AreSolutions d n list × ((s : Standing) × IsStanding list s × (status ≡ standing_status s))

-- the games are solutions, and the status is that of what is found beside them
abbrev pub IsFollowedWith : Placement → ℕ → List (List Move) → ℕ → Type 0
IsFollowedWith d n list status =
    AreSolutions d n list × ((a : CookAnswer) × IsCookAnswer d n list a × (status ≡ answer_status a))
