use Rattle.pg_cli.proofs.Common.{inl, inr, refl, subst, List, ℕ, IsListing, IsTextFault}
use Rattle.pg_cli.proofs.knowing.listed_in.Goals as goal

pub returns-in-Err-clause-err : goal.returns-in-Err-clause-err
returns-in-Err-clause-err c = inl (refl, c.in-Err.ensures.cases.0)

pub returns-in-Err-problem-clause-err : goal.returns-in-Err-problem-clause-err
returns-in-Err-problem-clause-err c = inr (inl (c.in-Err-problem.fault, c.in-Err-problem.is, c.of_problem.ensures))

pub returns-in-Ok-read_games-clause-games : goal.returns-in-Ok-read_games-clause-games
returns-in-Ok-read_games-clause-games c =
    subst (λ (t : List ℕ). IsListing t c.in-Ok-read_games.games) c.in-Ok.ensures.cases.0 c.in-Ok-read_games.ensures.ok

pub returns-in-Err-read_games-clause-err : goal.returns-in-Err-read_games-clause-err
returns-in-Err-read_games-clause-err c = inr (inr (
  c.in-Ok-problem.problem,
  c.in-Ok-problem.is,
  subst (λ (t : List ℕ). IsTextFault t c.in-Err-read_games.fault) c.in-Ok.ensures.cases.0 c.in-Err-read_games.ensures.err,
))
