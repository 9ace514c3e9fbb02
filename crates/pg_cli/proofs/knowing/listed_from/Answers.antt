use Rattle.pg_cli.proofs.Common.{inl, Result, Ok, Err, IfOk, IfErr}
use Rattle.pg_cli.proofs.EndLemmas.{listing_told, of_input, unlisted_so}
use Rattle.pg_cli.proofs.StatusLemmas.{is_of_file}
use Rattle.pg_cli.proofs.knowing.listed_from.Goals as goal

pub returns-in-Ok : goal.returns-in-Ok
returns-in-Ok g c = record {
  problem = c.listed_in.ensures.problem;
  games = listing_told c.listed_in.result _ c.listed_in.ensures.games;
  err = unlisted_so c.args.problem c.listed_in.result _ c.listed_in.ensures.err;
}

pub returns-in-Err : goal.returns-in-Err
returns-in-Err g c = record { problem = tt; games = tt; err = inl (of_input _ (is_of_file c.in-Err.fault _ _ c.of_file.ensures)) }
