use Rattle.pg_cli.proofs.Common.{refl, IsGamesReport}
use Rattle.pg_cooks.specs.declared.fault.ListingFault.TheVariants.{Write}
use Rattle.pg_cli.proofs.StatusLemmas.{has, on_ok, unwritten}
use Rattle.pg_cli.proofs.WrittenLemmas.{handed}
use Rattle.pg_cli.proofs.knowing.games_from.Goals as goal

pub returns-in-Ok : goal.returns-in-Ok
returns-in-Ok g c =
    let h = c.in-Ok.ensures.ok in
    record {
      status = has c.finished.result c.standing_status.result _ c.finished.ensures.ok (h.0, (c.in-Ok.standing, h.1, c.standing_status.ensures));
      report = on_ok c.finished.result _ _ c.finished.ensures.handed (handed g.W.Sink.held c.args.out.now c.run_games.new.out c.finished.new.out (IsGamesReport c.args.problem.now.diagram c.args.problem.now.length c.args.games.now) h.2);
      err = unwritten c.finished.result _ _ c.finished.ensures.err (λ failed. (Write, refl, (h.0, failed)));
    }

pub returns-in-Err-clause-err : goal.returns-in-Err-clause-err
returns-in-Err-clause-err g c = (c.in-Err.fault, c.of_listing.ensures, c.in-Err.ensures.err)
