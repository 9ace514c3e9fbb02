use Rattle.pg_cli.proofs.Common.{true, refl}
use Rattle.pg_cooks.specs.declared.fault.ListingFault.TheVariants.{Write}
use Rattle.pg_cli.proofs.StatusLemmas.{has, unwritten}
use Rattle.pg_cli.proofs.knowing.games_as_pgn.Goals as goal

pub returns-in-Ok : goal.returns-in-Ok
returns-in-Ok g c =
    let h = c.in-Ok.ensures.ok in
    record {
      status = has c.send.result c.standing_status.result _ c.send.ensures.ok (h.0, (c.in-Ok.standing, h.1, c.standing_status.ensures));
      text = c.send.ensures.text;
      err = unwritten c.send.result _ _ c.send.ensures.err (λ failed. (true, (Write, refl, (h.0, refl))));
    }

pub returns-in-Err-clause-err : goal.returns-in-Err-clause-err
returns-in-Err-clause-err g c = (_, (c.in-Err.fault, c.of_listing.ensures, c.in-Err.ensures.err))
