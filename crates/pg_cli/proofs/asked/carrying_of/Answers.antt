use Rattle.pg_cli.proofs.Common.{codes, found_of, rows_of, IsUnread, spelled}
use Rattle.pg_cli.proofs.EndLemmas.{of_input, opened_by, unopened_by}
use Rattle.pg_cli.proofs.StatusLemmas.{is_of_file}
use Rattle.pg_cli.proofs.asked.carrying_of.Goals as goal

pub returns-in-Ok : goal.returns-in-Ok
returns-in-Ok g c = record {
  ok = opened_by g.R.File.Read.remaining g.R.Reader.Read.remaining c.in-Ok.file c.text_of.result.now
      (spelled (codes "CERT") (rows_of (found_of c.args.words.now))) _ c.carried_from.result c.text_of.ensures c.in-Ok.ensures.side c.carried_from.ensures.ok;
  err = unopened_by _ c.carried_from.result c.carried_from.ensures.err;
}

pub returns-in-Err : goal.returns-in-Err
returns-in-Err g c = record { ok = tt; err = of_input c.of_file.result (is_of_file c.in-Err.fault _ c.of_file.result c.of_file.ensures) }
