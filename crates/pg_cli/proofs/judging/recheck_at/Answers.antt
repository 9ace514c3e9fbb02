use Rattle.pg_cli.proofs.judging.recheck_at.Goals as goal

pub returns-in-Err : goal.returns-in-Err
returns-in-Err g c = record { ok = c.untold.ensures.ok c.args.entry.now; err = c.untold.ensures.err }

pub returns-in-Err-found : goal.returns-in-Err-found
returns-in-Err-found g c = record { ok = c.unsettled.ensures.ok c.args.entry.now; err = c.unsettled.ensures.err }
