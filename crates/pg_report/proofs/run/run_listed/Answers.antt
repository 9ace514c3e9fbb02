use Rattle.pg_report.proofs.run.run_listed.Goals as goal

pub returns-in-Err-clause-err : goal.returns-in-Err-clause-err
returns-in-Err-clause-err g c = (c.in-Err.ensures.accepted, c.in-Err.ensures.refused, c.in-Err.ensures.tells)

pub returns-in-Err-write_report-clause-err : goal.returns-in-Err-write_report-clause-err
returns-in-Err-write_report-clause-err g c = (c.in-Ok.ensures.headline, c.in-Err-write_report.ensures.push.fault, (c.in-Ok.field-0, c.in-Ok.ensures.accepted))
