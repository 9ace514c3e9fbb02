use Rattle.pg_cli.proofs.Common.{inl, inr, refl}
use Rattle.pg_cli.proofs.upgrading.upgrade_on.Goals as goal

pub returns-in-Err-clause-err : goal.returns-in-Err-clause-err
returns-in-Err-clause-err g c = (c.records_of.result, c.records_of.ensures, inl c.in-Err.ensures.err)

pub returns-in-Ok-write_count-clause-few : goal.returns-in-Ok-write_count-clause-few
returns-in-Ok-write_count-clause-few g c = (c.records_of.result, c.records_of.ensures, c.in-Ok.ensures.few)

pub returns-in-Err-write_count-clause-err : goal.returns-in-Err-write_count-clause-err
returns-in-Err-write_count-clause-err g c = (c.records_of.result, c.records_of.ensures, inr (refl, c.in-Err-write_count.ensures.fault))
