use Rattle.pg_cli.proofs.Common.{inl, inr}
use Rattle.pg_cli.proofs.EndLemmas.{kept_or}
use Rattle.pg_cli.proofs.searching.keep_met.Goals as goal

pub returns-in-Err : goal.returns-in-Err
returns-in-Err g c = inr (inl c.in-Err.ensures)

pub returns-in-Ok-write_list : goal.returns-in-Ok-write_list
returns-in-Ok-write_list g c = kept_or _ c.end_both.result _ c.end_both.ensures

pub returns-in-Err-write_list : goal.returns-in-Err-write_list
returns-in-Err-write_list g c = inr (inr c.in-Err-write_list.ensures)
