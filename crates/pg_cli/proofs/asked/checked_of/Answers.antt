use Rattle.pg_cli.proofs.EndLemmas.{of_input, unopened_by}
use Rattle.pg_cli.proofs.StatusLemmas.{is_of_file}
use Rattle.pg_cli.proofs.asked.checked_of.Goals as goal

pub returns-in-Err : goal.returns-in-Err
returns-in-Err g c = of_input c.of_file.result (is_of_file c.in-Err.fault _ c.of_file.result c.of_file.ensures)

pub returns-then-say_tolls : goal.returns-then-say_tolls
returns-then-say_tolls g c = unopened_by _ c.carried_from.result c.carried_from.ensures.err
