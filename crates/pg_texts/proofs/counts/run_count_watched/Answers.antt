use Rattle.pg_moves.specs.declared.fault.CountFault.TheVariants.{TooDeep}
use Rattle.pg_texts.proofs.CountLemmas.{few}
use Rattle.pg_texts.proofs.counts.run_count_watched.Goals as goal

pub returns-in-Ok-write_number-clause-ok : goal.returns-in-Ok-write_number-clause-ok
returns-in-Ok-write_number-clause-ok g c = (c.in-Ok.game.position, c.in-Ok.ensures.ok, few c.args.plies c.in-Ok-count_watched.n TooDeep c.in-Ok-count_watched.ensures.deep.1, (c.in-Ok-count_watched.n, c.in-Ok-count_watched.ensures.ok, c.in-Ok-write_number.ensures.text))

pub returns-in-Err-write_number-clause-err : goal.returns-in-Err-write_number-clause-err
returns-in-Err-write_number-clause-err g c = ((c.in-Ok.game.position, c.in-Ok.ensures.ok), few c.args.plies c.in-Ok-count_watched.n TooDeep c.in-Ok-count_watched.ensures.deep.1, c.in-Err-write_number.ensures.fault)
