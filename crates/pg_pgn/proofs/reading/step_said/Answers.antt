use Rattle.pg_pgn.proofs.Common.{sym, ap, ◌∙◌, word_sign, at}
use Rattle.pg_pgn.specs.declared.signs.Sign.TheVariants as Sign
use Rattle.pg_pgn.proofs.ReadingLemmas.{goes_as}
use Rattle.pg_pgn.proofs.reading.step_said.Goals as goal

pub returns-in-Result-clause-ok : goal.returns-in-Result-clause-ok
returns-in-Result-clause-ok c =
    goes_as c.step_result.result (word_sign c.args.text.now) Sign.Result (at c.args.reading.now) (at c.step_result.new.reading) c.args.text.now (sym (c.in-Result.ensures.value ∙ ap word_sign c.as_bytes.ensures.value)) (c.step_result.ensures.ok c.args.text.now)
