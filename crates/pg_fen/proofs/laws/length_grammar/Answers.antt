use Rattle.pg_fen.proofs.LengthLemmas.{read_is_spelled, long_is_spelled}
use Rattle.pg_fen.proofs.laws.length_grammar.Goals as goal

pub returns-clause-read : goal.returns-clause-read
returns-clause-read c = λ n. read_is_spelled c.args.text.now n

pub returns-clause-too_long : goal.returns-clause-too_long
returns-clause-too_long c = long_is_spelled c.args.text.now
