use Rattle.pg_checker.proofs.Tellings.{missing_refutes, shorter_refutes}
use Rattle.pg_checker.proofs.chess_laws.what_refusals_prove.Goals as goal

pub returns-clause-unlisted : goal.returns-clause-unlisted
returns-clause-unlisted c = missing_refutes

pub returns-clause-shorter : goal.returns-clause-shorter
returns-clause-shorter c = shorter_refutes
