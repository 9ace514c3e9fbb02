-- The lemmas of Reading and Refusals.
use Rattle.pg_checker.proofs.Reading.{read_is, read_spelled, read_err}
use Rattle.pg_checker.proofs.Refusals.{read_short, short_read, read_unknown, unknown_read}
use Rattle.pg_checker.proofs.chess_laws.records_are_read_as_spelled.Goals as goal

pub returns-clause-bytes : goal.returns-clause-bytes
returns-clause-bytes c = read_is

pub returns-clause-spelled : goal.returns-clause-spelled
returns-clause-spelled c = read_spelled

pub returns-clause-truncated : goal.returns-clause-truncated
returns-clause-truncated c = λ version bytes fits. (read_short version bytes fits, short_read version bytes fits)

pub returns-clause-unknown : goal.returns-clause-unknown
returns-clause-unknown c = λ version bytes x fits. (read_unknown version bytes x fits, unknown_read version bytes x fits)

pub returns-clause-refusals : goal.returns-clause-refusals
returns-clause-refusals c = read_err
