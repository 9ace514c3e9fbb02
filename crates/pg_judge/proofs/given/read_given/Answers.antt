use Rattle.pg_judge.proofs.GameLemmas.{at_fault, ends_elsewhere, of_plies}
use Rattle.pg_judge.proofs.given.read_given.Goals as goal

pub plies_at-requires : goal.plies_at-requires
plies_at-requires c =
    at_fault c.args.entry.now.problem.diagram c.args.entry.now.problem.length c.args.entry.now.games c.in-Err-WrongLength.field-0 c.in-Err-WrongLength.at
    c.in-Err-WrongLength.field-0-is c.in-Err-WrongLength.ensures.err

pub returns-in-Err-WrongLength : goal.returns-in-Err-WrongLength
returns-in-Err-WrongLength c =
    of_plies c.args.entry.now c.in-Err-WrongLength.field-0 c.in-Err-WrongLength.at c.plies_at.result c.in-Err-WrongLength.field-0-is
    c.in-Err-WrongLength.ensures.err c.plies_at.ensures

pub returns-in-Err-NotReaching : goal.returns-in-Err-NotReaching
returns-in-Err-NotReaching c =
    ends_elsewhere c.args.entry.now c.in-Err-NotReaching.field-0 _ c.in-Err-NotReaching.field-0-is c.in-Err-NotReaching.ensures.err
