use Rattle.pg_judge.proofs.EntryLemmas.{refused, stops}
use Rattle.pg_judge.proofs.entry.read_spelled.Goals as goal

pub returns-in-Err-At-clause-ok : goal.returns-in-Err-At-clause-ok
returns-in-Err-At-clause-ok c =
    stops c.args.text.now c.new.result c.in-Err-At.field-0 _ c.in-Err-At.ply c.in-Err-At.cause c.new.ensures c.in-Err-At.field-0-is c.in-Err-At.ensures.err

pub returns-in-Err-TooMany-clause-err : goal.returns-in-Err-TooMany-clause-err
returns-in-Err-TooMany-clause-err c =
    refused c.args.text.now c.in-Err-TooMany.field-0 _ c.in-Err-TooMany.field-0-is c.in-Err-TooMany.ensures.err

pub returns-in-Err-Repeated-clause-err : goal.returns-in-Err-Repeated-clause-err
returns-in-Err-Repeated-clause-err c =
    refused c.args.text.now c.in-Err-Repeated.field-0 _ c.in-Err-Repeated.field-0-is c.in-Err-Repeated.ensures.err

pub returns-in-Err-Memory-clause-err : goal.returns-in-Err-Memory-clause-err
returns-in-Err-Memory-clause-err c =
    refused c.args.text.now c.in-Err-Memory.field-0 _ c.in-Err-Memory.field-0-is c.in-Err-Memory.ensures.err
