use Rattle.pg_judge.proofs.Common.{rules, IsName}
use Rattle.pg_judge.proofs.EntryLemmas.{bad_games}
use Rattle.pg_judge.proofs.entry.read_named.Goals as goal

pub returns-in-Err-read_author-clause-err : goal.returns-in-Err-read_author-clause-err
returns-in-Err-read_author-clause-err c = λ line b.
    let is : IsName c.args.name.now = search rules in
    bad_games line c.args.name.now c.args.rest.now c.in-Some.parts.diagram.now c.in-Some.parts.length.now c.in-Some.parts.games.now c.in-Err-read_author.fault b is c.in-Some.ensures c.in-Err-read_author.ensures.err
