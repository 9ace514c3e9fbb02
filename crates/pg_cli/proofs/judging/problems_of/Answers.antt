use Rattle.pg_cli.proofs.Common.{IsGivenBy}
use Rattle.pg_cli.proofs.PgnLemmas.{gives_list, refused_there}
use Rattle.pg_cli.proofs.judging.problems_of.Goals as goal

pub returns-in-Ok-clause-ok : goal.returns-in-Ok-clause-ok
returns-in-Ok-clause-ok g c =
    gives_list c.problems_as.result (λ t. t.items) (IsGivenBy g.R.File.Read.remaining g.R.Reader.Read.remaining) c.text_of-name.result.now _ c.in-Ok.given.items c.text_of-name.ensures c.in-Ok.ensures.bytes c.problems_as.ensures.ok

pub returns-in-Ok-clause-err : goal.returns-in-Ok-clause-err
returns-in-Ok-clause-err g c =
    refused_there c.problems_as.result (IsGivenBy g.R.File.Read.remaining g.R.Reader.Read.remaining) c.text_of-name.result.now _ c.in-Ok.given.items c.text_of-name.ensures c.in-Ok.ensures.bytes c.problems_as.ensures.err
