use Rattle.pg_files.proofs.Slashes.{no_slash, behind_slash}
use Rattle.pg_files.proofs.writing.parted.Goals as goal

pub returns-in-Some-clause-name : goal.returns-in-Some-clause-name
returns-in-Some-clause-name c =
    let found = c.in-Some.ensures.cases in
    behind_slash c.args.path.now c.split_at.result.1.now c.in-Some.at found.0 found.1.0 found.1.1
    c.split_at.ensures.back

pub returns-in-None-clause-name : goal.returns-in-None-clause-name
returns-in-None-clause-name c = no_slash c.args.path.now c.in-None.ensures.cases
