use Rattle.pg_files.proofs.Slashes.{draft_spelled}
use Rattle.pg_files.proofs.writing.draft_path.Goals as goal

pub returns-in-Ok-clause-name : goal.returns-in-Ok-clause-name
returns-in-Ok-clause-name c =
    let front = c.front_of-front in
    draft_spelled c.args.path.now _ c.parted.result.0.now c.parted.result.1.now front.result.now c.args.number
    c.parted.ensures.whole c.parted.ensures.folder c.parted.ensures.name
    front.ensures.front front.ensures.short front.ensures.whole c.requires c.in-Ok.ensures.ok
