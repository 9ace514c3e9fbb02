use Rattle.pg_files.proofs.Whole.{list_read}
use Rattle.pg_files.proofs.input.list.Goals as goal

pub returns-clause-bytes : goal.returns-clause-bytes
returns-clause-bytes g c =
    list_read g.R.File.Read.remaining g.R.Reader.Read.remaining c.in_ok-source.source c.args.name.now c.read_all.result
    c.in_ok-source.ensures.side c.read_all.ensures.bytes
