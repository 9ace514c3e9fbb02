use Rattle.pg_cli.proofs.Common.{codes, found_of, rows_of, spelled}
use Rattle.pg_cli.proofs.EndLemmas.{named_by, opened_there}
use Rattle.pg_cli.proofs.asked.certificate_of.Goals as goal

pub returns-in-Ok-new : goal.returns-in-Ok-new
returns-in-Ok-new g c = named_by g.R.File.Read.remaining g.R.Reader.Read.remaining (spelled (codes "CERT") (rows_of (found_of c.args.words.now)))
    _ _ c.in-Ok.carrying.stated.items c.in-Ok-opened_from.opened c.in-Ok-new.certificate.value.opened
    c.in-Ok.ensures.ok c.new.ensures.left c.in-Ok-opened_from.ensures.named (opened_there _ _ c.in-Ok-new.ensures.ok)
