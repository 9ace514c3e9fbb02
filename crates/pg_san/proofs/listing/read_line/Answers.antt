use Rattle.pg_san.proofs.ListingLemmas.{line_blank}
use Rattle.pg_san.proofs.listing.read_line.Goals as goal

pub returns-in-None-clause-ok : goal.returns-in-None-clause-ok
returns-in-None-clause-ok c = line_blank c.args.line.now c.args.games.now c.in-None.ensures
