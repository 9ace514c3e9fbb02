use Rattle.pg_cli.proofs.PgnLemmas.{pgn_name}
use Rattle.pg_cli.proofs.converting.is_pgn.Goals as goal

pub returns : goal.returns
returns c = pgn_name c.args.name.now c.as_bytes.result.now c.ends_with.result c.as_bytes.ensures.value c.ends_with.ensures.value
