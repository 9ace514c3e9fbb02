use Rattle.pg_pgn.proofs.RoundTexts.{written_read}
use Rattle.pg_pgn.proofs.laws.written_games_are_read.Goals as goal

pub returns : goal.returns
returns c = written_read
