use Rattle.pg_pgn.proofs.ApartLemmas.{file_or_fault}
use Rattle.pg_pgn.proofs.OneLemmas.{one_file}
use Rattle.pg_pgn.proofs.laws.one_file_of_games.Goals as goal

pub returns : goal.returns
returns c = record { games = one_file; apart = file_or_fault }
