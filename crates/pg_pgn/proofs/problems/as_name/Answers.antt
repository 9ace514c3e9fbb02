use Rattle.pg_pgn.proofs.Common.{◌≡◌, refl, arith}
use Rattle.pg_pgn.proofs.problems.as_name.Goals as goal

pub returns-else-is_name : goal.returns-else-is_name
returns-else-is_name c = (refl, (103, refl, λ (e : 103 ≡ 46). omega (arith, e)))
