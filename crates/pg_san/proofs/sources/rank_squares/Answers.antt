use Rattle.pg_san.proofs.Common.{refl, arith}
use Rattle.pg_san.proofs.SourceLemmas.{rank_at}
use Rattle.pg_san.proofs.sources.rank_squares.Goals as goal

pub returns-then-number-lt9 : goal.returns-then-number-lt9
returns-then-number-lt9 c = rw c.of_bits.ensures (λ q l e. rank_at c.args.number c.args.number q refl (omega arith) l e)
