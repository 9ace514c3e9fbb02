use Rattle.pg_san.proofs.Common.{refl, arith}
use Rattle.pg_san.proofs.SourceLemmas.{file_at}
use Rattle.pg_san.proofs.sources.file_squares.Goals as goal

pub returns-then-number-lt9 : goal.returns-then-number-lt9
returns-then-number-lt9 c = rw c.of_bits.ensures (λ q l e. file_at c.args.number c.args.number q refl (omega arith) l e)
