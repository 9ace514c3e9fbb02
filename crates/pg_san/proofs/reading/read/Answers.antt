use Rattle.pg_san.proofs.Common.{subst, ℕ, List, Err, IsReading}
use Rattle.pg_san.proofs.reading.read.Goals as goal

pub returns-in-Err : goal.returns-in-Err
returns-in-Err c = subst (λ (x : List ℕ). IsReading c.args.position.now x (Err c.in-Err.fault)) c.as_bytes.ensures.value c.in-Err.ensures
