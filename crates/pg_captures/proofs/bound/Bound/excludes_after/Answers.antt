use Rattle.pg_captures.proofs.Common.{◌≡◌, one_result}
use Rattle.pg_captures.proofs.bound.Bound.excludes_after.Goals as goal

pub returns : goal.returns
returns g c = λ q legal. let e : c.after.result ≡ q = one_result c.args.position.now c.args.m.now c.after.result q c.after.ensures.from c.after.ensures.legal legal in rw (← e) c.excludes.ensures
