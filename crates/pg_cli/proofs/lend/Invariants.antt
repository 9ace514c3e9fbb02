use Rattle.pg_cli.proofs.Common.{◌≡◌}
use Rattle.pg_cli.proofs.lend.Given as goal

-- what is asked stays while bounds are added
abbrev pub invariant-loop-number : goal.invariant-loop-number
invariant-loop-number g l = l.asked ≡ l.fn.asked
