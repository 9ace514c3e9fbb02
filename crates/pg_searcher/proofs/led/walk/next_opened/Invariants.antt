use Rattle.std.proofs.Common.{◌≡◌}
use Rattle.pg_searcher.proofs.led.walk.next_opened.Given as goal

-- the node stays the same
abbrev pub invariant-loop : goal.invariant-loop
invariant-loop g l = l.top.moves.position ≡ l.scene.position
