use Rattle.pg_journeys.proofs.Common.{◌≡◌, length, AreRoomRows}
use Rattle.pg_journeys.proofs.rooms.rows.Given as goal

abbrev pub invariant-loop-i : goal.invariant-loop-i
invariant-loop-i l = record { long : length l.rooms ≡ 16; is : AreRoomRows l.costs l.least l.paid l.goals l.rooms l.i }
