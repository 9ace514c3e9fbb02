use Rattle.pg_journeys.proofs.Common.{◌≡◌, length, IsRoomRow}
use Rattle.pg_journeys.proofs.rooms.row.Given as goal

abbrev pub invariant-loop-j : goal.invariant-loop-j
invariant-loop-j l = record { long : length l.rooms ≡ 17; is : IsRoomRow l.costs l.least l.paid l.goals l.i l.rooms l.j }
