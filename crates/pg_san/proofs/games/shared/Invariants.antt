use Rattle.pg_san.proofs.Common.{◌≡◌, ◌≤◌, length, take}
use Rattle.pg_san.proofs.games.shared.Given as goal

-- the moves so far are the same
abbrev pub invariant-loop-i : goal.invariant-loop-i
invariant-loop-i l = (take l.i l.game ≡ take l.i l.known) × (l.i ≤ length l.known)
