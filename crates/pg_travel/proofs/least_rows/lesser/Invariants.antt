use Rattle.pg_travel.proofs.Common.{◌≡◌, ℕ, ◌<◌, ◌≤◌, length, get_or, min}
use Rattle.pg_travel.proofs.least_rows.lesser.Given as goal

abbrev pub invariant-loop-i : goal.invariant-loop-i
invariant-loop-i l = record { long : length l.lowered ≡ 16; seen : (j : ℕ) → j < l.i → get_or l.lowered j 0 ≡ min (get_or l.fn.least j 0) (get_or l.row j 0); rest : (j : ℕ) → l.i ≤ j → get_or l.lowered j 0 ≡ get_or l.fn.least j 0 }
