use Rattle.pg_travel.proofs.Common.{◌≡◌, ◌≢◌, ℕ, ◌<◌, length, get_or}
use Rattle.pg_travel.proofs.rows.unmasked.Given as goal

abbrev pub invariant-loop-i : goal.invariant-loop-i
invariant-loop-i l = record { long : length l.all ≡ 16; seen : (j : ℕ) → j < l.i → get_or l.mask j 0 ≡ 0 → get_or l.all j 0 ≡ get_or l.row j 0; hidden : (j : ℕ) → j < l.i → get_or l.mask j 0 ≢ 0 → get_or l.all j 0 ≡ 255 }
