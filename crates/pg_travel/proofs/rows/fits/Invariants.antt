use Rattle.pg_travel.proofs.Common.{◌≡◌, ℕ, ◌<◌, ◌↔◌, FitsAt}
use Rattle.pg_travel.proofs.rows.fits.Given as goal

abbrev pub invariant-loop-i : goal.invariant-loop-i
invariant-loop-i l = (l.above ≡ 0) ↔ ((j : ℕ) → j < l.i → FitsAt l.prices l.u l.row j)
