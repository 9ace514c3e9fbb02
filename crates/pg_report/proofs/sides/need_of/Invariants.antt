use Rattle.pg_report.proofs.Common.{◌<◌, ℕ, array_state, Barren, IsLastReason}
use Rattle.pg_report.proofs.sides.need_of.Given as goal

-- no game of fewer plies ends on the diagram, and the reason is the one against the last number of plies
abbrev pub invariant-loop-plies : goal.invariant-loop-plies
invariant-loop-plies l = record {
  barren : (m : ℕ) → m < l.plies → Barren l.diagram array_state m;
  last : IsLastReason l.diagram l.plies l.offers.color l.reason;
}
