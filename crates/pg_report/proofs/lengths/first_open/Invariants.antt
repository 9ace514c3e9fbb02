use Rattle.pg_report.proofs.Common.{◌<◌, ℕ, list_any, array_state, Barren, IsExcluded}
use Rattle.pg_report.proofs.lengths.first_open.Given as goal

-- each length so far is excluded, and no game of it ends on the diagram
abbrev pub invariant-loop-plies : goal.invariant-loop-plies
invariant-loop-plies g l = record {
  excluded : (m : ℕ) → m < l.plies → IsExcluded (λ k. list_any (λ b. (goal.Bound-dyn g (b.vtable, b.value)).excluded b.value l.diagram array_state k) l.bounds) l.diagram m;
  barren : (m : ℕ) → m < l.plies → Barren l.diagram array_state m;
}
