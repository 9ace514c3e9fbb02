-- The names that the lemmas and answers of this crate share.
pub use Rattle.std.proofs.Common.{◌≡◌, ◌≢◌, ℕ, zero, suc, ◌+◌, ◌*◌, ◌<◌, ◌≤◌, inl, inr, cond, eqb, Some, None, refl, arith, sym, ap, subst, ◌∙◌, ◌⊎◌, Option, min, List, [], length, get_or, replicate, set, Bool, true, false, ◌-◌, leb, ltb-true, ◌↔◌}
pub use Rattle.std.proofs.Math.ListN.{length-set}
pub use Rattle.std.proofs.lemmas.Bool.Decides.{eqb_tells, leb_tells}
pub use Rattle.std.proofs.lemmas.List.{get_or-replicate, get_or-set_same, get_or-set_other, get_or_past}
pub use Rattle.pg_assignments.specs.Assignments.{IsTotal, Below, IsAssignment, sum_of, IsTotalWith, IsLeastTotal, IsLeastWith, nth, at2, RowLeast, AreLeastWith}
unfoldable pub use Rattle.pg_assignments.specs.Assignments.{IsLeast, cost, told}
pub use Rattle.pg_assignments.specs.Dual.{Fits, AreBelow, RowFits, AreAtMost}
pub use Rattle.pg_assignments.specs.Handing.{IsShown, AreLengths, IsSlackOf, IsSlackRow, IsSlackIf, IsOverRow, AreNone, AreHeld, IsOwned, IsSlack, IsTold, IsProved, AreWithin, AreTold}
pub use Rattle.pg_assignments.specs.Search.{IsFree, IsVia}
unfoldable pub use Rattle.pg_assignments.specs.Search.{lesser_of}
pub use Rattle.pg_assignments.specs.Ways.{AreWays, AreSixteenths, AreFirstKeys, IsNearer, IsNearerRow, AreNearer, AreKeys}
pub use Rattle.pg_assignments.specs.declared.costs.Costs.{Costs}
unfoldable pub use Rattle.pg_board.specs.Tally.{total}
pub use Rattle.pg_board.specs.lemmas.Sums.{total_same, total_changed, total-le, total-none, total-suc, total-more}
