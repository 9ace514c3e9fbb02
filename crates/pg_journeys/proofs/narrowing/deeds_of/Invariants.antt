use Rattle.pg_journeys.proofs.Common.{◌≡◌, ◌↔◌, ℕ, ◌<◌, true, get_or, length, has, Placement, IsSide, Changes}
use Rattle.pg_journeys.proofs.NarrowedPlans.{LandsOf, FallsOf}
use Rattle.pg_journeys.proofs.SiftedSets.{IsJoined}
use Rattle.pg_journeys.proofs.narrowing.deeds_of.Given as goal

abbrev pub invariant-loop-i : goal.invariant-loop-i
invariant-loop-i l = record {
  long : length l.ends ≡ 16;
  lands : (d : Placement) → IsSide d l.measured.side.now → IsJoined (LandsOf d l.measured.side.now l.measured.is_quiet l.way l.measured.most) l.initial.lands l.i l.lands;
  falls : (d : Placement) → IsSide d l.measured.side.now → IsJoined (FallsOf d l.measured.side.now l.measured.is_quiet l.way l.measured.most) l.initial.falls l.i l.falls;
  ends :
      (d : Placement) → IsSide d l.measured.side.now → (i e : ℕ) → i < l.i → e < 17 →
      (has (get_or l.ends i 0) e ≡ true) ↔ Changes d l.measured.side.now l.measured.is_quiet l.way l.measured.most i e;
}
