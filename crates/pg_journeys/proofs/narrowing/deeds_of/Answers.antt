use Rattle.pg_journeys.proofs.Common.{inl, refl, ◌≡◌, ◌+◌, ◌≤◌, ◌∙◌, length, sym, subst, arith, length-set, Placement, IsSide}
use Rattle.pg_journeys.proofs.NarrowedPlans.{IsAsked, LandsOf, FallsOf}
use Rattle.pg_journeys.proofs.NarrowedDeeds.{asked_of, ends_known, fall_low, wide_known, lands_next, falls_next, lands_stay, falls_stay, ends_next, all_lands, all_falls}
use Rattle.pg_journeys.proofs.SideLemmas.{side_ground}
use Rattle.pg_journeys.proofs.narrowing.deeds_of.Goals as goal
use Rattle.pg_journeys.proofs.narrowing.deeds_of.Goals.{then-may_find, else-may_find}
use Rattle.pg_journeys.proofs.SiftedSets.{IsJoined}

asked_in : (c : goal.Joined-may_find) (d : Placement) → IsSide d c.args.measured.now.side.now → IsAsked d c.args.measured.now.side.now c.args.measured.now.is_quiet c.args.way c.args.measured.now.most c.args.rooms.now c.loop-i.i
asked_in c d side = asked_of d c.args.measured.now.side.now c.args.measured.now.is_quiet c.args.way c.args.measured.now.most c.args.rooms.now c.loop-i.i side (c.requires d c.args.measured.now.is_quiet side (inl refl)).0 c.args.measured.now.low c.loop-i-test.true

pub ends_of-own-requires-clause-ends : goal.ends_of-own-requires-clause-ends
ends_of-own-requires-clause-ends c = ends_known c.args.measured.now.side.now c.args.measured.now.is_quiet c.args.way c.args.measured.now.most c.args.rooms.now c.loop-i.i (λ d side. (c.requires d c.args.measured.now.is_quiet side (inl refl)).0) c.args.measured.now.low c.loop-i-test.true

pub lands_of-lands-requires-clause-ends : goal.lands_of-lands-requires-clause-ends
lands_of-lands-requires-clause-ends c = ends_known c.args.measured.now.side.now c.args.measured.now.is_quiet c.args.way c.args.measured.now.most c.args.rooms.now c.loop-i.i (λ d side. (c.requires d c.args.measured.now.is_quiet side (inl refl)).0) c.args.measured.now.low c.loop-i-test.true

pub reach_of-requires-clause-low : goal.reach_of-requires-clause-low
reach_of-requires-clause-low c = wide_known c.args.measured.now.side.now c.args.measured.now.is_quiet c.args.way c.args.measured.now.most c.args.rooms.now c.loop-i.i c.widest.result (λ d side. (c.requires d c.args.measured.now.is_quiet side (inl refl)).0) c.loop-i-test.true c.args.measured.now.low c.widest.ensures.low

pub loop-i-preserved : goal.loop-i-preserved
loop-i-preserved c = record {
  long = length-set c.loop-i.ends c.loop-i.i c.ends_of-own.result ∙ c.loop-i.invariant.long;
  lands = λ d side. elim c.if-may_find.branch [
    | then-may_find w ↦ subst (IsJoined (LandsOf d c.args.measured.now.side.now c.args.measured.now.is_quiet c.args.way c.args.measured.now.most) c.args.found.lands (c.loop-i.i + 1)) (sym w.lands-is) (lands_next d c.args.measured.now.side.now c.args.measured.now.is_quiet c.args.way c.args.measured.now.most c.args.rooms.now c.loop-i.i (asked_in c d side) c.man_of-man.result c.man_of-man.ensures c.args.found.lands c.loop-i.lands w.lands_of-lands.result w.lands_of-lands.ensures (c.loop-i.invariant.lands d side))
    | else-may_find w ↦ subst (IsJoined (LandsOf d c.args.measured.now.side.now c.args.measured.now.is_quiet c.args.way c.args.measured.now.most) c.args.found.lands (c.loop-i.i + 1)) (sym w.lands-is) (lands_stay d c.args.measured.now.side.now c.args.measured.now.is_quiet c.args.way c.args.measured.now.most c.args.rooms.now c.loop-i.i (asked_in c d side) c.man_of-man.result c.man_of-man.ensures c.ends_of-own.result c.ends_of-own.ensures c.args.found.lands c.loop-i.lands (c.may_find.ensures.lands w.if-may_find.false) (c.loop-i.invariant.lands d side))
  ];
  falls = λ d side. elim c.if-may_find.branch [
    | then-may_find w ↦ subst (IsJoined (FallsOf d c.args.measured.now.side.now c.args.measured.now.is_quiet c.args.way c.args.measured.now.most) c.args.found.falls (c.loop-i.i + 1)) (sym w.falls-is) (falls_next d c.args.measured.now.side.now c.args.measured.now.is_quiet c.args.way c.args.measured.now.most c.args.rooms.now c.loop-i.i (asked_in c d side) c.man_of-man.result c.man_of-man.ensures c.args.found.falls c.loop-i.falls w.falls_of-falls.result w.falls_of-falls.ensures (c.loop-i.invariant.falls d side))
    | else-may_find w ↦ subst (IsJoined (FallsOf d c.args.measured.now.side.now c.args.measured.now.is_quiet c.args.way c.args.measured.now.most) c.args.found.falls (c.loop-i.i + 1)) (sym w.falls-is) (falls_stay d c.args.measured.now.side.now c.args.measured.now.is_quiet c.args.way c.args.measured.now.most c.args.rooms.now c.loop-i.i (asked_in c d side) c.man_of-man.result c.man_of-man.ensures c.ends_of-own.result c.ends_of-own.ensures c.args.found.falls c.loop-i.falls (c.may_find.ensures.falls w.if-may_find.false) (c.loop-i.invariant.falls d side))
  ];
  ends = λ d side. ends_next d c.args.measured.now.side.now c.args.measured.now.is_quiet c.args.way c.args.measured.now.most c.args.rooms.now c.loop-i.i (asked_in c d side) c.man_of-man.result c.man_of-man.ensures c.loop-i.ends c.ends_of-own.result (let few : c.args.measured.now.side.now.men.count ≤ 16 = side.men.few in let long : length c.loop-i.ends ≡ 16 = c.loop-i.invariant.long in omega arith) c.ends_of-own.ensures (c.loop-i.invariant.ends d side);
}

pub returns : goal.returns
returns c = λ d side. record {
  lands = all_lands d c.args.measured.now.side.now c.args.measured.now.is_quiet c.args.way c.args.measured.now.most c.args.found.lands c.loop-i.i c.loop-i.lands c.loop-i.auto.i-end c.loop-i-test.false (c.loop-i.invariant.lands d side);
  falls = all_falls d c.args.measured.now.side.now c.args.measured.now.is_quiet c.args.way c.args.measured.now.most c.args.found.falls c.loop-i.i c.loop-i.falls c.loop-i.auto.i-end c.loop-i-test.false (c.loop-i.invariant.falls d side);
  ends = λ i e low le. c.loop-i.invariant.ends d side i e (omega arith) le;
}

pub reach_of-requires-clause-sound : goal.reach_of-requires-clause-sound
reach_of-requires-clause-sound c = side_ground c.args.measured.now.side.now

pub falls_of-falls-requires-clause-low : goal.falls_of-falls-requires-clause-low
falls_of-falls-requires-clause-low c = fall_low c.args.measured.now.side.now c.args.measured.now.is_quiet c.args.way c.args.measured.now.most c.args.rooms.now c.loop-i.i c.requires c.args.measured.now.low c.loop-i-test.true
