use Rattle.pg_journeys.proofs.Common.{ℕ, true, false, inl, inr, refl, sym, subst, Moves, QuietMoves, IsBudget, AreBudgets, IsOneMeasure, HasDeeds, HasNoPlan, HasRooms}
use Rattle.pg_journeys.proofs.MeasuredLemmas.{by_moves, by_quiet}
use Rattle.pg_journeys.proofs.Changing.{way_shows, none_more}
use Rattle.pg_journeys.proofs.OneMeasure.{same_deeds}
use Rattle.pg_journeys.proofs.Masks.{not_so}
use Rattle.pg_journeys.proofs.Paying.{alive_of, paid_of}
use Rattle.pg_journeys.proofs.shown.way_shown.Goals as goal

pub returns-then-not-is_way-clause-none : goal.returns-then-not-is_way-clause-none
returns-then-not-is_way-clause-none c = λ d k side budgets alive. not_so c.is_way.result c.is_way.ensures c.if-not-is_way.true alive.0

pub returns-in_default-clause-none : goal.returns-in_default-clause-none
returns-in_default-clause-none c = λ d k side budgets alive. (let g = paid_of d c.args.moves.now.side.now k c.args.way Moves c.args.moves.now.most budgets.all (alive.1 Moves) in by_moves c.args.moves.now c.args.quiet.now c.requires (λ x q. HasNoPlan x q c.args.way c.args.moves.now.most) c.in_default.ensures.none d side g.0 g.1)

pub returns-in_default-rooms_of-clause-none : goal.returns-in_default-rooms_of-clause-none
returns-in_default-rooms_of-clause-none c = λ d k side budgets alive. (let g = paid_of d c.args.moves.now.side.now k c.args.way QuietMoves c.args.quiet.now.most budgets.few (alive.1 QuietMoves) in by_quiet c.args.moves.now c.args.quiet.now c.requires (λ x q. HasNoPlan x q c.args.way c.args.quiet.now.most) c.in_default-rooms_of.ensures.none d side g.0 g.1)

pub returns-clause-some : goal.returns-clause-some
returns-clause-some c = λ d k side budgets. (
  alive_of d c.args.moves.now.side.now k c.args.way c.args.moves.now.most c.args.quiet.now.most budgets.all budgets.few (c.is_way.ensures.0 c.if-not-is_way.false) (by_moves c.args.moves.now c.args.quiet.now c.requires (λ x q. HasRooms x q c.args.way c.args.moves.now.most c.in-Some.rooms) c.in-Some.ensures.some d false side (inl refl)).1 (by_quiet c.args.moves.now c.args.quiet.now c.requires (λ x q. HasRooms x q c.args.way c.args.quiet.now.most c.in-Some-rooms_of.quiet_rooms) c.in-Some-rooms_of.ensures.some d true side (inl refl)).1,
  way_shows d c.args.moves.now.side.now k side c.args.way c.args.moves.now.most c.args.quiet.now.most budgets _ _ c.deeds_of-all.result c.deeds_of-calm.result (by_moves c.args.moves.now c.args.quiet.now c.requires (λ x q. HasDeeds x q c.args.way c.args.moves.now.most c.args.found.now.lands c.args.found.now.falls c.deeds_of-all.result) c.deeds_of-all.ensures d side) (by_quiet c.args.moves.now c.args.quiet.now c.requires (λ x q. HasDeeds x q c.args.way c.args.quiet.now.most c.args.found.now.quiet_lands c.args.found.now.quiet_falls c.deeds_of-calm.result) c.deeds_of-calm.ensures d side)
      c.args.found.now (record { lands = λ q h. h; falls = λ q h. h; quiet_lands = λ q h. h; quiet_falls = λ q h. h }) c.changed_in-2.result c.changed_in-2.ensures,
)

pub returns-then-is_one_measure-clause-some : goal.returns-then-is_one_measure-clause-some
returns-then-is_one_measure-clause-some c = λ d k side budgets.
    let x = c.args.moves.now.side.now in
    let most : ℕ = c.args.moves.now.most in
    let one : IsOneMeasure x most c.args.quiet.now.most = c.is_one_measure.ensures c.if-is_one_measure.true in
    let both : AreBudgets d x k most most = record { all = budgets.all; few = subst (λ (n : ℕ). IsBudget d x.position k x.terrain.color QuietMoves n) (sym one.same) budgets.few } in
    let moves = by_moves c.args.moves.now c.args.quiet.now c.requires (λ x q. HasRooms x q c.args.way c.args.moves.now.most c.in-Some.rooms) c.in-Some.ensures.some d false side (inl refl) in
    let quiet = by_moves c.args.moves.now c.args.quiet.now c.requires (λ x q. HasRooms x q c.args.way c.args.moves.now.most c.in-Some.rooms) c.in-Some.ensures.some d true side (inr one.none) in
    let deeds = by_moves c.args.moves.now c.args.quiet.now c.requires (λ x q. HasDeeds x q c.args.way c.args.moves.now.most c.none.result.lands c.none.result.falls c.deeds_of-both.result) c.deeds_of-both.ensures d side in (
      alive_of d x k c.args.way most most both.all both.few (c.is_way.ensures.0 c.if-not-is_way.false) moves.1 quiet.1,
      way_shows d x k side c.args.way most most both c.none.result c.none.result c.deeds_of-both.result c.deeds_of-both.result deeds
          (same_deeds x one.none d c.args.way side most c.none.result.lands c.none.result.falls c.in-Some.rooms false true c.deeds_of-both.result moves.0 quiet.0 deeds)
          c.args.found.now (record { lands = λ q h. none_more _ _ (c.none.ensures.lands q) h; falls = λ q h. none_more _ _ (c.none.ensures.falls q) h; quiet_lands = λ q h. none_more _ _ (c.none.ensures.lands q) h; quiet_falls = λ q h. none_more _ _ (c.none.ensures.falls q) h })
          c.changed_in.result c.changed_in.ensures,
    )
