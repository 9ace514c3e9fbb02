-- The names that the lemmas and answers of this crate share.
pub use Rattle.std.proofs.Common.{◌≡◌, ◌≢◌, ℕ, ◌+◌, ◌<◌, ◌⊎◌, inl, inr, Bool, true, false, not, ◌&&◌, cond, List, [], ◌∷◌, ◌++◌, refl, sym, ap, subst, arith, ◌∙◌, ◌-◌, ◌≤◌, ◌↔◌, get_or, Option, Some, None, length, MatchOption, IsTrue, set, leb, replicate, IfSome, ◌||◌, zero, suc, eqb, eqb-true, IfNone, bit_and, w64, nat_eq, ◌*◌, ◌/◌, ◌%◌, ltb, ◌^◌, pow-suc, ap₂, rules, bit_or, w32}
pub use Rattle.std.proofs.Math.Bool.{and-true, and-false}
pub use Rattle.std.proofs.Math.ListN.{length-set}
pub use Rattle.std.proofs.Math.Logic.{∥∥₁_elim, ∥∥₁_map}
pub use Rattle.std.proofs.lemmas.Bool.{cases_lt, not-false, cases_eq, and_from, or_cases, or_left, or_right, cases_Bool, eq-eqb, lt-ltb, and_parts, not-true, not_from_false, false_from_ne_true}
pub use Rattle.std.proofs.lemmas.Bool.Decides.{eqb_tells, leb_tells, Decides-eqb, Decides-ltb, Decides-and, Decides-at, Decides-like, nat_tests}
pub use Rattle.std.proofs.lemmas.Grind.{merely, get_or_default_zero}
pub use Rattle.std.proofs.lemmas.List.{get_or-set_same, get_or-set_other, get_or_default, with_items_is, get_or-replicate, get_or_past, length-replicate, get_or_read}
pub use Rattle.std.proofs.lemmas.List.Elements.{All-replicate, All-same, All-set}
pub use Rattle.std.proofs.lemmas.Nat.{and_le_r, shr-shr}
pub use Rattle.std.proofs.lemmas.Nat.Bits.{bit_at_ones, bit_at_ones_above, bit_at_cat_low, bit_at_cat_high, bit_at_above, bit_at_set_same, bit_at_set_other}
pub use Rattle.std.specs.Int.{trailing_zeros, bit_at}
pub use Rattle.std.specs.Prelude.{All, Vec}
pub use Rattle.pg_assignments.proofs.LeastLemmas.{none_holds, some_holds, some_least, least_none, least_some, least_as, least_either}
pub use Rattle.pg_assignments.specs.Assignments.{Below, sum_of, IsTotal, IsLeastTotal, IsLeast, at2, IsTotalWith, IsLeastWith, AreLeastWith}
unfoldable pub use Rattle.pg_assignments.specs.Assignments.{cost, told}
pub use Rattle.pg_assignments.specs.Search.{lesser_of}
pub use Rattle.pg_assignments.specs.declared.costs.Costs.{Costs}
pub use Rattle.pg_board.proofs.SetLemmas.{and_true, set_like, set_of_both, set_of_union}
pub use Rattle.pg_board.specs.Bits.{has, has-none, has-first, has-and, has-bits_below}
unfoldable pub use Rattle.pg_board.specs.Bits.{bits_below}
pub use Rattle.pg_board.specs.Men.{other, number_of_kind, kind_eq, is_of, color_eq, man, passes, is_man, is_held}
pub use Rattle.pg_board.specs.Placement.{Placement, get, get-placement_of, same_placement, put, empty}
pub use Rattle.pg_board.specs.SquareSets.{IsSetOf, HasNoneFrom, IsFirstFrom, Meet}
pub use Rattle.pg_board.specs.Squares.{file, rank}
pub use Rattle.pg_board.specs.Tally.{one, count_below}
unfoldable pub use Rattle.pg_board.specs.Tally.{total, tally, tally_below}
pub use Rattle.pg_board.specs.declared.man.Color.{Color}
pub use Rattle.pg_board.specs.declared.man.Color.TheVariants.{White, Black}
pub use Rattle.pg_board.specs.declared.man.Kind.{Kind}
pub use Rattle.pg_board.specs.declared.man.Kind.TheVariants.{Pawn, King, Knight, Bishop, Rook, Queen}
pub use Rattle.pg_board.specs.declared.man.Man.{Man}
pub use Rattle.pg_board.specs.lemmas.Codes.{kind_of_number, kind_back}
pub use Rattle.pg_board.specs.lemmas.Decisions.{dec_and, dec_equal, dec_less, dec_true, dec_some_below, dec_kind, dec_along, dec_and3, dec_kinds, dec_or, dec_all_below, dec_at_most, dec_not}
pub use Rattle.pg_board.specs.lemmas.Sums.{total-zero, total_changed, total_same, total-le, total-suc}
pub use Rattle.pg_captures.specs.Counting.{men, any_man, of_color}
pub use Rattle.pg_captures.specs.FreeSteps.{FreeStep}
unfoldable pub use Rattle.pg_captures.specs.FreeSteps.{Becomes, StepsTo}
pub use Rattle.pg_captures.specs.Owed.{plies_left, victims}
pub use Rattle.pg_captures.specs.lemmas.BoardLemmas.{same_kind}
pub use Rattle.pg_journeys.specs.Facts.{Facts, FactsHold}
pub use Rattle.pg_journeys.specs.FirstFacts.{HasWalls, AreFirst, IsWallOf}
pub use Rattle.pg_journeys.specs.Journeys.{Leg, IsLeg, IsPath, may_take, quiet, Fate, Arrives, Falls, Meets, IsWayUnder, Journeys, some_leg, HasPassed, HasTake, takes_to}
pub use Rattle.pg_journeys.specs.Known.{known, landing}
pub use Rattle.pg_journeys.specs.Narrowing.{StaysIn, PlansToTake, PlansToFall, RestsOn, NeverFalls, IsNewStill}
pub use Rattle.pg_journeys.specs.Needs.{AsksForPlans, IsFirstDead, path_cost, AreEnough, IsLeastNeed, IsReached}
pub use Rattle.pg_journeys.specs.PlanCosts.{AreCosts, InColumn}
pub use Rattle.pg_journeys.specs.Plans.{Measure, Moves, QuietMoves, IsPaid, IsAlive}
pub use Rattle.pg_journeys.specs.Rounds.{HasFew, HasDeadColor, AreFacts}
unfoldable pub use Rattle.pg_journeys.specs.Rounds.{JourneysHold}
pub use Rattle.pg_journeys.specs.Walls.{IsWall}
pub use Rattle.pg_journeys.specs.declared.fronts.Front.{Front}
pub use Rattle.pg_journeys.specs.declared.ground.Ground.{Ground}
pub use Rattle.pg_journeys.specs.declared.measured.Measured.{Measured}
pub use Rattle.pg_journeys.specs.declared.memory.Case.{Case}
pub use Rattle.pg_journeys.specs.declared.memory.Remembered.{Remembered}
pub use Rattle.pg_journeys.specs.declared.narrowing.Deeds.{Deeds}
pub use Rattle.pg_journeys.specs.declared.plans.Walker.{Walker}
pub use Rattle.pg_journeys.specs.declared.rings.Rings.{Rings}
pub use Rattle.pg_journeys.specs.declared.rings.Runner.{Runner}
pub use Rattle.pg_journeys.specs.declared.shown.Shown.{Shown}
pub use Rattle.pg_journeys.specs.declared.side.Side.{Side}
pub use Rattle.pg_journeys.specs.inner.Costing.{IsCount, IsCountTo, IsFall, IsCostRow, AreCostRows, AreCostsOf, HasTotalTo, runner_of, walker_of, InRing, MayBeIn, AreTheirs, IsRoom, IsWider, EndsAt, IsRoomRow, AreRoomRows, IsOnSpan}
pub use Rattle.pg_journeys.specs.inner.Counting.{counts, ComesTaking}
pub use Rattle.pg_journeys.specs.inner.Counts.{of_kind}
pub use Rattle.pg_journeys.specs.inner.Deeds.{Changes, AreDeeds, Lands, FallsOn, IsPaidFor, HasDeeds, HasNoPlan}
pub use Rattle.pg_journeys.specs.inner.Fronts.{OnSet, PawnsOn, IsMeeting, is_met, is_due, AreTakenDue, HasAdvanced, NoneDue, is_next, IsAdvanced, IsUnchanged}
pub use Rattle.pg_journeys.specs.inner.Grounds.{LedTo, Pushes, Captures, HasSteps, IsGround, IsTable}
pub use Rattle.pg_journeys.specs.inner.Levels.{AheadStep, AheadWithin, FromSome, AheadStart, BackStep, BackWithin, BackStart, Steps, Within}
pub use Rattle.pg_journeys.specs.inner.Makings.{IsAdded, IsAheadOf, IsEastOf, IsWestOf, GoesOn, IsFilled, AreQueens}
pub use Rattle.pg_journeys.specs.inner.Narrowed.{AreEnds, TakesToSome, FallsBy, ChangesBy, IsFull, TakesBy, StandsBy, PassedBy, ComesBack, IsInBoth, TakesAt, TakesTo, ComesBy, TakesBack}
pub use Rattle.pg_journeys.specs.inner.Needing.{BothAlive, IsFirstBy, AreFirstBy, PayInWay, PayInSome, IsReachedIn, IsReachedOf, IsUnreached}
unfoldable pub use Rattle.pg_journeys.specs.inner.Needing.{counted_with}
pub use Rattle.pg_journeys.specs.inner.Reached.{TakeStep, TakesOf, AreGrown, TakesAfter, IsReach}
pub use Rattle.pg_journeys.specs.inner.Remembering.{AreSameFor, AreAlike, IsAnswer, IsRemembered}
pub use Rattle.pg_journeys.specs.inner.Resting.{lifted, lifted_from, AreResting, IsWithRest, IsLess}
pub use Rattle.pg_journeys.specs.inner.Rings.{AreWithin, AreRings, TakesWithin, IsRing}
pub use Rattle.pg_journeys.specs.inner.Searches.{AreDueMet, IsAheadBefore, IsAheadAmid, AreTakenBefore, AreTakenAmid, IsBackBefore, IsBackAmid, IsBefore, IsAmid}
pub use Rattle.pg_journeys.specs.inner.Showing.{IsDead, Shows, IsBudget, AreBudgets, IsShownBy, is_quiet, MayChange, TakesIn, FallsIn, IsWithFound, ShowsWay, lands_by, falls_by, ArePaired, HasRooms, IsSameBy, ShowsNone, IsOneOf, ShowsWays, NoneAlive, ShowsAmong, IsOneMeasure}
pub use Rattle.pg_journeys.specs.inner.SideParts.{HaveSquares}
pub use Rattle.pg_journeys.specs.inner.Sides.{facts_of, square_at, kind_at, IsSide, InEnd, EndWithin, JourneysOf, IsPaidBy, AreAims, FallWithin, IsLike, IsEnd, aim_at, AreSameMen, AreMen, AreRooms, MeetsAt}
pub use Rattle.pg_journeys.specs.inner.Walking.{HasFewer, IsRound, IsKept, MayLand}
pub use Rattle.pg_journeys.specs.lemmas.Deciding.{dec_leg, dec_false}
pub use Rattle.pg_journeys.specs.lemmas.DecidingPaths.{weigh, dec_path}
pub use Rattle.pg_journeys.specs.lemmas.DecidingRounds.{test_is}
pub use Rattle.pg_journeys.specs.lemmas.PlanTotals.{plans_are_totals, plan_to_total, total_to_plan}
pub use Rattle.pg_journeys.specs.lemmas.RoundLemmas.{facts_hold, journeys_barren}
pub use Rattle.pg_journeys.specs.lemmas.Turns.{leg}
pub use Rattle.pg_journeys.specs.lemmas.Weights.{weigh_length, weigh_quiet}
pub use Rattle.pg_position.specs.Geometry.{IsForward, OnOneLine}
unfoldable pub use Rattle.pg_position.specs.Geometry.{InPattern, IsBetween}
pub use Rattle.pg_position.specs.Position.{Stands, IsPosition, holds, parts}
unfoldable pub use Rattle.pg_position.specs.Position.{PawnsClause, IsPassed}
pub use Rattle.pg_position.specs.Squares.{HasAhead, ahead, king_home, rook_home, home_rank, last_rank, king_crossed, king_target, passed_rank}
pub use Rattle.pg_position.specs.declared.rights.Wing.{Wing}
pub use Rattle.pg_position.specs.declared.rights.Wing.TheVariants.{KingSide, QueenSide}
pub use Rattle.pg_position.specs.declared.state.State.{State}
pub use Rattle.pg_travel.proofs.TakenSets.{IsWithout, other_than, taken_itself, fewer}
pub use Rattle.pg_travel.specs.Origins.{charge, counted}
pub use Rattle.pg_travel.specs.lemmas.OriginsLemmas.{counted_other, counted_king, counted_rook}
pub use Rattle.pg_travel.proofs.RowTables.{kind_low}
pub use Rattle.pg_travel.proofs.SourceLemmas.{of_there, of_man}
pub use Rattle.pg_captures.specs.lemmas.EitherColor.{other_other}
