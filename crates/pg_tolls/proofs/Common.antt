-- The names that the lemmas and answers of this crate share.
pub use Rattle.std.proofs.Common.{◌≡◌, ◌≢◌, ℕ, ◌+◌, ◌*◌, ◌<◌, ◌≤◌, inl, inr, Option, Some, None, List, [], length, get_or, set, sym, ap, subst, arith, ◌∙◌, nat_eq, false, refl, suc, true, not, min, ◌-◌, Bool, cond, ◌++◌, replicate, ltb, lt-ltb, le-ltb, ◌%◌, ◌^◌, max, w16, zero, ◌⊎◌, ◌↔◌, ◌||◌, ◌&&◌, ap₂, IsTrue, leb, rules}
pub use Rattle.std.proofs.Math.ListN.{length-set}
pub use Rattle.std.proofs.lemmas.Bool.{cases_Bool, ltb-true, ltb-false, leb-true, le-leb, cond-true, cond-false, and_parts}
pub use Rattle.std.proofs.lemmas.Bool.Decides.{eqb_tells, nat_tests, leb_tells, Decides-eqb, Decides-int_eq}
pub use Rattle.std.proofs.lemmas.List.{get_or-set_same, get_or-set_other, set_past, get_or_append_left, get_or-append_right, length-append, with_items_is, get_or_default}
pub use Rattle.std.proofs.lemmas.Simd.{get_or-replicate, tops_compared, length-zip2, get_or-sel_l, get_or-zip2}
pub use Rattle.std.proofs.lemmas.Slice.Eq.{slice_eq-Decides}
pub use Rattle.std.specs.Prelude.{All, Vec, ℤ}
pub use Rattle.pg_assignments.specs.Assignments.{Below, IsTotal, IsLeastTotal, IsAssignment}
unfoldable pub use Rattle.pg_assignments.specs.Assignments.{cost}
unfoldable pub use Rattle.pg_assignments.specs.Search.{lesser_of}
pub use Rattle.pg_board.specs.Bits.{has}
pub use Rattle.pg_board.specs.Men.{other, number_of_kind, kind_eq, color_eq}
pub use Rattle.pg_board.specs.Placement.{Placement}
pub use Rattle.pg_board.specs.SquareSets.{IsSetOf, IsFirstFrom, HasNoneFrom}
pub use Rattle.pg_board.specs.Squares.{file, rank}
pub use Rattle.pg_board.specs.Tally.{total, count_below}
unfoldable pub use Rattle.pg_board.specs.Tally.{tally, tally_below}
pub use Rattle.pg_board.specs.declared.man.Color.{Color}
pub use Rattle.pg_board.specs.declared.man.Color.TheVariants.{White, Black}
pub use Rattle.pg_board.specs.declared.man.Kind.{Kind}
pub use Rattle.pg_board.specs.declared.man.Kind.TheVariants.{Pawn, Knight, Bishop, Rook, Queen, King}
pub use Rattle.pg_board.specs.lemmas.Sums.{total_same, total-le, total-none, total-more}
pub use Rattle.pg_captures.specs.Counting.{men, any_man, sum_over}
unfoldable pub use Rattle.pg_captures.specs.FreeSteps.{Becomes}
pub use Rattle.pg_journeys.specs.Facts.{Facts}
pub use Rattle.pg_journeys.specs.Journeys.{Leg, IsLeg, may_take}
pub use Rattle.pg_journeys.specs.Known.{known}
pub use Rattle.pg_journeys.specs.PlanCosts.{IsListing}
pub use Rattle.pg_journeys.specs.Rounds.{HasFew}
pub use Rattle.pg_journeys.specs.declared.men.Men.{Men}
pub use Rattle.pg_journeys.specs.inner.Grounds.{LedTo, Pushes, Captures}
pub use Rattle.pg_journeys.specs.inner.Resting.{IsLess, lifted}
pub use Rattle.pg_journeys.specs.inner.Sides.{square_at, kind_at, AreMen}
pub use Rattle.pg_journeys.specs.lemmas.ColumnsOfPlans.{index, index_is}
pub use Rattle.pg_journeys.specs.lemmas.Turns.{leg}
pub use Rattle.pg_position.specs.Geometry.{IsBetween}
pub use Rattle.pg_position.specs.Position.{Stands, holds}
pub use Rattle.pg_position.specs.Squares.{king_home, rook_home, king_target, king_crossed, ahead, last_rank}
pub use Rattle.pg_position.specs.declared.rights.Wing.{Wing}
pub use Rattle.pg_position.specs.declared.rights.Wing.TheVariants.{KingSide, QueenSide}
pub use Rattle.pg_position.specs.declared.state.State.{State}
pub use Rattle.pg_tolls.specs.Charges.{AreOfWalls}
pub use Rattle.pg_tolls.specs.Stated.{stated}
pub use Rattle.pg_tolls.specs.Tariffs.{Tariff}
pub use Rattle.pg_tolls.specs.declared.bills.Bill.{Bill}
pub use Rattle.pg_tolls.specs.declared.bills.Castled.{Castled}
pub use Rattle.pg_tolls.specs.declared.bills.Party.{Party}
pub use Rattle.pg_tolls.specs.declared.half.Half.{Half}
pub use Rattle.pg_tolls.specs.declared.memory.Case.{Case}
pub use Rattle.pg_tolls.specs.inner.Bills.{costs_of, IsReduced, AreReduced, IsPartyOf, IsLineOf, HasLine, IsBillOf, IsCostBy, cost_of_man, least_of_man, AreSpared, IsSparedAt, HasSpared, AreColumnsOf, IsAtMost, IsLeastBeside, IsPassing, IsBoundBy, IsOpenCost}
pub use Rattle.pg_tolls.specs.inner.Closing.{nth, cell, AreGrown, AreLesser, AreAtMost, ArePieceSteps, ArePawnSteps, IsPieceClosed, IsPawnClosed, AreStepsClosed, AreFalls, AreAllFalls, IsLayer, AreLayers, HasLowTolls, grown_by, AreTaken, IsNoLess, AreComing, AreGoals, AreRowsOf}
pub use Rattle.pg_tolls.specs.inner.Halves.{AreLost, IsInRange, IsHalf}
pub use Rattle.pg_tolls.specs.inner.Highest.{Numbers, AreNumbers, AreBelow, AreWithinPushes, AreWithinCaptures, IsOffer, AreLeftOver, AreClosedAt, AreClosedTo, AreHigh, KeepsSteps, KeepsTakes, KeepsPawns, KeepsPromoted, KeepsEnds, AreBlank, IsOver, IsHigh, AreLong, with_layer, AreHighest, numbers_of}
pub use Rattle.pg_tolls.specs.inner.Remembering.{IsTight, MayBeTight, AreAlike, AreOnSame, AreSameClaims, IsOwner, IsRemembered, HasNotPassed, most_for, IsCase, Tells}
pub use Rattle.pg_tolls.specs.inner.Tables.{entry, raised, IsWithin, IsClosed}
pub use Rattle.pg_tolls.specs.inner.Values.{cost_at, least_of, marks_for, kind_of, kind_on, by_passing, IsOpenWay, clipped, AreColumns, IsCost}
pub use Rattle.pg_tolls.specs.lemmas.Soundness.{AreSound, same_still, same_leg, same_lands, no_proof, low_white, low_black, test_tolls}
pub use Rattle.pg_tolls.specs.lemmas.TariffLemmas.{accounts_law, tariff_law, tolls_barren}
pub use Rattle.pg_travel.proofs.TakenSets.{AreAll, IsWithout, all_left, other_than, fewer}
pub use Rattle.pg_travel.specs.Origins.{charge, counted}
pub use Rattle.pg_travel.specs.lemmas.SumLemmas.{sum_add, sum_term}
pub use Rattle.pg_journeys.proofs.MemoryLemmas.{same_own_men, same_diagram}
pub use Rattle.pg_journeys.proofs.StepLemmas.{leg_turn, stays_kind}
pub use Rattle.pg_journeys.proofs.FrontLemmas.{kind_is}
pub use Rattle.pg_journeys.proofs.SpanLemmas.{home_low, rook_low, passed_ahead}
pub use Rattle.pg_travel.specs.lemmas.Values.{counted_low}
pub use Rattle.pg_journeys.proofs.RestingLemmas.{lifted_none}
