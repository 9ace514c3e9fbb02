-- The names that the lemmas and answers of this crate share.
pub use Rattle.std.proofs.Common.{zero, suc, ◌+◌, ◌-◌, min, count_ones, ◌≡◌, ◌≢◌, ℕ, ◌<◌, ◌≤◌, ◌⊎◌, ◌&&◌, ◌||◌, not, nat_eq, inl, inr, Bool, true, false, Option, Some, None, is_some, IsTrue, ◌↔◌, List, get_or, refl, sym, ap, subst, arith, ◌∙◌, cond, ◌*◌, ◌/◌, ◌%◌, [], length, set, leb, eqb, eqb-true, ◌∷◌, ◌++◌, ◌^◌, ltb, lt-ltb, le-ltb, take, drop, replicate, ltb-true}
pub use Rattle.std.proofs.Math.ListN.{length-set}
pub use Rattle.std.proofs.lemmas.Bool.{ne_eqb}
pub use Rattle.std.proofs.lemmas.Bool.Decides.{eqb_tells, leb_tells, nat_tests}
pub use Rattle.std.proofs.lemmas.List.{get_or-set_same, get_or-set_other, get_or_append_left, get_or-append_right, get_or-take, get_or-drop, get_or-replicate, length-take-le, length-drop}
pub use Rattle.std.proofs.lemmas.Nat.{le_or_l, le_or_r, one_shl}
pub use Rattle.std.specs.Prelude.{sum}
pub use Rattle.pg_board.proofs.SetLemmas.{set_of_rest, set_of_union}
pub use Rattle.pg_board.specs.Bits.{has}
pub use Rattle.pg_board.specs.Men.{man, is_man, other, is_of, number_of_kind, color_eq, kind_eq, passes}
pub use Rattle.pg_board.specs.Placement.{Placement, get}
pub use Rattle.pg_board.specs.SquareSets.{IsSetOf, IsFirstFrom, HasNoneFrom}
pub use Rattle.pg_board.specs.Tally.{one, count_below}
unfoldable pub use Rattle.pg_board.specs.Tally.{total, tally_below}
pub use Rattle.pg_board.specs.declared.man.Color.{Color}
pub use Rattle.pg_board.specs.declared.man.Color.TheVariants.{White, Black}
pub use Rattle.pg_board.specs.declared.man.Kind.{Kind}
pub use Rattle.pg_board.specs.declared.man.Kind.TheVariants.{Rook, King, Pawn, Knight, Bishop, Queen}
pub use Rattle.pg_board.specs.declared.man.Man.{Man}
pub use Rattle.pg_board.specs.lemmas.Decisions.{answer_is}
pub use Rattle.pg_board.specs.lemmas.Equalities.{is_man_decides, color_decides, kind_decides}
pub use Rattle.pg_board.specs.lemmas.Sums.{total-suc, count_below-le, total-none, total-more, count_below_same}
pub use Rattle.pg_board.specs.lemmas.Tallies.{tally_below-none, tally_below-all, tally_below-more, tally_below-le}
pub use Rattle.pg_captures.specs.Counting.{men, any_man, of_color}
pub use Rattle.pg_captures.specs.Owed.{plies_left}
pub use Rattle.pg_captures.specs.PriceLists.{number_among, PriceList, IsFor, price, IsPriced, list_of}
pub use Rattle.pg_position.proofs.FutureLemmas.{legal_position, one_result}
pub use Rattle.pg_position.specs.Position.{Stands, IsPosition, holds}
unfoldable pub use Rattle.pg_position.specs.Position.{IsHome, RightsClause}
pub use Rattle.pg_position.specs.Squares.{king_home, rook_home, king_target, king_crossed, ahead, IsCastlingHome}
pub use Rattle.pg_position.specs.declared.rights.Rights.{Rights}
pub use Rattle.pg_position.specs.declared.rights.Wing.{Wing}
pub use Rattle.pg_position.specs.declared.rights.Wing.TheVariants.{KingSide, QueenSide}
pub use Rattle.pg_position.specs.declared.state.State.{State}
pub use Rattle.pg_travel.specs.Decided.{sum_of, dec_travel}
pub use Rattle.pg_travel.specs.Needs.{TravelTest, NeedIs, ValueIs, HeldBeside, lesser}
unfoldable pub use Rattle.pg_travel.specs.Needs.{TravelHolds}
pub use Rattle.pg_travel.specs.Origins.{counted, charge}
pub use Rattle.pg_travel.specs.inner.AfterMove.{MayCastle, AreMoved, KeepsRights, IsMoved, IsToCome, AreToCome, NonePays, IsTold}
pub use Rattle.pg_travel.specs.inner.Costs.{SumIs, reach_of, reach_from, cost_of, most_of}
unfoldable pub use Rattle.pg_travel.specs.inner.Costs.{cost, nearest, BeyondFar, nearest_man}
pub use Rattle.pg_travel.specs.inner.DistanceRows.{stored, IsRow, IsReached, IsUnmasked, page_start, IsFurtherIn, to_stood, IsWritten, IsWithKind, IsPieceRow, IsMask, row_place, FitsAt, SourceFits, SourcesFit}
unfoldable pub use Rattle.pg_travel.specs.inner.DistanceRows.{IsRowFrom, IsFurtherAt, AreFurther, AreFirstFurther, IsRowAt, AreRows, AreFirstRows, RowFits, AreSixteen, ArePages, ArePaged, PageFits, FirstFit, MenFit}
pub use Rattle.pg_travel.specs.inner.Formulas.{distance_of, king, rank_for, last_at, soonest, is_promoted, least_steps, mirrored}
unfoldable pub use Rattle.pg_travel.specs.inner.Formulas.{least_of, knight, bishop, rook, queen, pawn_steps, pawn_to, pawn}
pub use Rattle.pg_travel.specs.inner.LeastRows.{at_target, steps_of, IsLowered, IsOff, IsBelow, IsFree, IsCastled, row_cost, IsUnreached, IsHomeOf, StandsOff, IsLeastFrom, IsAway, IsLeastRow}
unfoldable pub use Rattle.pg_travel.specs.inner.LeastRows.{AreLesser}
pub use Rattle.pg_travel.specs.inner.PriceTests.{Each, EachExcludes}
unfoldable pub use Rattle.pg_travel.specs.inner.PriceTests.{PairFits, AllFit}
pub use Rattle.pg_travel.specs.inner.Within.{PaysIs, CastledIs, SumWithin, IsAbove}
unfoldable pub use Rattle.pg_travel.specs.inner.Within.{CostsEach, CostsOnly}
pub use Rattle.pg_travel.specs.lemmas.NeedLemmas.{test_fails, distances_of_game, test_is_barren}
pub use Rattle.pg_travel.specs.lemmas.PairTests.{below_at}
unfoldable pub use Rattle.pg_travel.specs.lemmas.PairTests.{all_below}
pub use Rattle.pg_travel.specs.lemmas.Pawns.{some_by_steps, walk_bounds, by_other, least_of_more, least_of_none, none_by_steps}
pub use Rattle.pg_travel.specs.lemmas.TravelPricesLaw.{travel_prices_barren}
pub use Rattle.pg_travel.specs.lemmas.Values.{least_reached, cost_man, least_at_most, counted_low, sum_is_value, cost_home}
