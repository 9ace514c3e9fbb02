-- The names that the lemmas and answers of this crate share.
pub use Rattle.std.proofs.Common.{◌≡◌, ◌≢◌, ℕ, ◌<◌, inl, inr, Option, Some, None, true, false, cond, ◌&&◌, refl, sym, ap, subst, ◌∙◌, ◌⊎◌, arith, zero, suc, ◌+◌, ◌-◌, ◌≤◌, ◌^◌, List, [], ◌∷◌, ◌++◌, length, length-append, map, take, get_or, ap₂, Bool, ◌||◌, ◌↔◌, IsTrue, not, ◌*◌, eqb, MatchOption, Result, Ok, Err, nat_eq, ◌/◌, ◌%◌, pow-suc, IfSome, IfNone}
pub use Rattle.std.proofs.lemmas.Bool.{eqb-false, cases_lt}
pub use Rattle.std.proofs.lemmas.Bool.Decides.{eqb_tells, Decides-eqb, leb_tells, Decides-at, Decides-or, Decides-and, Decides-like}
pub use Rattle.std.proofs.lemmas.Cmp.{tied_itself, nat_cmp_total, on_total, then_total}
pub use Rattle.std.proofs.lemmas.List.Elements.{Contains-append_left, Contains-append_right, Contains-append_cases, Contains-push, Contains-push_cases, All-from_recursion, recursion_from_All, All-push, All-contains}
pub use Rattle.std.proofs.lemmas.List.Sums.{sum_by_more, sum_by_more_le, sum_by-cons, sum_by_push}
pub use Rattle.std.specs.Bool.{Decides}
pub use Rattle.std.specs.Cmp.{IsTotalOrder, nat_cmp_is}
pub use Rattle.std.specs.List.{Contains, sum_by, filter, All}
unfoldable pub use Rattle.std.specs.List.Sorted.{IsStrictlySortedBy}
pub use Rattle.std.specs.declared.cmp.Ordering.TheVariants.{Less, Equal}
pub use Rattle.pg_board.proofs.SetLemmas.{set_of_both, and_true, second, set_of_union, set_of_rest, set_none, set_like}
pub use Rattle.pg_board.specs.Bits.{has, bits_below, has-bits_below, has-none}
pub use Rattle.pg_board.specs.Men.{man, other, color_eq, kind_eq, is_of, is_man, is_kind, king_of, is_held}
pub use Rattle.pg_board.specs.Placement.{Placement, get, without, IsFirst, write}
pub use Rattle.pg_board.specs.SquareSets.{IsSetOf, HasNoneFrom, IsFirstFrom, Meet, IsLastIn}
pub use Rattle.pg_board.specs.Squares.{file, rank}
pub use Rattle.pg_board.specs.Tally.{one, count_below, total}
pub use Rattle.pg_board.specs.declared.man.Color.{Color}
pub use Rattle.pg_board.specs.declared.man.Color.TheVariants.{White, Black}
pub use Rattle.pg_board.specs.declared.man.Kind.{Kind}
pub use Rattle.pg_board.specs.declared.man.Kind.TheVariants.{Pawn, Knight, Bishop, Rook, Queen, King}
pub use Rattle.pg_board.specs.declared.man.Man.{Man}
pub use Rattle.pg_board.specs.lemmas.Equalities.{is_man_decides, color_decides, of_decides}
pub use Rattle.pg_board.specs.lemmas.Placements.{get_on, get-write_same, get-write_other}
pub use Rattle.pg_board.specs.lemmas.Sums.{total-none, total-suc, total-le, total-zero, total_changed, below_seven, count_below_same, one-le, total_same}
pub use Rattle.pg_moves.specs.Counts.{IsFollowed, IsGameOf, IsGameList, IsCountFault}
unfoldable pub use Rattle.pg_moves.specs.Counts.{IsGameCount}
pub use Rattle.pg_moves.specs.Left.{MovesLeft, men_from, IsTurn, IsRestOf}
unfoldable pub use Rattle.pg_moves.specs.Left.{IsPeeked, IsManDone, IsNextOfMan, IsReady, IsRest, IsOneByOne, IsFirstOfMan, IsFirstOfAll, IsHandedOut}
pub use Rattle.pg_moves.specs.Moves.{move_cmp, IsMoveList, promotion_number, IsNext, IsLast, first_in, IsBefore, IsPast}
pub use Rattle.pg_moves.specs.Targets.{only, plain_move, IsTried}
unfoldable pub use Rattle.pg_moves.specs.Targets.{IsOwn, FreeOff, Advances, CapturesEnPassant, IsOrdinary, Strides, Leaps, IsFree, Covers}
pub use Rattle.pg_moves.specs.declared.men.Men.{Men}
pub use Rattle.pg_moves.specs.declared.pawns.PawnMoves.{PawnMoves}
pub use Rattle.pg_moves.specs.declared.sources.Source.{Source}
pub use Rattle.pg_moves.specs.declared.turns.Turn.{Turn}
pub use Rattle.pg_moves.specs.inner.Guards.{IsGuardedMan, AreOff, CountsOn, CountsOff, IsCounted}
unfoldable pub use Rattle.pg_moves.specs.inner.Guards.{GuardsOff}
pub use Rattle.pg_moves.specs.inner.Men.{AreMen, AreToCome}
unfoldable pub use Rattle.pg_moves.specs.inner.Men.{AreKept}
pub use Rattle.pg_moves.specs.inner.Parries.{AreParries, IsLineAttacker, IsLineKind, IsStepKind, IsStepAttacker}
unfoldable pub use Rattle.pg_moves.specs.inner.Parries.{IsInVain, IsInShelter, StaysAttacked, IsPinnedAlong, IsParried}
pub use Rattle.pg_moves.specs.inner.Pawns.{IsQuiet, forward, IsInside, AreWays, to_west, to_east, AreInside}
unfoldable pub use Rattle.pg_moves.specs.inner.Pawns.{moves_from}
pub use Rattle.pg_moves.specs.inner.Places.{place, place_of, NoneFrom, IsFirstMove, IsListBelow, most_moves, most_of_a_man, start_after}
unfoldable pub use Rattle.pg_moves.specs.inner.Places.{IsCountBelow, Adds}
unfoldable pub use Rattle.pg_moves.specs.inner.Sources.{IsExact, IsSource, IsToldSource}
pub use Rattle.pg_moves.specs.inner.Steps.{leap_rank, StepsTo}
pub use Rattle.pg_position.proofs.FutureLemmas.{legal_position, one_result}
pub use Rattle.pg_position.proofs.LineLemmas.{pawn_near, knight_near, king_near}
pub use Rattle.pg_position.proofs.ReachLemmas.{between_turn}
pub use Rattle.pg_position.proofs.StepLemmas.{same_kind, not_other, same_side, two_files, some_none}
pub use Rattle.pg_position.specs.Attack.{Reaches}
unfoldable pub use Rattle.pg_position.specs.Attack.{IsClear, AttacksFrom, Attacks}
pub use Rattle.pg_position.specs.Geometry.{apart, IsForward, OnOneLine, OnOneDiagonal, IsWithin}
unfoldable pub use Rattle.pg_position.specs.Geometry.{IsBetween, InPattern}
pub use Rattle.pg_position.specs.Position.{Stands, IsPosition, holds, IsVacant}
unfoldable pub use Rattle.pg_position.specs.Position.{IsOnlyKing, HasOneKing, InCheck, RightsClause, IsHome, PawnsClause, IsPassed}
pub use Rattle.pg_position.specs.Squares.{king_home, rook_home, king_crossed, king_target, ahead, home_rank, last_rank, passed_rank, HasAhead}
pub use Rattle.pg_position.specs.Step.{IsLegal, IsCastling, IsOnBoard, relocated, after, Legal, MustPromote, IsWay, board_after, IsPiece}
unfoldable pub use Rattle.pg_position.specs.Step.{Step, IsEnemy, Goes}
pub use Rattle.pg_position.specs.declared.moves.Move.{Move}
pub use Rattle.pg_position.specs.declared.moves.StepKind.{StepKind}
pub use Rattle.pg_position.specs.declared.moves.StepKind.TheVariants.{Castling, Plain, Capture, DoubleAdvance, EnPassant, Promotion}
pub use Rattle.pg_position.specs.declared.rights.Wing.{Wing}
pub use Rattle.pg_position.specs.declared.rights.Wing.TheVariants.{KingSide, QueenSide}
pub use Rattle.pg_position.specs.declared.state.State.{State}
