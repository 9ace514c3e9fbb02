-- The names that the lemmas and answers of this crate share.
pub use Rattle.std.proofs.Common.{◌≡◌, ◌≢◌, ℕ, zero, suc, ◌<◌, inl, inr, Option, Some, None, Bool, true, false, refl, sym, subst, arith, ◌∙◌, nat_eq, not, ◌&&◌, ◌||◌, ◌^◌, ap, ◌⊎◌, ◌↔◌, IsTrue, MatchOption, ◌+◌, ltb, List, [], ◌∷◌, Ok, Err, Result, IfOk, IfErr, is_ok, ◌≤◌, ltb-true, ltb-false, eqb, cond, eq-eqb, ne_eqb, get_or}
pub use Rattle.std.proofs.lemmas.Bool.Decides.{eqb_tells, Decides-at, Decides-or, Decides-ltb, Decides-eqb, Decides-and, Decides-like, Decides-not, Decides-below_and, nat_tests, same_from_decides}
pub use Rattle.std.specs.Bool.{Decides}
pub use Rattle.pg_board.proofs.SetLemmas.{and_true, second, set_of_union, set_like, set_of_both, set_of_rest}
pub use Rattle.pg_board.specs.Bits.{has, bits_below-lt, has-bits_below}
unfoldable pub use Rattle.pg_board.specs.Bits.{bits_below}
pub use Rattle.pg_board.specs.Men.{man, is_kind, is_of, other, is_man, is_held}
pub use Rattle.pg_board.specs.Placement.{Placement, get, get-placement_of, same_placement, empty, write}
pub use Rattle.pg_board.specs.SquareSets.{IsSetOf, Meet, HasNoneFrom, IsFirstFrom, IsLastIn}
pub use Rattle.pg_board.specs.Squares.{file, rank}
pub use Rattle.pg_board.specs.Tally.{one, count_below}
pub use Rattle.pg_board.specs.declared.man.Color.{Color}
pub use Rattle.pg_board.specs.declared.man.Color.TheVariants.{White, Black}
pub use Rattle.pg_board.specs.declared.man.Kind.{Kind}
pub use Rattle.pg_board.specs.declared.man.Kind.TheVariants.{Pawn, Knight, Bishop, Rook, Queen, King}
pub use Rattle.pg_board.specs.declared.man.Man.{Man}
pub use Rattle.pg_board.specs.lemmas.Equalities.{is_man_decides, of_decides}
pub use Rattle.pg_board.specs.lemmas.Placements.{get_on, get-empty, get-write_same, get-write_other}
unfoldable pub use Rattle.pg_position.specs.Array.{first_man, array_board, array_state}
pub use Rattle.pg_position.specs.Attack.{Reaches}
unfoldable pub use Rattle.pg_position.specs.Attack.{Attacks, AttacksFrom, IsClear}
pub use Rattle.pg_position.specs.Future.{IsEffective, SameFuture}
unfoldable pub use Rattle.pg_position.specs.Future.{IsPawnAttacked}
pub use Rattle.pg_position.specs.Geometry.{apart, IsForward, OnOneLine, OnOneDiagonal, IsWithin}
unfoldable pub use Rattle.pg_position.specs.Geometry.{InPattern, IsBetween}
pub use Rattle.pg_position.specs.Position.{Stands, IsPosition, holds, parts, IsVacant, PassedClause}
unfoldable pub use Rattle.pg_position.specs.Position.{IsOnlyKing, HasOneKing, InCheck, PawnsClause, IsHome, RightsClause, IsPassed}
pub use Rattle.pg_position.specs.Squares.{king_home, rook_home, king_target, IsCastlingHome, ahead, HasAhead, home_rank, passed_rank, last_rank, king_crossed}
pub use Rattle.pg_position.specs.Step.{IsCastling, touches, rights_after, IsWay, after, Legal, IsDoubleAdvance, relocated, passed_after, IsOnBoard, IsLegal, IsCause, IsPlain, IsCapture, IsEnPassant, board_after, keeps}
unfoldable pub use Rattle.pg_position.specs.Step.{Step, Goes, IsEnemy}
pub use Rattle.pg_position.specs.declared.direction.Direction.{Direction}
pub use Rattle.pg_position.specs.declared.direction.Direction.TheVariants.{North, NorthEast, East, SouthEast, South, SouthWest, West, NorthWest}
pub use Rattle.pg_position.specs.declared.moves.Move.{Move}
pub use Rattle.pg_position.specs.declared.moves.StepKind.{StepKind}
pub use Rattle.pg_position.specs.declared.moves.StepKind.TheVariants.{Plain, Capture, DoubleAdvance, EnPassant, Promotion, Castling}
pub use Rattle.pg_position.specs.declared.refusals.Illegal.{Illegal}
pub use Rattle.pg_position.specs.declared.refusals.Illegal.TheVariants.{LeavesCheck, EmptyFrom, OtherSide, NotAMove}
pub use Rattle.pg_position.specs.declared.rights.Rights.{Rights}
pub use Rattle.pg_position.specs.declared.rights.Wing.{Wing}
pub use Rattle.pg_position.specs.declared.rights.Wing.TheVariants.{KingSide, QueenSide}
pub use Rattle.pg_position.specs.declared.state.State.{State}
pub use Rattle.pg_position.specs.inner.Lines.{IsBlocked, ByStep, Straight, Diagonal, ReachesAlong, ReachesStraight, ReachesDiagonal}
unfoldable pub use Rattle.pg_position.specs.inner.Lines.{AttackedBy, AttackedAlong, IsFree}
pub use Rattle.pg_position.specs.inner.Rays.{OnFileOrRank, OnDiagonal, IsIn, ascends, is_straight, slides, Before, direction_number}
unfoldable pub use Rattle.pg_position.specs.inner.Rays.{OnRay}
pub use Rattle.pg_position.specs.lemmas.Equalities.{same_from_alike, alike_from_same, state_eq_decides}
