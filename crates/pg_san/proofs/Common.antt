-- The names that the lemmas and answers of this crate share.
pub use Rattle.std.proofs.Common.{◌≡◌, ℕ, ◌<◌, ◌≤◌, None, List, [], length, get_or, drop, sym, ap₂, arith, ◌∙◌, ◌+◌, ◌-◌, ◌*◌, Bool, true, false, cond, ◌∷◌, ◌++◌, Option, Some, refl, ap, subst, inl, inr, append_assoc, ◌⊎◌, ◌&&◌, suc, take, set, Ok, ◌≢◌, map, ◌↔◌, length-append, zero, MatchOption, eqb, rules, bit_or}
pub use Rattle.std.proofs.Math.Seq.{drop-cons}
pub use Rattle.std.proofs.lemmas.Bool.{cases_lt}
pub use Rattle.std.proofs.lemmas.Bool.Decides.{nat_tests, eqb_tells, Decides-at, Decides-below_and, Decides-eqb}
pub use Rattle.std.proofs.lemmas.List.{drop_all, reverse-reverse, reverse-append, nil_from_length, take_more, take_all, length-take-le, take-append-drop, take_at, get_or_default, get_or-take, append-nil, map-append, get_or-map, get_or-drop, take-map, drop-map, length-map, length-drop, take-take, take_rest}
pub use Rattle.std.proofs.lemmas.List.Elements.{All-set, Contains-append_left, Contains-push, Contains-push_cases, Contains-append_right, Contains-get_or, All-map, All-contains, recursion_from_All, Contains-append_cases}
pub use Rattle.std.specs.List.{All, slice_split, Contains, AllWithin, insert, slice_get}
pub use Rattle.std.specs.List.Sorted.{IsNonDecreasingBy, IsBinarySearchResult, IsSearchInRange}
unfoldable pub use Rattle.std.specs.List.Sorted.{IsStrictlySortedBy}
pub use Rattle.std.specs.Option.{option_and_then, option_map}
pub use Rattle.std.specs.Ordering.{ordering_then, ordering_reverse, nat_cmp, ordering_index, is_lt}
pub use Rattle.std.specs.Prelude.{reverse, nat_eq, IfSome, Result, Err, MatchResult, IsTrue, is_some, not, codes, ◌||◌}
pub use Rattle.std.specs.declared.cmp.Ordering.TheVariants.{Less, Greater, Equal}
pub use Rattle.pg_board.specs.Bits.{has, has-bits_below}
unfoldable pub use Rattle.pg_board.specs.Bits.{bits_below}
pub use Rattle.pg_board.specs.Men.{man, is_man}
pub use Rattle.pg_board.specs.Placement.{get}
pub use Rattle.pg_board.specs.SquareSets.{IsSetOf, HasNoneFrom, IsFirstFrom}
pub use Rattle.pg_board.specs.Squares.{file, rank}
pub use Rattle.pg_board.specs.declared.man.Color.{Color}
pub use Rattle.pg_board.specs.declared.man.Kind.{Kind}
pub use Rattle.pg_board.specs.declared.man.Kind.TheVariants.{Pawn, Knight, Bishop, Rook, Queen, King}
pub use Rattle.pg_board.specs.declared.man.Man.{Man}
pub use Rattle.pg_moves.proofs.ListLemmas.{on_board}
pub use Rattle.pg_moves.proofs.SearchLemmas.{not_both}
pub use Rattle.pg_moves.proofs.SortLemmas.{Contains-none, Contains-head, Contains-later, Contains-cons, sorted_none, sorted_below, sorted_rest, sorted_same}
pub use Rattle.pg_position.proofs.ArrayLemmas.{array_position}
pub use Rattle.pg_position.proofs.FutureLemmas.{legal_position, one_result, one_end}
pub use Rattle.pg_position.proofs.StepLemmas.{same_kind, some_none}
pub use Rattle.pg_position.specs.Array.{array_state}
pub use Rattle.pg_position.specs.Game.{IsGame}
unfoldable pub use Rattle.pg_position.specs.Game.{IsOnce}
pub use Rattle.pg_position.specs.Position.{Stands, IsVacant, IsPosition}
unfoldable pub use Rattle.pg_position.specs.Position.{IsPassed}
pub use Rattle.pg_position.specs.Squares.{ahead, king_home, passed_rank, home_rank, last_rank, king_target}
pub use Rattle.pg_position.specs.Step.{Legal, IsLegal, IsPiece, IsWay, IsEnPassant, IsCastling}
unfoldable pub use Rattle.pg_position.specs.Step.{IsEnemy, Goes, Step}
pub use Rattle.pg_position.specs.declared.moves.Move.{Move}
pub use Rattle.pg_position.specs.declared.rights.Wing.{Wing}
pub use Rattle.pg_position.specs.declared.rights.Wing.TheVariants.{KingSide, QueenSide}
pub use Rattle.pg_position.specs.declared.state.State.{State}
pub use Rattle.pg_san.specs.Adding.{IsIllegalAt, IsAdded, IsNew}
pub use Rattle.pg_san.specs.CoreText.{is_file, is_rank, promotion_in, plain_core, file_in, rank_in, square_in, sep_in, without_equals, promotion_by, source_in, parts_by, core_by, plain_by}
unfoldable pub use Rattle.pg_san.specs.CoreText.{parts_in, core_of}
pub use Rattle.pg_san.specs.GameText.{is_feed, dash, without_move_number, is_gap}
unfoldable pub use Rattle.pg_san.specs.GameText.{lines, words}
pub use Rattle.pg_san.specs.Games.{game_cmp, IsGames, IsPlace}
unfoldable pub use Rattle.pg_san.specs.Games.{IsFromArray}
pub use Rattle.pg_san.specs.Grammar.{sep_text, parts_text, IsPieceText, IsPromotionText, IsFormText, IsPassingText, IsCheckText, IsMark, IsMarksText, IsSaidText, piece_core, AreOfBoard, IsPawnText, IsSquaresText, is_cross, core_to, file_of, left_text, pawn_core}
pub use Rattle.pg_san.specs.KnownReadings.{IsStepRead}
unfoldable pub use Rattle.pg_san.specs.KnownReadings.{IsKnown}
unfoldable pub use Rattle.pg_san.specs.KnownTexts.{IsWritten}
pub use Rattle.pg_san.specs.Listing.{AreGame, AreRead, IsListing, IsLine, IsLineFault, IsTextFault, IsBadWord}
unfoldable pub use Rattle.pg_san.specs.Listing.{Spells, IsGameLine, IsBadLine, Give}
pub use Rattle.pg_san.specs.Matching.{IsReading, FitsCore, FitsForm, FitsAs, GoesTwo, IsCapturing}
unfoldable pub use Rattle.pg_san.specs.Matching.{Fits, Matches}
pub use Rattle.pg_san.specs.Said.{castling_of, form_of, said_by, passing_in, without_mark, without_check, without_marks, form_by, without_plus, byte_in, ep_in, dots_in, passing_by}
unfoldable pub use Rattle.pg_san.specs.Said.{said_of}
pub use Rattle.pg_san.specs.Spelling.{piece_of, promoted_of, IsOfBoard, file_byte, rank_byte, file_text, rank_text, form_text, square_text, letter_text, cross_text, promotion_text, written_file, core_text, IsFormWritable}
pub use Rattle.pg_san.specs.TextLeft.{lines_left, length_left}
pub use Rattle.pg_san.specs.Writing.{IsHint, IsPawnHint, IsCore, IsForm, IsSan, IsSignOf, Counts, IsRivalOn}
unfoldable pub use Rattle.pg_san.specs.Writing.{HasRival}
pub use Rattle.pg_san.specs.declared.cores.Core.{Core}
pub use Rattle.pg_san.specs.declared.cores.Parts.{Parts}
pub use Rattle.pg_san.specs.declared.cores.Sep.{Sep}
pub use Rattle.pg_san.specs.declared.cores.Sep.TheVariants.{Nothing, Cross, Hyphen}
pub use Rattle.pg_san.specs.declared.fault.SanFault.{SanFault}
pub use Rattle.pg_san.specs.declared.fault.SanFault.TheVariants.{Shape, NoSuchMove, Ambiguous}
pub use Rattle.pg_san.specs.declared.listing_fault.GamesFault.{GamesFault}
pub use Rattle.pg_san.specs.declared.listing_fault.GamesFault.TheVariants.{At, TooMany, Repeated, Memory}
pub use Rattle.pg_san.specs.declared.said.Form.{Form}
pub use Rattle.pg_san.specs.declared.said.Form.TheVariants.{Castles, Moves}
pub use Rattle.pg_san.specs.declared.said.Said.{Said}
pub use Rattle.pg_san.specs.inner.Walk.{IsOnlyFrom, IsFoundAt, IsFirstFit, IsSaidReading, IsTextReading}
unfoldable pub use Rattle.pg_san.specs.inner.Walk.{HoldsSources, NoneLeaves, NoneFits}
