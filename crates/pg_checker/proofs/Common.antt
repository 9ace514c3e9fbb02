-- The names that the lemmas and answers of this crate share.
pub use Rattle.std.proofs.Common.{◌≡◌, ℕ, inl, inr, Bool, true, List, [], Option, Some, None, Result, Ok, Err, IfOk, IfErr, IfSome, sym, subst, ◌<◌, ◌≤◌, false, ◌∷◌, ◌++◌, length, refl, ◌∙◌, ap, arith, Contains, zero, suc, ◌+◌, ◌||◌, slice_get, nat_eq, ap₂, append_assoc, append-nil, eq-eqb, ◌≢◌, ◌-◌, map, ◌*◌, not, ◌↔◌, cond, eqb, ◌⊎◌, ltb, ltb-true, ltb-false, reverse, eqb-true, ◌&&◌, ⊎_elim, IsTrue, Bor, take, get_or, add-one, drop, drop-cons, ◌^◌, slice_index_or, set, MatchOption, lt_of_lt_of_le}
pub use Rattle.std.proofs.lemmas.Bool.{ne_eqb, lt-ltb}
pub use Rattle.std.proofs.lemmas.Bool.Decides.{Decides-eqb, eqb_tells, same_from_decides}
pub use Rattle.std.proofs.lemmas.List.{reverse-append, take_more, length-append, take_all, append_cancel_right, length-reverse}
pub use Rattle.std.proofs.lemmas.List.Elements.{Contains-append_left, Contains-append_right, Contains-append_cases}
pub use Rattle.std.proofs.lemmas.Option.{slice_get-get_or, slice_get_within, get_or_from_slice_get}
pub use Rattle.std.proofs.lemmas.Slice.Eq.{slice_eq-Decides, bytes_eq-Decides}
pub use Rattle.std.specs.Bool.{Decides, ◌==◌}
pub use Rattle.std.specs.Cmp.{IsEquivalence, nat_cmp_is}
pub use Rattle.std.specs.Io.KnownBytes.{Consumes, IsAtEnd, Keeps, prepend_known}
pub use Rattle.std.specs.List.{AllByRecursion, filter}
unfoldable pub use Rattle.std.specs.List.{IsDistinct}
pub use Rattle.std.specs.Option.{is_some, option_map}
pub use Rattle.std.specs.Ordering.{ordering_reverse, is_lt, nat_cmp, ordering_then}
pub use Rattle.std.specs.Str.{bytes_eq}
pub use Rattle.std.specs.declared.cmp.Ordering.TheVariants.{Less, Greater, Equal}
pub use Rattle.arrayvec.specs.ArrayVec.{ArrayVec}
pub use Rattle.pg_board.specs.Bits.{has}
pub use Rattle.pg_board.specs.Equality.{placement_eq_decides, placement_eq}
pub use Rattle.pg_board.specs.Men.{man, other, is_of, is_held}
pub use Rattle.pg_board.specs.Placement.{Placement, get, without}
pub use Rattle.pg_board.specs.SquareSets.{HasNoneFrom, IsFirstFrom, IsLastIn}
pub use Rattle.pg_board.specs.declared.man.Color.{Color}
pub use Rattle.pg_board.specs.declared.man.Kind.{Kind}
pub use Rattle.pg_board.specs.declared.man.Man.{Man}
pub use Rattle.pg_captures.specs.PriceLists.{PriceList, list_of}
pub use Rattle.pg_captures.specs.lemmas.BoardLemmas.{written, unwritten, man_elsewhere, same_side}
pub use Rattle.pg_certificate.proofs.RecordLaws.{none_longer, records_again, records_taken, truncated_is_short, short_is_truncated, unknown_at, at_unknown}
pub use Rattle.pg_certificate.specs.Reader.{PullsAtMost, ReaderState, to_come, Reads, ReadsAs}
pub use Rattle.pg_certificate.specs.Reading.{header_at, more_at, record_at, byte_at, byte_from, exactly, number_at, outline_at, lists_at, priced_at}
pub use Rattle.pg_certificate.specs.Spelling.{header_spelling, longest_record, record_of, IsRecordOf, IsVersion, AreBytes, IsHeader}
pub use Rattle.pg_certificate.specs.declared.fault.ReadFault.{ReadFault}
pub use Rattle.pg_certificate.specs.declared.fault.ReadFault.TheVariants.{Truncated, Magic, UnknownRecord, Read, Failed}
pub use Rattle.pg_certificate.specs.declared.record.Bare.{Bare}
pub use Rattle.pg_certificate.specs.declared.record.Header.{Header}
pub use Rattle.pg_certificate.specs.declared.record.Record.{Record}
pub use Rattle.pg_checker.specs.Answer.{AreSolutions, IsSolution, IsExactAnswer}
pub use Rattle.pg_checker.specs.Answering.{AnswerAccepts, AnswerRefuses, AnswerTells, FitsLongLists, HasTooMany, IsProvedBy, FitsNoList}
pub use Rattle.pg_checker.specs.Check.{Certifies, Accepts, IsCertified, header_for, IsHeaded, IsRefused, Refuses, StopsAt}
pub use Rattle.pg_checker.specs.Chess.{Cuts, IsSoundCut, any_game, chess, is_spelled, stands_for, IsChess, cause_of, renamed, taken}
unfoldable pub use Rattle.pg_checker.specs.Chess.{chess_with, read}
pub use Rattle.pg_checker.specs.Claims.{IsExact, IsRight, IsComplete, IsCertificate, ReadsTree, FitFrom, count}
pub use Rattle.pg_checker.specs.Cuts.{files_by, CheckRules, cuts_by, prices_by, any_rules_by, rules_by, cuts_for, rules_for}
pub use Rattle.pg_checker.specs.Differing.{Differ, TwoToFour}
pub use Rattle.pg_checker.specs.Equality.{game_eq}
unfoldable pub use Rattle.pg_checker.specs.Equality.{lists}
pub use Rattle.pg_checker.specs.Front.{RefusesRecord, RecordCause, no_budget, no_record, refused, LeafCause, Front, Here, Below, front_records, front_named, front_spelling, NextNode, After, FitFront, CauseAt, TookFront, Halts}
pub use Rattle.pg_checker.specs.Left.{comes_after}
unfoldable pub use Rattle.pg_checker.specs.Left.{left_after}
pub use Rattle.pg_checker.specs.Listed.{AreFine, IsGameFault, IsListFault}
pub use Rattle.pg_checker.specs.Naming.{Begins, IsNamed, NamesNone}
pub use Rattle.pg_checker.specs.Opening.{OpenedState, behind, bytes_of}
pub use Rattle.pg_checker.specs.Passing.{LeadsTo, LeadsElsewhere, AllElsewhere, PassesOver}
pub use Rattle.pg_checker.specs.Spots.{played_from, spot_of}
pub use Rattle.pg_checker.specs.Telling.{HasShorter, IsMissing, Tells}
pub use Rattle.pg_checker.specs.Terms.{Terms, terms}
pub use Rattle.pg_checker.specs.Tree.{spelling_all, Tree, Trees, Leaf, Empty, First, Entry, Rules, Fits, FitAll, fertile, any_fertile, closed, closed_all, entry, records, records_all, named, named_all, EndsOnGoal, TooManyNamed, one_if, Cause, Budget, UnknownBound, CutFails, RefUnknown, RefDiffers, RefFertile, Shorter, Unlisted}
pub use Rattle.pg_checker.specs.Walk.{WalkState, Done, Opened, spend_of, take_room, cut_answer, ref_answer, judge, head, leaf_answer, each, visit, Took, TookAll, leaf, Shape, close, below, differs_or}
pub use Rattle.pg_checker.specs.Whole.{ended, full_from, full_all, closed_from, IsStopped, HasMore, IsAtNamed, IsAccepted}
unfoldable pub use Rattle.pg_checker.specs.Whole.{run, answer}
pub use Rattle.pg_checker.specs.declared.certify.Proved.{Proved}
pub use Rattle.pg_checker.specs.declared.fault.Fault.{Fault}
pub use Rattle.pg_checker.specs.declared.fault.ListFault.{ListFault}
pub use Rattle.pg_checker.specs.declared.fault.ListFault.TheVariants.{WrongLength, NotReaching}
pub use Rattle.pg_checker.specs.declared.finds.Finds.{Finds}
pub use Rattle.pg_checker.specs.declared.finds.Loss.TheVariants.{TooMany}
pub use Rattle.pg_checker.specs.declared.halt.Halt.{Halt}
pub use Rattle.pg_checker.specs.declared.machine.Machine.{Machine}
pub use Rattle.pg_checker.specs.declared.machine.Names.{Names}
pub use Rattle.pg_checker.specs.declared.machine.Opening.{Opening}
pub use Rattle.pg_checker.specs.declared.machine.Stack.{Stack}
pub use Rattle.pg_checker.specs.inner.Checking.{fault_of, WalkTakes, AreKnown, Answers, Headed, HeaderFails}
pub use Rattle.pg_checker.specs.inner.Finds.{AreFinds, Finding, IsFound, IsLossFault, IsLost, HasOver, Serves, asked, own_test, IsLacking}
pub use Rattle.pg_checker.specs.inner.Frames.{enter, opens, Work, resume, finish, turn_at, turn, load, effort, Stacked, turn_top}
pub use Rattle.pg_checker.specs.inner.Halting.{Stop, cause_with, stops, causes}
pub use Rattle.pg_checker.specs.inner.Judging.{stop_of, Judgement, Ends, EndsAs, Judges, ended_of, judged_at, refer_answer}
pub use Rattle.pg_checker.specs.inner.Leading.{LeadsOn, HoldsSources, HoldsTargets, PassesMan}
pub use Rattle.pg_checker.specs.inner.Machine.{entry_of, state_at, Point, Walks, frame_of, shape_of, work_at, played, state_of, opened, IsReady, Closes, LeadTo, OnTop, Plays, entered, entries_of, HasNone, Passed, IsReading, point_of, fresh}
unfoldable pub use Rattle.pg_checker.specs.inner.Machine.{path, frames_of, count_named, ArePlayed}
pub use Rattle.pg_checker.specs.inner.Steps.{Goes, FailsRead, TakesFew, Says}
unfoldable pub use Rattle.pg_checker.specs.inner.Steps.{Stops}
pub use Rattle.pg_checker.specs.inner.Table.{TableState}
pub use Rattle.pg_checker.specs.inner.Telling.{StopTells, NamesNoGame}
pub use Rattle.pg_checker.specs.lemmas.Equalities.{lists_decides, game_decides}
pub use Rattle.pg_fen.specs.Packing.{packed_byte}
unfoldable pub use Rattle.pg_fen.specs.Packing.{packed_of}
pub use Rattle.pg_moves.proofs.ListLemmas.{moves_of_is, few_moves, kept_are, kept_has, moves_of}
pub use Rattle.pg_moves.proofs.PlaceLemmas.{move_cmp_total}
pub use Rattle.pg_moves.proofs.PlayLemmas.{play_of_is, play_of, play_of_legal}
pub use Rattle.pg_moves.proofs.SortLemmas.{Contains-none, Contains-head, Contains-later, Contains-cons, sorted_below, sorted_rest, sorted_same}
pub use Rattle.pg_moves.specs.Left.{MovesLeft, to_square}
unfoldable pub use Rattle.pg_moves.specs.Left.{IsRest}
pub use Rattle.pg_moves.specs.Moves.{IsPast, promotion_number, move_cmp, IsBefore, IsNext, IsLast}
pub use Rattle.pg_moves.specs.inner.Places.{most_moves}
pub use Rattle.pg_pawns.specs.PricesDecided.{pawn_prices_test_is, pawn_prices_test_tells}
pub use Rattle.pg_position.proofs.ArrayLemmas.{array_position}
pub use Rattle.pg_position.proofs.FutureLemmas.{legal_position, future_sym, same_games, same_ends, one_result, one_end}
pub use Rattle.pg_position.specs.Array.{array_state}
pub use Rattle.pg_position.specs.Future.{SameFuture}
pub use Rattle.pg_position.specs.Game.{IsGame}
unfoldable pub use Rattle.pg_position.specs.Game.{IsOnce}
pub use Rattle.pg_position.specs.Position.{IsPosition, Stands, IsVacant}
unfoldable pub use Rattle.pg_position.specs.Position.{IsPassed}
pub use Rattle.pg_position.specs.Step.{Legal, IsLegal, IsWay, relocated, board_after, after}
unfoldable pub use Rattle.pg_position.specs.Step.{Step, IsEnemy}
pub use Rattle.pg_position.specs.declared.moves.Move.{Move}
pub use Rattle.pg_position.specs.declared.moves.StepKind.{StepKind}
pub use Rattle.pg_position.specs.declared.moves.StepKind.TheVariants.{Plain, Capture, DoubleAdvance, EnPassant, Promotion, Castling}
pub use Rattle.pg_position.specs.declared.state.State.{State}
pub use Rattle.pg_san.proofs.OrderLemmas.{games_once}
pub use Rattle.pg_san.specs.Games.{IsGames}
unfoldable pub use Rattle.pg_san.specs.Games.{IsFromArray}
pub use Rattle.pg_travel.specs.PricesDecided.{travel_prices_test, travel_prices_test_tells, travel_prices_test_is}
