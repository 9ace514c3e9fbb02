-- The names that the lemmas and answers of this crate share.
pub use Rattle.std.proofs.Common.{ℕ, List, ◌≡◌, ◌<◌, ◌≤◌, ◌↔◌, Bool, false, Option, Some, None, IfSome, IsSome, subst, sym, ap, ◌++◌, refl, true, IsTrue, inl, inr, nat_lt, arith, zero, suc, ◌+◌, ◌&&◌, ◌||◌, cond, [], IfNone, ap₂, add-one, ◌∙◌, rules, drop, below_more}
pub use Rattle.std.proofs.KnownBytes.{Appends-trans, Appends-nil}
pub use Rattle.std.proofs.lemmas.Bool.{lt-ltb, ltb-true}
pub use Rattle.std.specs.Io.KnownBytes.{Appends}
pub use Rattle.std.specs.List.{list_any}
pub use Rattle.std.specs.Prelude.{codes}
pub use Rattle.pg_board.specs.Bits.{has}
pub use Rattle.pg_board.specs.Placement.{Placement, get, get-placement_of}
pub use Rattle.pg_board.specs.Tally.{one, count_below}
unfoldable pub use Rattle.pg_board.specs.Tally.{total, tally, tally_below}
pub use Rattle.pg_board.specs.declared.man.Color.{Color}
pub use Rattle.pg_board.specs.declared.man.Color.TheVariants.{White, Black}
pub use Rattle.pg_board.specs.lemmas.Sums.{total_same, total-none, total-more, count_below_same, count_below-le}
pub use Rattle.pg_captures.specs.Counting.{men, any_man, of_color}
pub use Rattle.pg_certificate.specs.Pushing.{AddsSome}
pub use Rattle.pg_checker.specs.Terms.{Terms, terms}
pub use Rattle.pg_fen.specs.Lengths.{length_text}
pub use Rattle.pg_position.proofs.ArrayLemmas.{array_position}
unfoldable pub use Rattle.pg_position.specs.Array.{array_state, first_man, array_board}
unfoldable pub use Rattle.pg_position.specs.Game.{Barren}
pub use Rattle.pg_position.specs.declared.moves.Move.{Move}
pub use Rattle.pg_position.specs.declared.state.State.{State}
pub use Rattle.pg_report.specs.Expecting.{IsExpected, end_text, expected_text, range_text}
pub use Rattle.pg_report.specs.Run.{AreSpelled, Failures, IsCheckFault, IsOfTexts, IsRunFault, Texts, of_problem, failures}
pub use Rattle.pg_report.specs.Shortest.{IsExcluded, IsLeastLength, NoneBelow}
pub use Rattle.pg_report.specs.Showing.{counted_text, men_text, captured_text, reason_text, need_text, open_line, below_text, IsSideLine, IsShown}
pub use Rattle.pg_report.specs.Sides.{IsSideNeed, Binds, IsOpenFor, IsLastReason, NeedsPlies}
pub use Rattle.pg_report.specs.Within.{AreKnown, name_of, mark_text, item_text, place_text, are_few, are_some, captures_text, unmoved_text, known_line, stays, facts_text}
unfoldable pub use Rattle.pg_report.specs.Within.{list_text}
pub use Rattle.pg_report.specs.declared.fault.RunFault.{RunFault}
pub use Rattle.pg_report.specs.declared.sides.Reason.{Reason}
pub use Rattle.pg_report.specs.declared.within.Naming.TheVariants.{Squares, Men}
pub use Rattle.pg_texts.proofs.OutcomeLemmas.{on_ok}
