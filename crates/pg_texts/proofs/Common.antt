-- The names that the lemmas and answers of this crate share.
pub use Rattle.std.proofs.Common.{◌≡◌, ℕ, ◌+◌, ◌-◌, ◌*◌, List, [], ◌∷◌, Option, sym, subst, add-one, ◌<◌, ◌≤◌, Result, Ok, Err, arith, ◌++◌, Some, length, take, refl, ap, append_assoc, append-nil, ◌∙◌, get_or, suc, inl, inr, drop, length-append, zero, Bool, true, false, None, IfSome, All, rules}
pub use Rattle.std.proofs.KnownBytes.{Appends-nil, Appends-trans, Appends-kept, Consumes-trans, Consumes-kept}
pub use Rattle.std.proofs.lemmas.List.{take_more, take_all, take-append-drop, length-take-le, nil_from_length}
pub use Rattle.std.proofs.lemmas.Option.{get_or_from_slice_get}
pub use Rattle.std.specs.Io.KnownBytes.{Appends, Consumes, Keeps, IsAtEnd, prepend_known, append_known}
pub use Rattle.std.specs.List.{flat_map}
pub use Rattle.std.specs.Prelude.{OnErr, slice_get, OnOk, codes, decimal, IfOk, IfErr}
pub use Rattle.pg_board.specs.Placement.{Placement, get}
pub use Rattle.pg_certificate.specs.Pushing.{AddsSome}
pub use Rattle.pg_certificate.specs.Reader.{Leaves, to_come}
pub use Rattle.pg_certificate.specs.Reading.{more_at, record_at}
pub use Rattle.pg_certificate.specs.Spelling.{spelling, header_spelling, longest_record, IsHeader, color_byte, expand_byte, prices_spelling, IsRecordOf}
pub use Rattle.pg_certificate.specs.Writer.{written}
pub use Rattle.pg_position.specs.Position.{IsPosition}
pub use Rattle.pg_position.specs.declared.moves.Move.{Move}
pub use Rattle.pg_position.specs.declared.state.State.{State}
pub use Rattle.pg_san.specs.Games.{IsGames}
unfoldable pub use Rattle.pg_san.specs.Games.{IsFromArray}
pub use Rattle.pg_san.specs.KnownTexts.{IsWritten}
pub use Rattle.pg_san.specs.Writing.{IsSan}
pub use Rattle.pg_texts.specs.BoardText.{cell_of, rank_line}
unfoldable pub use Rattle.pg_texts.specs.BoardText.{squares_text, upper_lines}
unfoldable pub use Rattle.pg_texts.specs.MovesText.{AreMoveLines, SpellsPosition, IsRefusedAs}
pub use Rattle.pg_texts.specs.Movetext.{AddsLongest, space_text, number_text, IsLongestGame}
unfoldable pub use Rattle.pg_texts.specs.Movetext.{ArePlies, IsMovetext}
pub use Rattle.pg_texts.specs.Report.{AddsLine, IsVerdict, IsReport, line_text, labelled_text, verdict_text}
unfoldable pub use Rattle.pg_texts.specs.Report.{AreGameLines, head_text}
pub use Rattle.pg_texts.specs.inner.Copying.{CopiesOne, Copies, one_in, IsCopying}
pub use Rattle.pg_texts.specs.inner.Plies.{AddsPlies, AddsAllPlies, AddsPly, Stops, IsPlayedOut}
