-- The names that the lemmas and answers of this crate share.
pub use Rattle.std.proofs.Common.{◌≡◌, ◌≢◌, ℕ, ◌+◌, inl, inr, List, [], ◌∷◌, ◌++◌, Some, None, length, refl, sym, ap, subst, ◌∙◌, arith, Ok, Err, false, ◌<◌, ◌≤◌, Option, get_or, drop, suc, codes, ◌/◌, Bool, true, take, ◌-◌, length-drop, append_assoc, ◌%◌, ◌^◌, append-nil, length-append, rules}
pub use Rattle.std.proofs.KnownBytes.{Appends-trans, Appends-nil}
pub use Rattle.std.proofs.Math.Seq.{drop-append_seam}
pub use Rattle.std.proofs.lemmas.Bool.{ltb-true, cases_lt, and_parts, not-true, or_right}
pub use Rattle.std.proofs.lemmas.Bool.Decides.{eqb_tells, nat_tests}
pub use Rattle.std.proofs.lemmas.List.{drop_all, length-map, take_at, take_more, take_all, take-append-drop, length-take-le, nil_from_length}
pub use Rattle.std.specs.Char.{is_ascii_digit}
pub use Rattle.std.specs.Io.KnownBytes.{Appends}
pub use Rattle.std.specs.List.{prefix_len}
pub use Rattle.std.specs.Prelude.{IfErr, All, OnOk, map, ltb, if◌then◌else◌, ◌==◌, ◌||◌, nat_lt, IfOk, ◌&&◌, not, zero, slice_get, string_bytes}
pub use Rattle.pg_certificate.specs.Pushing.{AddsSome}
pub use Rattle.pg_fen.specs.Lengths.{length_text}
pub use Rattle.pg_fen.specs.PlacementText.{placement_text}
pub use Rattle.pg_pgn.specs.Ends.{IsEndText, IsStillAfter, last_of, AreEndTexts}
unfoldable pub use Rattle.pg_pgn.specs.Ends.{Plays}
pub use Rattle.pg_pgn.specs.Letters.{written}
unfoldable pub use Rattle.pg_pgn.specs.Letters.{english}
pub use Rattle.pg_pgn.specs.Pgn.{Reader, at_game, sign_of, said, IsSignFault, IsFaultAt, IsRead, at_head, ended, head, moved, all_games, sign_by, word_sign, is_mark, behind_number}
unfoldable pub use Rattle.pg_pgn.specs.Pgn.{Goes, Lead, IsFile, IsFormFault, IsWordFault, IsFirstFault, without_number}
pub use Rattle.pg_pgn.specs.Places.{column_from, line_from, before}
pub use Rattle.pg_pgn.specs.Problems.{IsName, IsProblem, field_text, AreProblems}
pub use Rattle.pg_pgn.specs.Steps.{IsCause, IsOpen, Tells, AreLegal, open_fault, at}
pub use Rattle.pg_pgn.specs.Tokens.{StartsWith, IsUnclosed, body, more_len, without_mark, hidden_len, kind_at, is_word, is_word_byte, is_gap}
unfoldable pub use Rattle.pg_pgn.specs.Tokens.{AreTokens, kind_of, tag_from, tag_name, tag_value}
pub use Rattle.pg_pgn.specs.Writing.{gap, spaced, tags, columns, number_text, number_columns, AddsPly, AddsMoves, AddsAllMoves}
unfoldable pub use Rattle.pg_pgn.specs.Writing.{AreMoves, IsGameText, AreFurther, IsPgnText, AreShort}
pub use Rattle.pg_pgn.specs.declared.fault.FormFault.{FormFault}
pub use Rattle.pg_pgn.specs.declared.fault.PgnFault.{PgnFault}
pub use Rattle.pg_pgn.specs.declared.fault.PgnFault.TheVariants.{At, Form, Memory}
pub use Rattle.pg_pgn.specs.declared.letters.Letters.{Letters}
pub use Rattle.pg_pgn.specs.declared.letters.Letters.TheVariants.{English}
pub use Rattle.pg_pgn.specs.declared.reading.Cause.{Cause}
pub use Rattle.pg_pgn.specs.declared.signs.Sign.{Sign}
pub use Rattle.pg_pgn.specs.declared.signs.Sign.TheVariants.{Nothing, Heads, Fen, SetUp, Opening, Closing, Moves}
pub use Rattle.pg_pgn.specs.declared.tokens.TokenKind.{TokenKind}
pub use Rattle.pg_pgn.specs.declared.tokens.TokenKind.TheVariants.{Gap, LineEnd, Comment, LineComment, Tag, Glyph, Opens, Closes, Star, Word}
pub use Rattle.pg_position.proofs.ArrayLemmas.{array_position}
pub use Rattle.pg_position.proofs.FutureLemmas.{one_result, legal_position}
pub use Rattle.pg_position.specs.Array.{array_state}
pub use Rattle.pg_position.specs.Game.{IsGame}
pub use Rattle.pg_position.specs.Position.{IsPosition, Stands}
pub use Rattle.pg_position.specs.Step.{Legal, IsLegal}
pub use Rattle.pg_position.specs.declared.moves.Move.{Move}
pub use Rattle.pg_position.specs.declared.state.State.{State}
pub use Rattle.pg_san.specs.GameText.{is_dot, digits_len, dots_len}
unfoldable pub use Rattle.pg_san.specs.Games.{IsFromArray}
pub use Rattle.pg_san.specs.Matching.{IsReading}
pub use Rattle.pg_san.specs.Writing.{IsSan, IsForm, IsSignOf}
pub use Rattle.pg_san.specs.declared.fault.SanFault.{SanFault}
pub use Rattle.pg_texts.proofs.ItemLemmas.{no_texts, one_text_more, all_texts}
pub use Rattle.pg_texts.proofs.OutcomeLemmas.{on_ok}
pub use Rattle.pg_texts.proofs.ReportLemmas.{listed_game, no_lines, one_line_more, all_lines}
pub use Rattle.pg_texts.specs.Movetext.{IsMovetext}
pub use Rattle.pg_texts.specs.Report.{AddsLine, labelled_text, line_text, AreGameLines}
pub use Rattle.std.proofs.Math.Bool.{and-false}
pub use Rattle.pg_san.proofs.GameLemmas.{front_at}
