-- The names that the lemmas and answers of this crate share.
pub use Rattle.std.proofs.Common.{◌≡◌, ◌∙◌, List, subst, ap, ◌↔◌, ◌⊎◌, inl, inr, ℕ, Vec, Global, sym, codes, ◌≢◌, ◌≤◌, Bool, [], ◌∷◌, ◌++◌, refl, arith, max, ◌-◌, length, take, true, false, rules}
pub use Rattle.std.proofs.KnownBytes.{Appends-nil, Appends-trans, Appends-kept}
pub use Rattle.std.specs.Io.KnownBytes.{Appends, Keeps, append_known}
pub use Rattle.std.specs.Prelude.{Option, Some, option_map, unwrap_or, IsFalse, None, IfSome, Result, Ok, Err, IfOk, IfErr, drop, All, IsTrue, OnOk}
pub use Rattle.std.specs.Str.Parse.{ParsesUnsigned, ExplainsUnsignedError, HasUnsignedDigitsIfOk}
pub use Rattle.clap.proofs.WalkLemmas.{first_value-rows, one_text-rows}
pub use Rattle.clap.specs.Words.{Row, Text, subcommand_name_of, subcommand_rows_of, ReadsOne, first_of, first_value, rows_of, found_of, one_of}
pub use Rattle.pg_board.specs.Placement.{Placement}
pub use Rattle.pg_certificate.specs.Pushing.{AddsSome}
pub use Rattle.pg_checker.specs.Cuts.{rules_by, any_rules_by}
pub use Rattle.pg_checker.specs.Opening.{OpenedState, bytes_of}
pub use Rattle.pg_checker.specs.Terms.{Terms, terms}
pub use Rattle.pg_checker.specs.declared.fault.ProblemFault.{ProblemFault}
pub use Rattle.pg_checker.specs.declared.problem.Problem.{Problem}
pub use Rattle.pg_cli.specs.Answers.{IsCertificateOf, IsNamedBy, OfGiven, HasList, IsGivenBy}
pub use Rattle.pg_cli.specs.Asking.{IsAskedBy, IsOfWords, IsOpenedBy, refuses_as_asked, says_as_asked}
pub use Rattle.pg_cli.specs.Ending.{IsRefusedWith, IsSearchRefused, IsUnready, refuses}
pub use Rattle.pg_cli.specs.Judging.{AreJudged, EndsRun, IsBad, IsCutOff, IsFindingStatus, IsJudged, IsRowStatus, IsRuled, GivesList, IsPgnName, IsReadAs, IsTextJudged}
pub use Rattle.pg_cli.specs.Runs.{IsOfFile, IsOfGiven, IsOfInput, IsOfList, IsOfProblem, IsOfText, IsRefusedFor, IsSearchRefusal, IsUnchecked, IsUnlisted, IsListRefused, IsReadFault, IsUnshown, IsOfSink, why_refusal, AreMet, IsFoundRefusal, IsGivenUp, search_refusal}
pub use Rattle.pg_cli.specs.Solving.{IsSolvedBeside, IsSolvedBoard, IsSolvedWith, games_of}
pub use Rattle.pg_cli.specs.Words.{name_of, OfCommand, IsChecked, IsSpelled, says, says_of_certificate, says_of_problem, says_of_words, spelled, IsAsked, IsNumber}
pub use Rattle.pg_cli.specs.declared.commands.Command.{Command}
pub use Rattle.pg_cli.specs.declared.refusals.Refusal.{Refusal}
pub use Rattle.pg_cli.specs.declared.refusals.Refusal.TheVariants.{Open, Read, Memory, Tariffs, Pgn, Show, Check, Answer}
pub use Rattle.pg_cooks.specs.Cooks.{IsRefuted, IsCooksReport}
pub use Rattle.pg_cooks.specs.Standing.{IsStanding, IsGamesReport}
pub use Rattle.pg_fen.specs.DiagramText.{diagram_of}
pub use Rattle.pg_fen.specs.Fields.{fields}
pub use Rattle.pg_fen.specs.Lengths.{length_of}
pub use Rattle.pg_files.specs.declared.faults.FileFault.{FileFault}
pub use Rattle.pg_guide.specs.Why.{IsOneLine, IsWhyFault}
unfoldable pub use Rattle.pg_guide.specs.Why.{AddsRight}
pub use Rattle.pg_judge.specs.Entries.{IsEntry}
pub use Rattle.pg_judge.specs.declared.entry.Entry.{Entry}
pub use Rattle.pg_judge.specs.declared.ruling.Finding.{Finding}
unfoldable pub use Rattle.pg_pgn.specs.Writing.{IsPgnText}
pub use Rattle.pg_position.specs.declared.moves.Move.{Move}
pub use Rattle.pg_report.specs.Run.{Failures, of_problem, failures}
pub use Rattle.pg_report.specs.declared.fault.AnswerRunFault.{AnswerRunFault}
pub use Rattle.pg_san.specs.GameText.{lines}
pub use Rattle.pg_san.specs.Listing.{IsListing, IsTextFault}
pub use Rattle.pg_san.specs.TextLeft.{lines_left, length_left}
pub use Rattle.pg_searcher.specs.declared.fault.SearchFault.{SearchFault}
pub use Rattle.pg_streams.specs.Buffer.{sink_of, IsHandedOn}
pub use Rattle.pg_streams.specs.declared.gathered.Gathered.{Gathered}
pub use Rattle.pg_tariff_files.specs.Files.{IsBegun, IsUnread}
pub use Rattle.pg_texts.specs.MovesText.{SpellsPosition, IsMovesFault, IsMovesText}
pub use Rattle.pg_texts.specs.Report.{IsReport}
