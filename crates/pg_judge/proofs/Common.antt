-- The names that the lemmas and answers of this crate share.
pub use Rattle.std.proofs.Common.{◌≡◌, ℕ, List, [], ◌∷◌, inr, subst, ap, ◌∙◌, Some, ◌<◌, ◌≤◌, ◌++◌, length, sym, arith, ◌+◌, Option, refl, codes, decimal, rules}
pub use Rattle.std.specs.Io.KnownBytes.{Appends}
pub use Rattle.std.specs.Prelude.{slice_get}
pub use Rattle.pg_board.specs.Placement.{Placement}
pub use Rattle.pg_certificate.specs.Pushing.{AddsSome, Pushes}
pub use Rattle.pg_checker.specs.Answer.{IsSolution, IsExactAnswer, AreSolutions}
pub use Rattle.pg_cooks.specs.Cooks.{foreign_text, IsCookText, IsShorterText}
pub use Rattle.pg_cooks.specs.Parting.{apart_text, pair_text}
pub use Rattle.pg_judge.specs.Entries.{Begins, IsAuthor, IsEntryFault, IsGamesFault, IsName}
pub use Rattle.pg_judge.specs.Findings.{IsBeside, IsListed, last_text, IsTextOf}
pub use Rattle.pg_judge.specs.Rows.{ArePair, AreShown, IsDetail, IsNth, IsOther, IsRowOf, IsSecond, IsTold, IsWritable, IsWritten, below_text, cooks_text, head_text, known_text}
pub use Rattle.pg_judge.specs.Ruling.{IsFinding, IsGiven, IsSaidSound, IsSound}
pub use Rattle.pg_judge.specs.declared.entry.Entry.{Entry}
pub use Rattle.pg_judge.specs.declared.ruling.Evidence.{Evidence}
pub use Rattle.pg_judge.specs.declared.ruling.Finding.{Finding}
pub use Rattle.pg_judge.specs.declared.ruling.Finding.TheVariants.{Settled, NotSound, NotSettled}
pub use Rattle.pg_position.specs.declared.moves.Move.{Move}
pub use Rattle.pg_texts.proofs.OutcomeLemmas.{on_ok}
pub use Rattle.pg_texts.specs.Movetext.{AddsLongest, IsLongestGame, IsMovetext}
pub use Rattle.pg_texts.specs.Report.{IsVerdict, line_text}
