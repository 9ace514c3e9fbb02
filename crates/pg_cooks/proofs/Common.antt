-- The names that the lemmas and answers of this crate share.
pub use Rattle.std.proofs.Common.{◌≡◌, ◌≢◌, ℕ, ◌<◌, ◌≤◌, List, [], ◌∷◌, inl, inr, length, refl, sym, subst, arith, ◌∙◌, ◌↔◌, Bool, true, false, IsTrue, OnOk, ap, ◌+◌, Option, Some, get_or, drop, ◌++◌, codes, decimal, rules}
pub use Rattle.std.proofs.KnownBytes.{Appends-nil, Appends-trans}
pub use Rattle.std.specs.Io.KnownBytes.{Appends}
pub use Rattle.std.specs.List.{Contains}
pub use Rattle.std.specs.Prelude.{Result, Ok, Err, is_ok, slice_get, unwrap_or}
pub use Rattle.pg_board.specs.Placement.{Placement}
pub use Rattle.pg_certificate.specs.Pushing.{AddsSome}
pub use Rattle.pg_checker.specs.Answer.{IsSolution, IsExactAnswer, AreSolutions}
pub use Rattle.pg_cooks.specs.Cooks.{IsCookAnswer, IsRefuted, IsTold, IsAnswerText, IsCooksReport, IsEndText, IsFoundText, foreign_text, within_text, IsCookText, cook_text, unsound_text, IsShorterText}
pub use Rattle.pg_cooks.specs.Parting.{agrees, apart_text, between_text, is_same, pair_text, parting, plays}
pub use Rattle.pg_cooks.specs.Standing.{IsStanding, IsKnownText, IsGamesReport, standing_text}
pub use Rattle.pg_cooks.specs.declared.finding.CookAnswer.{CookAnswer}
pub use Rattle.pg_cooks.specs.declared.finding.CookAnswer.TheVariants.{Cook, Shorter, NotFound}
pub use Rattle.pg_cooks.specs.declared.standing.Standing.{Standing}
pub use Rattle.pg_position.specs.declared.moves.Move.{Move}
pub use Rattle.pg_texts.proofs.OutcomeLemmas.{on_ok}
pub use Rattle.pg_texts.specs.Report.{AddsLine, AreGameLines, head_text, line_text}
