-- The names that the lemmas and answers of this crate share.
pub use Rattle.std.proofs.Common.{◌≡◌, ◌≢◌, ◌∙◌, ◌↔◌, ℕ, suc, ◌+◌, ◌-◌, ◌<◌, ◌≤◌, List, [], ◌∷◌, ◌++◌, Option, length, get_or, drop, refl, sym, ap, subst, arith, append_assoc, append-nil, length-append, add-one, zero, ◌&&◌, Bool, true, eqb, ltb, rules, take, inr}
pub use Rattle.std.proofs.lemmas.Bool.Decides.{nat_tests, Decides-below_and, Decides-eqb, Decides-ltb}
pub use Rattle.std.specs.Io.KnownBytes.{Appends}
pub use Rattle.std.specs.Prelude.{codes, decimal}
pub use Rattle.pg_board.specs.Placement.{Placement, get}
pub use Rattle.pg_certificate.proofs.GrowingLemmas.{grows_none, grows_more, grows_on}
pub use Rattle.pg_certificate.specs.Pushing.{AddsSome}
unfoldable pub use Rattle.pg_certificate.specs.Pushing.{Grows}
pub use Rattle.pg_checker.specs.Terms.{Terms, terms}
pub use Rattle.pg_fen.specs.Letters.{letter_of_kind, letter_of}
pub use Rattle.pg_page.specs.Board.{board_start, board_text, class_of, counts_text, man_text, square_text}
unfoldable pub use Rattle.pg_page.specs.Board.{men_text}
pub use Rattle.pg_page.specs.Escaping.{escaped}
pub use Rattle.pg_page.specs.Heading.{AreGameItems, IsGameItem, IsGameList, IsHead, answer_text, asked, caption_text, checked_text, end_words, front_text, headed_text, list_end, list_start, named_text, verdict_words}
unfoldable pub use Rattle.pg_page.specs.Heading.{AreMoveTexts}
pub use Rattle.pg_page.specs.Lines.{IsMoveText, letter_at}
pub use Rattle.pg_page.specs.Page.{AddsHead, Failures, HasAnswer, IsPageFault, IsShowingFault}
pub use Rattle.pg_page.specs.declared.style.TheConstants.{MEN, BEGIN}
pub use Rattle.pg_texts.proofs.OutcomeLemmas.{on_ok}
pub use Rattle.pg_san.proofs.GameLemmas.{front_at}
