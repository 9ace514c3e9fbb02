-- The names that the lemmas and answers of this crate share.
pub use Rattle.std.proofs.Common.{add-one, suc, Bool, ◌≡◌, ℕ, ◌+◌, ◌<◌, Some, List, ◌∷◌, length, get_or, drop, drop-cons, cond, eqb, sym, ap, ◌∙◌, eq-eqb, true, ◌≤◌, take, refl, ◌⊎◌, ◌↔◌, inl, inr, false, IsTrue, subst, ◌&&◌, Option, None, ap₂, ◌*◌, ◌-◌}
pub use Rattle.std.specs.Prelude.{sum}
pub use Rattle.pg_board.specs.Bits.{has}
pub use Rattle.pg_board.specs.Men.{man, other, is_of, passes, color_eq, kind_eq, man_eq, is_man}
pub use Rattle.pg_board.specs.Placement.{Placement, get}
pub use Rattle.pg_board.specs.Squares.{is_light, is_dark}
pub use Rattle.pg_board.specs.Tally.{one, count_of, count_below}
unfoldable pub use Rattle.pg_board.specs.Tally.{tally, tally_below}
pub use Rattle.pg_board.specs.declared.man.Color.{Color}
pub use Rattle.pg_board.specs.declared.man.Kind.{Kind}
pub use Rattle.pg_board.specs.declared.man.Kind.TheVariants.{Pawn, Knight, Bishop, Rook, Queen, King}
pub use Rattle.pg_board.specs.lemmas.Decisions.{answer_is}
pub use Rattle.pg_captures.specs.Counting.{men, any_man, of_color, any_pawn}
unfoldable pub use Rattle.pg_captures.specs.Counting.{in_class}
pub use Rattle.pg_captures.specs.Decided.{dec_captures, dec_promotions}
pub use Rattle.pg_captures.specs.Lists.{first_of}
pub use Rattle.pg_captures.specs.Owed.{plies_left, victims, CapturesFor}
unfoldable pub use Rattle.pg_captures.specs.Owed.{CapturesHolds}
pub use Rattle.pg_captures.specs.declared.classes.Class.TheVariants.{Queens, Rooks, Knights, LightBishops, DarkBishops}
pub use Rattle.pg_captures.specs.lemmas.TakingLemmas.{own_left, one_less, none_less}
pub use Rattle.pg_position.proofs.FutureLemmas.{one_result, legal_position}
