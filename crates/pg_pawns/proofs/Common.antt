-- The names that the lemmas and answers of this crate share.
pub use Rattle.std.proofs.Common.{◌≡◌, ℕ, ◌+◌, ◌<◌, ◌&&◌, not, get_or, refl, ap, ◌∙◌, nat_le, ◌↔◌, Bool, IsTrue, ◌-◌, ◌≤◌, true, false, List, sym, subst, arith, ◌*◌}
pub use Rattle.std.specs.Prelude.{sum}
pub use Rattle.pg_board.specs.Bits.{has, has-bits_below}
unfoldable pub use Rattle.pg_board.specs.Bits.{bits_below}
pub use Rattle.pg_board.specs.Men.{man, is_man}
pub use Rattle.pg_board.specs.Placement.{Placement, get}
pub use Rattle.pg_board.specs.Squares.{file, rank}
pub use Rattle.pg_board.specs.Tally.{count_below, total}
pub use Rattle.pg_board.specs.declared.man.Color.{Color}
pub use Rattle.pg_board.specs.declared.man.Kind.TheVariants.{Pawn}
pub use Rattle.pg_board.specs.declared.man.Man.{Man}
pub use Rattle.pg_captures.specs.Counting.{of_color, men, any_pawn}
pub use Rattle.pg_captures.specs.Owed.{victims}
pub use Rattle.pg_captures.specs.PriceLists.{PriceList, price, IsFor, number_among, list_of}
pub use Rattle.pg_captures.specs.lemmas.OwedLemmas.{owed_below, owed_below_less}
pub use Rattle.pg_captures.specs.lemmas.PlaceLemmas.{pawn_like, marks_pawns, place_first, index_low, index_within, price_at, index_next, seen_next, all_last}
pub use Rattle.pg_pawns.specs.PawnFiles.{pawn_left, pawn_right, shift, PawnFilesFor, line_need}
pub use Rattle.pg_pawns.specs.inner.PriceTests.{IsAhead}
unfoldable pub use Rattle.pg_pawns.specs.inner.PriceTests.{PairFits, SourceFits, AllFit}
pub use Rattle.pg_position.specs.Geometry.{apart}
pub use Rattle.pg_position.specs.Position.{Stands}
