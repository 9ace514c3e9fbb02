-- The names that the lemmas and answers of this crate share.
pub use Rattle.std.proofs.Common.{◌≡◌, ℕ, ◌<◌, ◌≢◌, ◌^◌, cond, eqb, Option, true, false, Some, None, sym, ap, ◌∙◌, refl, subst, arith, lt_of_le_of_lt, ltb, ltb-true, ltb-false, bit_or, count_ones, w64, ◌↔◌, zero, suc, ◌-◌, ◌/◌, ◌*◌, ◌%◌, Bool, ◌&&◌, ◌||◌, eqb-true, eq-eqb, bit_and, ◌⊎◌, inl, inr, ◌+◌, ◌≤◌, not}
pub use Rattle.std.proofs.lemmas.Bool.Decides.{Decides-eqb, Decides-at, Decides-or, Decides-and, Decides-not, Decides-like, same_from_decides}
pub use Rattle.std.proofs.lemmas.Nat.{and_le_l, or_lt, le_or_r, leading_top, xor_lt}
pub use Rattle.std.proofs.lemmas.Nat.Bits.{shr_and_one, ones_shl, bit_at_mask_inside, bit_at_mask_below, bit_at_not, bit_at_ones, bit_at-suc, bit_at_lowest}
pub use Rattle.std.specs.Int.{trailing_zeros, leading_zeros, bit_not}
pub use Rattle.pg_board.specs.Bits.{has, has-none, has-first, ones-count, has-and, has-or, has-set, bit_has, xor_out, has-last, same_sets, has-clear, has-bits_below}
unfoldable pub use Rattle.pg_board.specs.Bits.{bits_below}
pub use Rattle.pg_board.specs.Equality.{placement_eq_decides}
pub use Rattle.pg_board.specs.Men.{is_man, is_of, is_held, is_kind}
pub use Rattle.pg_board.specs.Placement.{Placement, placement_of, get, get-placement_of, empty, empty_is, write, write_is, get_off, same_placement, IsFirst, without}
pub use Rattle.pg_board.specs.Squares.{is_dark, is_light, file, rank}
pub use Rattle.pg_board.specs.declared.man.Color.TheVariants.{White, Black}
pub use Rattle.pg_board.specs.declared.man.Man.{Man}
pub use Rattle.pg_board.specs.declared.packed.Quarters.{Quarters}
pub use Rattle.pg_board.specs.declared.sets.Sets.{Sets}
pub use Rattle.pg_board.specs.inner.Packed.{unpacked, packed_sound, packed_shows, quarters_of, quarters_back}
pub use Rattle.pg_board.specs.inner.Sets.{man_in, IsSound, Replaces, Shows, shown, man_in-replaced, unlike, unlike_out, unlike_in, set_of, set_of_color, has-set_of, has_color, has-held, sets_of, sets_of-placement_of, AreWords, shows_itself}
