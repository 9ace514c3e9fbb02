-- The names that the lemmas and answers of this crate share.
pub use Rattle.std.proofs.Common.{◌≡◌, ℕ, ◌+◌, ◌-◌, ◌/◌, ◌%◌, ◌≤◌, ◌<◌, Bool, true, false, cond, List, [], ◌∷◌, ◌++◌, length, get_or, refl, sym, ap, subst, ◌∙◌, arith, inl, inr, zero-add, ◌≢◌, zero, suc, ◌⊎◌, Some, None, Option, take, drop, ◌*◌, ◌^◌, eqb, nat_eq, replicate, append_assoc, rules}
pub use Rattle.std.proofs.lemmas.Bool.{cases_lt, cases_eq, and_parts, and_from}
pub use Rattle.std.proofs.lemmas.Bool.Decides.{nat_tests, Decides-eqb}
pub use Rattle.std.proofs.lemmas.Fmt.{decimal_digit, decimal_step, length-decimal-le, digits_decimal, digits_value-decimal, decimal_is_IsNumeral, decimal_nonempty}
pub use Rattle.std.proofs.lemmas.List.{length-append, length-map, nil_from_length, length-take, length-drop, at_drop_more, take-append-drop, append-nil, replicate_more, ext_get_or, take_more, length-replicate, get_or_push, get_or-replicate, get_or_past, take_all, length-set}
pub use Rattle.std.proofs.lemmas.List.Concat.{flat_map-append, flat_map-cons, get_or-flat_map}
pub use Rattle.std.proofs.lemmas.List.Elements.{All-cons, All-nil, All-head, All-tail}
pub use Rattle.std.proofs.lemmas.List.Folds.{length-prefix_len, list_all-append, length-flat_map-take}
pub use Rattle.std.proofs.lemmas.List.FromFn.{get_or-map-range_with_len, fill_by_all, length-map-range_with_len, map-range_with_len_more}
pub use Rattle.std.proofs.lemmas.List.Splits.{slice_split-cons_no, slice_split-cons_yes, length-slice_split, slice_split_none, slice_split_at, join_with_byte-slice_split}
pub use Rattle.std.proofs.lemmas.List.Sums.{sum_by-append, sum_by-cons, prefix_len-le-length, AllPass-from_list_all, list_all-from_AllPass}
pub use Rattle.std.proofs.lemmas.Slice.Eq.{bytes_eq-Decides, slice_eq-Decides}
pub use Rattle.std.proofs.lemmas.Str.{encodes-chars, digit_value_digit}
pub use Rattle.std.proofs.lemmas.Str.Parse.{tells_all_ascii_digits, numerals_by_value}
pub use Rattle.std.specs.Char.{is_ascii_digit, digit_value, to_ascii_uppercase}
pub use Rattle.std.specs.Fmt.{decimal}
pub use Rattle.std.specs.List.{sum_by, slice_split, onto_first, list_all, filter, count_by, All, prefix_len, flat_map, range_with_len, join_with_byte}
pub use Rattle.std.specs.Option.{is_some, option_map}
pub use Rattle.std.specs.Prelude.{nat_lt, nat_le, ◌&&◌, IsUtf8, map, ◌↔◌, ◌==◌, not, min, ◌||◌, codes, Result, Ok, Err, slice_index, IsTrue}
pub use Rattle.std.specs.Str.{chars, all_ascii_digits, bytes_eq}
pub use Rattle.std.specs.Str.Parse.{digits_value_after, digits_value}
pub use Rattle.pg_board.specs.Men.{man, king_of, passes, is_man, kind_eq}
pub use Rattle.pg_board.specs.Placement.{Placement, get, empty, write, same_placement, put, get-placement_of}
pub use Rattle.pg_board.specs.Squares.{rank}
pub use Rattle.pg_board.specs.Tally.{one, count_below, count_of}
unfoldable pub use Rattle.pg_board.specs.Tally.{tally, tally_below}
pub use Rattle.pg_board.specs.declared.man.Color.{Color}
pub use Rattle.pg_board.specs.declared.man.Color.TheVariants.{White, Black}
pub use Rattle.pg_board.specs.declared.man.Kind.{Kind}
pub use Rattle.pg_board.specs.declared.man.Kind.TheVariants.{Pawn, Knight, Bishop, Rook, Queen, King}
pub use Rattle.pg_board.specs.declared.man.Man.{Man}
pub use Rattle.pg_board.specs.lemmas.Kinds.{each_man, each_kind}
pub use Rattle.pg_board.specs.lemmas.Placements.{get-empty, get-write_same, get-write_other, get-put_same, get-put_other}
pub use Rattle.pg_fen.specs.DetailText.{side_of, is_right, count_letter, no_letter_twice, are_rights, rights_in, rights_of, passed_of, is_number, number_of, with_field}
unfoldable pub use Rattle.pg_fen.specs.DetailText.{details_of}
pub use Rattle.pg_fen.specs.DiagramText.{IsDiagram, if_read}
unfoldable pub use Rattle.pg_fen.specs.DiagramText.{diagram_of}
pub use Rattle.pg_fen.specs.Fields.{is_field_gap, fields, is_field_byte}
pub use Rattle.pg_fen.specs.Grammar.{IsSideText, Tells, AreRightLetters, AreRightsText, IsPassedText, IsNumberText, AreDetailTexts, IsSixFieldText, IsPositionText, IsPlacementText, IsOneFieldText, IsDiagramText, IsRankText, IsSymbol}
pub use Rattle.pg_fen.specs.Lengths.{front_digits, after_digits, half_of, plies_of, length_or_fault, IsEnd, IsLength}
unfoldable pub use Rattle.pg_fen.specs.Lengths.{length_of, length_text}
pub use Rattle.pg_fen.specs.Letters.{man_of, kind_of_letter, letter_of, letter_of_kind, in_case}
pub use Rattle.pg_fen.specs.Packing.{cell_code, packed_byte}
unfoldable pub use Rattle.pg_fen.specs.Packing.{packed_of}
pub use Rattle.pg_fen.specs.PlacementText.{is_run, is_slash, width_of, width_of_char, is_eight_wide, chars_are_eight_wide, ranks_fit, ranks_fit_by_chars, has_kings, is_edge, is_edge_pawn, has_no_edge_pawn, letters_fit, is_letter, slash, squares_of, squares, seen_at, run_text, cells_text, row_text, square_with}
unfoldable pub use Rattle.pg_fen.specs.PlacementText.{placed, read_placement, placement_text, row}
pub use Rattle.pg_fen.specs.PositionText.{both_read, game_of, IsGameOrBroken, IsGameRead}
unfoldable pub use Rattle.pg_fen.specs.PositionText.{game_parts}
pub use Rattle.pg_fen.specs.PositionWriting.{side_text, rights_text, passed_text, parts_of_game}
unfoldable pub use Rattle.pg_fen.specs.PositionWriting.{position_text}
pub use Rattle.pg_fen.specs.declared.details.Details.{Details}
pub use Rattle.pg_fen.specs.declared.fault.FenFault.{FenFault}
pub use Rattle.pg_fen.specs.declared.fault.FenFault.TheVariants.{Side, EnPassant, Number, Rank, Letter, Kings, PawnRank}
pub use Rattle.pg_fen.specs.declared.games.GameParts.{GameParts}
pub use Rattle.pg_fen.specs.inner.Cells.{number_at, cell_from}
pub use Rattle.pg_position.specs.Position.{IsPosition, IsFirstBroken}
unfoldable pub use Rattle.pg_position.specs.Position.{IsOnlyKing, HasOneKing, PawnsClause, IsPassed}
pub use Rattle.pg_position.specs.declared.rights.Rights.{Rights}
pub use Rattle.pg_position.specs.declared.state.State.{State}
