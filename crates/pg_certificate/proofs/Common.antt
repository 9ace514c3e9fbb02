-- The names that the lemmas and answers of this crate share.
pub use Rattle.std.proofs.Common.{◌≡◌, ◌≢◌, ℕ, ◌+◌, ◌<◌, ◌⊎◌, inl, inr, List, [], ◌∷◌, ◌++◌, length, Result, Ok, Err, refl, sym, ap, subst, ◌∙◌, arith, Option, ◌≤◌, true, false, ltb, take, drop, ◌-◌, Bool, cond, eqb, ◌&&◌, get_or, Some, None, zero, suc, ◌*◌, drop-drop, replicate, ◌↔◌, IsTrue, slice_range, ◌^◌}
pub use Rattle.std.proofs.KnownBytes.{Appends-nil, Appends-trans, Consumes-trans}
pub use Rattle.std.proofs.Math.Nat.{suc-mul, zero-mul, mul-le-mul_right}
pub use Rattle.std.proofs.Math.Seq.{take-add}
pub use Rattle.std.proofs.lemmas.Bool.{cases_lt, lt-ltb, le-ltb, eqb-true}
pub use Rattle.std.proofs.lemmas.Bool.Decides.{eqb_tells}
pub use Rattle.std.proofs.lemmas.List.{append-nil, append_assoc, get_or-append-add, length-append, length-take, take-append-drop, take_rest, length-take-le, length-drop, nil_from_length, take_at, drop_at, length-replicate}
pub use Rattle.std.proofs.lemmas.Nat.{be_bytes_4, from_be_bytes-to_be_bytes_4}
pub use Rattle.std.specs.Int.{w32, from_be_bytes, to_be_bytes}
pub use Rattle.std.specs.Io.KnownBytes.{Appends, Consumes, prepend_known}
pub use Rattle.std.specs.Prelude.{All, slice_index, IfSome}
pub use Rattle.pg_board.specs.declared.man.Color.{Color}
pub use Rattle.pg_certificate.specs.Laws.{RefusesWhatIsNoHeader, IsCutShort, IsUnknownAt}
pub use Rattle.pg_certificate.specs.Reader.{Leaves, to_come, ReaderState}
pub use Rattle.pg_certificate.specs.Reading.{◌>>=◌, header_of, header_or_magic, header_at, version_named, version_of, lists_of, byte_at, byte_from, exactly, lists_at, color_of, outline_at, number_at, priced_at, record_at}
pub use Rattle.pg_certificate.specs.Spelling.{AreBytes, header_spelling, IsHeader, IsVersion, IsPriceList, spelling, color_byte, longest_record, ArePrices, IsRecord, IsRecordOf, list_spelling}
pub use Rattle.pg_certificate.specs.Writer.{written}
pub use Rattle.pg_certificate.specs.declared.fault.ReadFault.{ReadFault}
pub use Rattle.pg_certificate.specs.declared.fault.ReadFault.TheVariants.{Truncated, UnknownRecord, Magic}
pub use Rattle.pg_certificate.specs.declared.outline.Outline.{Outline}
pub use Rattle.pg_certificate.specs.declared.record.Header.{Header}
pub use Rattle.pg_certificate.specs.inner.Outlines.{lists_spelling, IsOutline, outline_spelling, AreListsOf}
pub use Rattle.pg_price_lists.specs.PriceLists.{PriceList, list_of}
pub use Rattle.pg_price_lists.specs.PriceRecords.{sources, targets, CanAdd, u_at, v_at}
