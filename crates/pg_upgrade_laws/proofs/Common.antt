-- The names that the lemmas and answers of this crate share.
pub use Rattle.std.proofs.Common.{◌≡◌, ℕ, zero, suc, ◌+◌, ◌-◌, ◌≤◌, inl, inr, true, false, eqb, cond, List, [], ◌∷◌, ◌++◌, length, Result, Ok, Err, refl, sym, ap, subst, ◌∙◌, append-nil, arith, Bool, All, ltb, take, drop, ◌≢◌, ◌<◌, ◌⊎◌, append_assoc, get_or}
pub use Rattle.std.proofs.lemmas.Bool.Decides.{eqb_tells}
pub use Rattle.std.proofs.lemmas.List.{length-append}
pub use Rattle.std.proofs.lemmas.List.Elements.{All-nil, All-cons, All-append, All-weaker}
pub use Rattle.std.specs.List.{flat_map}
pub use Rattle.pg_certificate.proofs.HeaderLaws.{headers_again, headers_only, headers_refused}
pub use Rattle.pg_certificate.proofs.RecordLaws.{records_taken, truncated_is_short, short_is_truncated, unknown_at, at_unknown}
pub use Rattle.pg_certificate.specs.Reading.{header_at, record_at, byte_at, exactly, number_at, header_of, header_or_magic}
pub use Rattle.pg_certificate.specs.Spelling.{AreBytes, header_spelling, IsRecordOf, IsHeader}
pub use Rattle.pg_certificate.specs.declared.fault.ReadFault.{ReadFault}
pub use Rattle.pg_certificate.specs.declared.record.Header.{Header}
pub use Rattle.pg_certificate.specs.declared.record.Record.{Record}
pub use Rattle.pg_checker.specs.Claims.{FitFrom, IsCertificate}
pub use Rattle.pg_checker.specs.Tree.{Tree, Trees, Leaf, Empty, First, Entry, Rules, closed, Fits, FitAll, spelling_all, records, records_all}
pub use Rattle.pg_texts.proofs.UpgradeLemmas.{Counted, AreRecords, behind, front_read, none_in, after_more, more_none, more_err}
pub use Rattle.pg_texts.specs.Upgrade.{Certificate1, certificate_bytes, with_digit_2, IsUpgraded, one_more, records_in, upgrade_of, upgrade_fault_of}
pub use Rattle.pg_texts.specs.declared.fault.UpgradeFault.TheVariants.{NotVersion1, Truncated, UnknownRecord, Budget}
pub use Rattle.pg_upgrade_laws.specs.UpgradeLaws.{IsLeftBehind, RefusesUpgrade, UpgradedIsCertified, CertifiedIsUpgraded}
