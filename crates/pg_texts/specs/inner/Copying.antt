-- Records, copied from a source to a sink.
use Rattle.std.specs.Prelude.{◌≡◌, ℕ, false, List, length, All, Option, Result, Ok}
use Rattle.std.specs.List.{flat_map}
use Rattle.std.specs.Io.KnownBytes.{Consumes, Appends}
use Rattle.pg_certificate.specs.declared.record.Record.{Record}
use Rattle.pg_certificate.specs.Spelling.{spelling, IsRecordOf}
use Rattle.pg_certificate.specs.Reading.{record_at}
use Rattle.pg_certificate.specs.Reader.{ReaderState}
use Rattle.pg_certificate.specs.Writer.{WriterState}
use Rattle.pg_texts.specs.declared.fault.UpgradeFault.{UpgradeFault}
use Rattle.pg_texts.specs.Upgrade.{◌>>=◌}

-- a record of version 1 was taken from the bytes to come, and the same was written
pub record CopiesOne (before after : Option (List ℕ)) (old new : Option (List ℕ)) : Type 0 where
  pub node : Record
  pub fits : IsRecordOf 1 node
  pub taken : Consumes before after (spelling node)
  pub written : Appends old new (spelling node)

-- n records of version 1 were taken from the bytes to come, and the same were written
pub record Copies (n : ℕ) (before after : Option (List ℕ)) (old new : Option (List ℕ)) : Type 0 where
  pub nodes : List Record
  pub fit : All (λ x. IsRecordOf 1 x) nodes
  pub many : length nodes ≡ n
  pub taken : Consumes before after (flat_map spelling nodes)
  pub written : Appends old new (flat_map spelling nodes)

-- neither side has refused, and records are read by version 1
pub record IsCopying (reader : ReaderState) (writer : WriterState) : Type 0 where
  pub reads : reader.failed ≡ false
  pub version : reader.version ≡ 1
  pub writes : writer.failed ≡ false

-- one record, where one stands
abbrev pub one_in : List ℕ → Result ℕ UpgradeFault
one_in bytes = record_at 1 bytes >>= λ x. Ok 1
