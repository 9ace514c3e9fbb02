use Rattle.std.proofs.Common.{◌≡◌, ◌≤◌, ◌*◌, List, length, false}
use Rattle.std.specs.List.{flat_map}
use Rattle.std.specs.Io.KnownBytes.{Consumes}
use Rattle.pg_certificate.specs.declared.record.Record.{Record}
use Rattle.pg_certificate.specs.Spelling.{spelling, longest_record}
use Rattle.pg_certificate.specs.Reader.{to_come}
use Rattle.bench_checks.proofs.records.count_expansions.Given as goal

abbrev pub invariant-loop-read : goal.invariant-loop-read
invariant-loop-read g l = record {
  counted : l.expansions ≤ l.read;
  runs : l.reader.failed ≡ false;
  taken : (records : List Record) × (length records ≡ l.read) × Consumes (g.S.Source.left l.fn.source) (to_come l.reader (g.S.Source.left l.source)) (flat_map spelling records) × (length (flat_map spelling records) ≤ longest_record * l.read);
}
