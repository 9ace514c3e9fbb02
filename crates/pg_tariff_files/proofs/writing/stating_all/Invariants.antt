use Rattle.std.proofs.Common.{get_or}
use Rattle.pg_tolls.specs.Stated.{stated}
use Rattle.pg_tariff_files.specs.Files.{AreStated, nothing}
use Rattle.pg_tariff_files.proofs.writing.stating_all.Given as goal

abbrev pub invariant-loop-tariff : goal.invariant-loop-tariff
invariant-loop-tariff l = AreStated l.bytes.items (λ i. stated (get_or l.tariffs i nothing)) l.tariff-index
