use Rattle.std.proofs.Common.{◌≡◌, length}
use Rattle.pg_tariff_files.specs.Files.{AreTolls}
use Rattle.pg_tariff_files.proofs.stated.tolls_at.Given as goal

abbrev pub invariant-loop-q : goal.invariant-loop-q
invariant-loop-q l = record { long : length l.tolls ≡ 64; are : AreTolls l.bytes l.at l.tolls l.q }
