use Rattle.std.proofs.Common.{◌≤◌, ◌/◌, min, length}
use Rattle.pg_tariff_files.specs.Files.{AreRead}
use Rattle.pg_tariff_files.proofs.stated.tariffs_of.Given as goal

abbrev pub invariant-loop-number : goal.invariant-loop-number
invariant-loop-number l = record {
  few : l.number ≤ min (length l.bytes / 130) 250;
  are : AreRead l.bytes l.tariffs.items l.number;
}
