use Rattle.std.proofs.Common.{◌≡◌, ℕ, ◌<◌, ◌+◌, length, get_or}
use Rattle.pg_board.specs.declared.man.Color.TheVariants.{White, Black}
use Rattle.pg_tolls.specs.Stated.{stated}
use Rattle.pg_tariff_files.specs.Files.{signed}
use Rattle.pg_tariff_files.proofs.stated.stating.Given as goal

abbrev pub invariant-loop-at : goal.invariant-loop-at
invariant-loop-at l = record {
  long : length l.bytes ≡ 130;
  white : (stated l.tariff).weight White ≡ get_or l.bytes 0 0;
  black : (stated l.tariff).weight Black ≡ get_or l.bytes 1 0;
  by_white : (q : ℕ) → q < l.at → (stated l.tariff).toll White q ≡ signed (get_or l.bytes (2 + q) 0);
  by_black : (q : ℕ) → q < l.at → (stated l.tariff).toll Black q ≡ signed (get_or l.bytes (66 + q) 0);
}
