use Rattle.pg_certificate.proofs.Common.{◌≡◌, ◌-◌, ◌≤◌, length, lists_of}
use Rattle.pg_certificate.proofs.PriceLoops.{Made}
use Rattle.pg_certificate.proofs.outline.put_prices.Given as goal

abbrev pub invariant-loop : goal.invariant-loop
invariant-loop l = record {
  started : 1 ≤ l.counter;
  bound : l.counter ≤ l.end;
  held : length l.prices ≡ l.counter;
  made : Made l.prices (l.end - l.counter) l.outline.sources l.outline.targets l.at l.bytes (lists_of l.end l.outline.sources l.outline.targets l.bytes);
}
