use Rattle.pg_fen.proofs.Common.{◌≡◌, ◌≤◌, drop, min, IsTrue, all_ascii_digits, digits_value, digits_value_after}
use Rattle.pg_fen.proofs.numbers.number_up_to.Given as goal

abbrev pub invariant-loop-d : goal.invariant-loop-d
invariant-loop-d l = record {
  small : l.n ≤ l.most;
  digits : IsTrue (all_ascii_digits (drop l.d-index l.digits));
  same : min l.most (digits_value_after 10 l.n (drop l.d-index l.digits)) ≡ min l.most (digits_value 10 l.digits);
}
