use Rattle.pg_tolls.proofs.Common.{◌≡◌, ◌<◌, ℕ, None, length, State, IsPartyOf, HasLine}
use Rattle.pg_tolls.proofs.bills.bill_of.Given as goal

abbrev pub invariant-loop-i : goal.invariant-loop-i
invariant-loop-i l = record {
  long : length l.bill.leasts ≡ 16;
  rows : length l.bill.rows ≡ 16;
  size : l.bill.size ≡ l.party.men.count;
  lines : (p : State) → IsPartyOf l.half p l.party → (q : ℕ) → q < l.i → HasLine l.half p l.party None l.bill q;
}
