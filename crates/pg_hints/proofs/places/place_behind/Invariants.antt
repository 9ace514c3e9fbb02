use Rattle.std.proofs.Common.{◌≡◌, ◌≤◌, take}
use Rattle.pg_hints.specs.Places.{place_behind}
use Rattle.pg_hints.proofs.places.place_behind.Given as goal

-- the bytes so far are passed
abbrev pub invariant-loop-byte : goal.invariant-loop-byte
invariant-loop-byte l = record {
  place : l.place ≡ place_behind (take l.byte-index l.text);
  line : l.place.line ≤ l.byte-index;
  byte : l.place.byte ≤ l.byte-index;
}
