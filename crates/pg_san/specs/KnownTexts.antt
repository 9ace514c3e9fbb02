-- Texts of moves that are kept.
use Rattle.std.specs.Prelude.{◌≡◌, true}
use Rattle.pg_position.specs.Step.{Legal}
use Rattle.pg_san.specs.declared.written.Written.{Written}
use Rattle.pg_san.specs.Writing.{IsSan}

-- what is kept is told of its position and its move: the move leads to the next position, and this is its text
unfoldable pub IsWritten : Written → Type 0
IsWritten w = w.told ≡ true → Legal w.position w.m w.next × IsSan w.position w.m w.text.bytes
