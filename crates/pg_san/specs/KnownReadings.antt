-- Readings of texts that are kept, and a reading that goes on from them.
use Rattle.std.specs.Prelude.{ℕ, ◌≤◌, List, take, Result, Ok, Err}
use Rattle.pg_position.specs.declared.state.State.{State}
use Rattle.pg_position.specs.declared.moves.Move.{Move}
use Rattle.pg_position.specs.Step.{Legal}
use Rattle.pg_san.specs.declared.known.Known.{Known}
use Rattle.pg_san.specs.declared.fault.SanFault.{SanFault}
use Rattle.pg_san.specs.Matching.{IsReading}

-- what reading the text in p gives, and q is where the move leads
abbrev pub IsStepRead : State → List ℕ → State → Result Move SanFault → Type 0
IsStepRead p text q (Ok m) = IsReading p text (Ok m) × Legal p m q
IsStepRead p text q (Err e) = IsReading p text (Err e)

-- the text that is kept names the move in the position, and it leads to the next one; a length above 8 says nothing
unfoldable pub IsKnown : Known → Type 0
IsKnown k = k.length ≤ 8 → IsReading k.position (take k.length k.text) (Ok k.m) × Legal k.position k.m k.next
