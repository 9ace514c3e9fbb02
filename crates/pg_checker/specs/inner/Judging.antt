-- What judging a record says, by code, against the walk.
use Rattle.std.specs.Prelude.{◌≡◌, ℕ, ◌+◌, Bool, List, [], Option, Some, None, ◌&&◌, nat_eq, Result, Ok, Err}
use Rattle.pg_position.specs.declared.state.State.{State}
use Rattle.pg_position.specs.declared.moves.Move.{Move}
use Rattle.pg_captures.specs.PriceLists.{PriceList}
use Rattle.pg_certificate.specs.declared.fault.ReadFault.{ReadFault}
use Rattle.pg_certificate.specs.declared.fault.ReadFault.TheVariants as reading
use Rattle.pg_certificate.specs.declared.record.Bare.{Bare}
use Rattle.pg_certificate.specs.Reader.{ReaderState, to_come}
use Rattle.pg_certificate.specs.Spelling.{record_of}
use Rattle.pg_checker.specs.Tree as tree
use Rattle.pg_checker.specs.Walk as walk
use Rattle.pg_checker.specs.inner.Machine.{entries_of, shape_of}
use Rattle.pg_checker.specs.inner.Steps.{Says, TakesFew}
use Rattle.pg_checker.specs.Chess.{read, stands_for}
use Rattle.pg_checker.specs.declared.halt.Halt.{Halt}
use Rattle.pg_checker.specs.declared.halt.Reason.{Reason}
use Rattle.pg_checker.specs.declared.machine.Names.{Names}
use Rattle.pg_checker.specs.declared.machine.Opening.{Opening}
use Rattle.pg_checker.specs.declared.machine.Opening.TheVariants as opening
use Rattle.pg_checker.specs.inner.Halting.{Stop, causes, stops}
use Rattle.pg_checker.specs.inner.Halting as stop

-- a refusal to read a record as a stop
abbrev pub stop_of : ReadFault → Stop
stop_of (reading.UnknownRecord b) = stop.Because (tree.UnknownRecord b)
stop_of reading.Truncated = stop.Because tree.Truncated
stop_of reading.Magic = stop.Because tree.Truncated
stop_of reading.Trailing = stop.Because tree.Truncated
stop_of reading.Read = stop.Read
stop_of reading.Failed = stop.Read

-- a walk from a state to a shape and a state
abbrev pub Judgement : Type 0
Judgement = walk.WalkState State → Result (walk.Shape × walk.WalkState State) (tree.Cause Move)

-- a node that ends at once and leaves the state, or a cause, in each state
abbrev pub EndsAs : Result (Unit {0}) (tree.Cause Move) → Result (walk.Shape × walk.WalkState State) (tree.Cause Move) → walk.WalkState State → Type 0
EndsAs (Ok u) answer s = answer ≡ Ok (walk.Done, s)
EndsAs (Err c) answer s = answer ≡ Err c

abbrev pub Ends : Result (Unit {0}) (tree.Cause Move) → Judgement → Type 0
Ends result judged = (s : walk.WalkState State) → EndsAs result (judged s) s

-- the code answered so, whatever the game
abbrev pub EndsSo : Result (Unit {0}) Reason → Judgement → Type 0
EndsSo result judged = (game : List Move) → Ends (causes game result) judged

-- the same as what a node says
abbrev pub ended_of : Result (Unit {0}) (tree.Cause Move) → Result Opening Stop
ended_of (Ok u) = Ok opening.Done
ended_of (Err c) = Err (stop.Because c)

-- what a reference to an entry says, in a certificate of this version
abbrev pub refer_answer : ℕ → Option (tree.Entry State) → ℕ → State → Judgement
refer_answer version None k p s = Err tree.RefUnknown
refer_answer version (Some e) k p s = walk.differs_or (stands_for version e.position p && nat_eq e.plies k) e.fertile s

-- the state of the walk, where `records` more records may come
abbrev pub judged_at : Names → ℕ → List ℕ → ℕ → walk.WalkState State
judged_at names records rest room = record { rest = rest; entries = entries_of names.table; records = records; room = room }

-- the code judged as the walk judges, whatever bytes and however many records are to come
abbrev pub Judges : Names → Names → Judgement → Result Opening Stop → Type 0
Judges old new judged result = (known : Option (List ℕ)) (records : ℕ) → Says known known old.left new.left (λ bytes n. judged (judged_at old records bytes n)) (λ node rest n. (shape_of node, judged_at new records rest n)) result

-- whether a leaf is fertile, or a cause, in each state
abbrev pub LeafSays : Result Bool (tree.Cause Move) → (walk.WalkState State → Result (Bool × walk.WalkState State) (tree.Cause Move)) → Type 0
LeafSays (Ok found) leaf = (s : walk.WalkState State) → leaf s ≡ Ok (found, s)
LeafSays (Err c) leaf = (s : walk.WalkState State) → leaf s ≡ Err c

-- ---- what reading the next record says, by the reader before and after it and by what the source tells
-- the record, with the price lists that were read, is the one at the front of the bytes to come, or there is none; no room is taken
abbrev pub SaysRecord : ReaderState → ReaderState → Option (List ℕ) → Option (List ℕ) → List PriceList → Result Bare Halt → Type 0
SaysRecord old new before after prices result = (game : List Move) (room : ℕ) → Says (to_come old before) (to_come new after) room room (λ bytes n. read old.version bytes) (λ bare rest n. (record_of prices bare, rest)) (stops game result)

-- few of the bytes to come were taken, for one record
abbrev pub TakesOne : ReaderState → ReaderState → Option (List ℕ) → Option (List ℕ) → Result Bare Halt → Type 0
TakesOne old new before after result = (most : ℕ) → TakesFew (to_come old before) (to_come new after) after (most + 1) most (stops [] result)
