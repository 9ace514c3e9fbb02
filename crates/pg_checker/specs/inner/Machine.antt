-- What the values of the machine stand for: the frames of the walk, its entries and its state; and what code did from one machine to another.
use Rattle.std.specs.Prelude.{◌≡◌, ℕ, suc, ◌+◌, ◌<◌, ◌≤◌, ◌||◌, Bool, true, false, List, [], ◌∷◌, ◌++◌, length, map, reverse, Option, Some, None, Result, OnOk}
use Rattle.pg_position.specs.declared.state.State.{State}
use Rattle.pg_position.specs.declared.moves.Move.{Move}
use Rattle.pg_position.specs.Position.{IsPosition}
use Rattle.pg_position.specs.Step.{Legal}
use Rattle.pg_position.specs.Array.{array_state}
use Rattle.pg_position.specs.Game.{IsGame}
use Rattle.pg_board.specs.Placement.{Placement}
use Rattle.pg_moves.specs.Moves.{IsNext, IsLast}
use Rattle.pg_certificate.specs.Reader.{ReaderState, to_come}
use Rattle.pg_checker.specs.Passing.{AllElsewhere, PassesOver}
use Rattle.pg_checker.specs.Tree as tree
use Rattle.pg_checker.specs.Tree.{one_if}
use Rattle.pg_checker.specs.Left.{left_after}
use Rattle.pg_checker.specs.Walk as walk
use Rattle.pg_checker.specs.inner.Frames as frames
use Rattle.pg_checker.specs.inner.Halting.{Stop, stops}
use Rattle.pg_checker.specs.inner.Steps.{Says, FailsRead, TakesFew}
use Rattle.pg_checker.specs.declared.halt.Halt.{Halt}
use Rattle.pg_checker.specs.declared.table.Entry.{Entry}
use Rattle.pg_checker.specs.declared.machine.Frame.{Frame}
use Rattle.pg_checker.specs.inner.Table.{TableState}
use Rattle.pg_checker.specs.declared.machine.Input.{Input}
use Rattle.pg_checker.specs.declared.machine.Names.{Names}
use Rattle.pg_checker.specs.declared.machine.Stack.{Stack}
use Rattle.pg_checker.specs.declared.machine.Machine.{Machine}
use Rattle.pg_checker.specs.declared.machine.Opening.{Opening}
use Rattle.pg_checker.specs.declared.machine.Opening.TheVariants as opening

-- ---- frames, the topmost first
-- the move that was played last at a node
abbrev pub played : Option Move → List Move
played None = []
played (Some m) = m ∷ []

-- the game that leads to the node below the topmost frame
unfoldable pub path : List Frame → List Move
path [] = []
path (f ∷ fs) = path fs ++ played f.moves.last

abbrev pub frame_of : Frame → List Frame → frames.Frame State Move
frame_of f fs = record { game = path fs; position = f.moves.position; plies = f.plies; left = left_after f.moves.position f.moves.last; named = f.named; found = f.fertile }

unfoldable pub frames_of : List Frame → List (frames.Frame State Move)
frames_of [] = []
frames_of (f ∷ fs) = frame_of f fs ∷ frames_of fs

-- how many of them are named
unfoldable pub count_named : List Frame → ℕ
count_named [] = 0
count_named (f ∷ fs) = one_if f.named + count_named fs

-- the game that leads along the open nodes
abbrev pub game_at : Stack → List Move
game_at s = path (reverse s.frames.items)

-- the open nodes, the topmost first
abbrev pub stack_at : Stack → List (frames.Frame State Move)
stack_at s = frames_of (reverse s.frames.items)

-- how many of them are named
abbrev pub named_at : Stack → ℕ
named_at s = count_named (reverse s.frames.items)

-- the moves that were played last, one at each of these nodes, are a game that leads to p
pub record LeadTo (fs : List Frame) (p : State) : Type 0 where
  pub game : IsGame array_state (path fs) p
  pub long : length (path fs) ≡ length fs

-- to each of the open nodes those below it lead
unfoldable pub ArePlayed : List Frame → Type 0
ArePlayed [] = Unit {0}
ArePlayed (f ∷ fs) = LeadTo fs f.moves.position × ArePlayed fs

-- ---- what is done at the topmost frame
-- the topmost frame is made into another one, and those below it stay
pub record OnTop (did : Frame → Frame → Type 0) (old new : List Frame) : Type 0 where
  pub below : List Frame
  pub before : Frame
  pub after : Frame
  pub was : old ≡ below ++ (before ∷ [])
  pub is : new ≡ below ++ (after ∷ [])
  pub happened : did before after

-- a node that has just opened
abbrev pub fresh : State → ℕ → Bool → Frame
fresh p plies is_named = record { moves = record { position = p; last = None }; plies = plies; named = is_named; fertile = false }

-- no move is left at it
abbrev pub HasNone : Frame → Frame → Type 0
HasNone old new = IsLast old.moves.position old.moves.last × (new ≡ old)

-- its next move is played, which leads to p
pub record Plays (found : Bool) (p : State) (plies : ℕ) (old new : Frame) : Type 0 where
  pub move : Move
  pub next : IsNext old.moves.position old.moves.last move
  pub position : IsPosition old.moves.position
  pub leads : Legal old.moves.position move p
  pub below : plies ≡ old.plies
  pub advanced : new ≡ record old { moves = record { position = old.moves.position; last = Some move }; fertile = old.fertile || found }

-- leaves that are not on the diagram are passed over; it is over where no move that is left leads to one that is
pub record Passed (d : Placement) (over : Bool) (old new : Frame) : Type 0 where
  pub frame : new ≡ record old { moves = new.moves }
  pub passed : PassesOver d old.moves new.moves
  pub inner : 0 < old.plies → new.moves ≡ old.moves
  pub ends : over ≡ true → (old.plies ≡ 0) × AllElsewhere d new.moves
  pub position : old.plies ≡ 0 → IsPosition old.moves.position

-- ---- entries
abbrev pub entry_of : Entry → tree.Entry State
entry_of e = record { position = e.position; plies = e.plies; fertile = e.fertile }

-- the entry of a node that closes, where it is named
abbrev pub entered : Bool → tree.Entry State → List (tree.Entry State)
entered true e = e ∷ []
entered false e = []

abbrev pub entries_of : TableState → List (tree.Entry State)
entries_of t = map entry_of t.entries

-- the topmost node closes
pub record Closes (old new : Stack) (table_old table_new : TableState) : Type 0 where
  pub below : List Frame
  pub top : Frame
  pub was : old.frames.items ≡ below ++ (top ∷ [])
  pub frames : new.frames ≡ record { items = below }
  pub entries : entries_of table_new ≡ entries_of table_old ++ entered top.named (record { position = top.moves.position; plies = suc top.plies; fertile = top.fertile || old.fertile })
  pub kept : table_new.kept + one_if top.named ≡ table_old.kept
  pub fertile : new.fertile ≡ (top.fertile || old.fertile)

-- ---- where the walk stands
-- the known bytes to come, the entries so far, and how many records and named nodes may still come
pub record Point : Type 0 where
  pub known : Option (List ℕ)
  pub entries : List (tree.Entry State)
  pub records : ℕ
  pub room : ℕ

-- by what is read, the names, and what the source tells
abbrev pub point_of : Input → Names → Option (List ℕ) → Point
point_of input names left = record { known = to_come input.reader left; entries = entries_of names.table; records = input.records; room = names.left }

abbrev pub point_at : Machine → Option (List ℕ) → Point
point_at m left = point_of m.input m.names left

-- its state, with bytes to come and room for named nodes
abbrev pub state_of : Point → List ℕ → ℕ → walk.WalkState State
state_of p rest room = record { rest = rest; entries = p.entries; records = p.records; room = room }

abbrev pub state_at : Machine → List ℕ → ℕ → walk.WalkState State
state_at m rest room = record { rest = rest; entries = entries_of m.names.table; records = m.input.records; room = room }

abbrev pub shape_of : Opening → walk.Shape
shape_of opening.Done = walk.Done
shape_of (opening.Opened is_named) = walk.Opened is_named

abbrev pub work_at : (r : tree.Rules State Move) → Machine → List ℕ → ℕ → frames.Work r
work_at r m rest room = record { frames = stack_at m.stack; found = m.stack.fertile; state = state_at m rest room }

-- how many named nodes a record opens
abbrev pub opened : Opening → ℕ
opened opening.Done = 0
opened (opening.Opened is_named) = one_if is_named

-- ---- what the next piece of the walk needs
-- a reader has not refused, reads records of this version, and holds at most one buffer of 4,096 bytes
pub record IsReading (version : ℕ) (reader : ReaderState) : Type 0 where
  pub runs : reader.failed ≡ false
  pub reads : reader.version ≡ version
  pub held : length reader.held ≤ 4096

-- the machine with another reader
abbrev pub with_reader : ReaderState → Machine → Machine
with_reader reader m = record {
  input = record { reader = reader; prices = m.input.prices; records = m.input.records };
  names = m.names;
  stack = m.stack;
  finds = m.finds;
}

-- the reader of the machine reads, a place is kept in the table for each open node that is named, and the open nodes
-- lead from one to the next
pub record IsReady (version : ℕ) (m : Machine) : Type 0 where
  pub reader : IsReading version m.input.reader
  pub kept : m.names.table.kept ≡ named_at m.stack
  pub played : ArePlayed (reverse m.stack.frames.items)

-- ---- a piece of the walk done by code, from one point to another
-- the code answered what the walk answers from the state of the first: a value, seen by got with the state of the second, or a stop
abbrev pub Walks : {X A : Type 0} → Point → Point → (walk.WalkState State → Result A (tree.Cause Move)) → (X → walk.WalkState State → A) → Result X Stop → Type 0
Walks old new walk got result = Says old.known new.known old.room new.room (λ bytes n. walk (state_of old bytes n)) (λ x rest n. got x (state_of new rest n)) result

-- for each record that was read, few of the bytes to come were taken; after a stop, by what is left in the source
abbrev pub WalksOn : {X : Type 0} → Point → Point → Option (List ℕ) → Result X Stop → Type 0
WalksOn old new left result = TakesFew old.known new.known left old.records new.records result

-- ---- the same from one machine to another, with what the source tells before and after
-- the walk leads to the work that the machine then holds
abbrev pub Works : (r : tree.Rules State Move) → Machine → Machine → Option (List ℕ) → Option (List ℕ) → ((r : tree.Rules State Move) → walk.WalkState State → Result (frames.Work r) (tree.Cause Move)) → Result (Unit {0}) Halt → Type 0
Works r old new before after walk result = Walks (point_at old before) (point_at new after) (walk r) (λ _ s. record { frames = stack_at new.stack; found = new.stack.fertile; state = s }) (stops (game_at new.stack) result)

-- the walk visits a subtree, and the machine then says whether it is fertile
abbrev pub Visits : Machine → Machine → Option (List ℕ) → Option (List ℕ) → (walk.WalkState State → Result (Bool × walk.WalkState State) (tree.Cause Move)) → Result (Unit {0}) Halt → Type 0
Visits old new before after walk result = Walks (point_at old before) (point_at new after) walk (λ _ s. (new.stack.fertile, s)) (stops (game_at new.stack) result)

-- what any piece of the walk keeps, by what the source tells, whether it has failed by then, and what was answered
pub record GoesOn (version : ℕ) (old new : Machine) (before after : Option (List ℕ)) (failed : Bool) (result : Result (Unit {0}) Halt) : Type 0 where
  -- where it does not stop, the machine can go on
  pub ready : OnOk result (IsReady version new)
  -- a read stops it only where the source has failed
  pub fails : FailsRead failed (stops [] result)
  -- few of the bytes to come were taken
  pub few : WalksOn (point_at old before) (point_at new after) after (stops [] result)
