-- One turn of the loop. Leads to the contracts of `turn` and `run`.
use Rattle.pg_checker.proofs.Common.{◌≡◌, ℕ, suc, ◌+◌, Bool, true, false, ◌||◌, List, [], ◌∷◌, ◌++◌, reverse, map, Option, Some, Result, Ok, Err, refl, sym, ◌∙◌, ap, subst, arith, ArrayVec, Placement, State, Move, IsPosition, Legal, IsNext, IsLast, play_of_is, one_if, entry, enter, turn, turn_at, turn_top, Work, Cuts, chess_with, left_after, path, entered, entry_of, entries_of, frame_of, frames_of, count_named, state_at, work_at, Goes, Stops, Says, Machine, Stack, TableState, Stop}
use Rattle.pg_checker.specs.Tree as tree
use Rattle.pg_checker.specs.inner.Steps.{Answer}
use Rattle.pg_checker.specs.declared.machine.Frame.{Frame}
use Rattle.pg_checker.proofs.Goings.{stays, goes_as, stops_as}
use Rattle.pg_checker.proofs.FrameViews.{path_more, frames_more, count_more}
use Rattle.pg_checker.proofs.Left.{left_next, left_last}

pub kept_pushed : (m : Machine) (items : List Frame) (top advanced : Frame) → advanced.named ≡ top.named → m.names.table.kept ≡ one_if top.named + count_named (reverse m.stack.frames.items) → items ≡ m.stack.frames.items ++ (advanced ∷ []) → m.names.table.kept ≡ count_named (reverse items)
kept_pushed m items top advanced same kept pushed =
    let one : count_named (reverse items) ≡ one_if advanced.named + count_named (reverse m.stack.frames.items) = ap (λ (v : List Frame). count_named (reverse v)) pushed ∙ count_more m.stack.frames.items advanced in
    let two : one_if advanced.named ≡ one_if top.named = ap one_if same in
    omega arith

-- the machine with these frames
abbrev pub with_frames : Machine → ArrayVec Frame → Machine
with_frames m frames = record m { stack = record m.stack { frames = frames } }

abbrev pub under : Machine → List Frame → Machine
under m below = with_frames m (record { items = below })

-- the machine once a node has closed, with this stack and this table
abbrev pub closed_by : Machine → Stack → TableState → Machine
closed_by m stack table = record m { stack = stack; names = record m.names { table = table } }

module _ (d : Placement) (l : ℕ) (listed : List Move → Bool) (cut : Cuts) (n : ℕ) where
  abbrev pub turns : Frame → Machine → Answer (Work (chess_with d l listed cut))
  turns top m rest room = turn (chess_with d l listed cut) n (frame_of top (reverse m.stack.frames.items)) (frames_of (reverse m.stack.frames.items)) m.stack.fertile (state_at m rest room)

  turns_at : (top : Frame) (m : Machine) (rest : List ℕ) (room : ℕ) (left : List Move) → left_after top.moves.position top.moves.last ≡ left
      → turns top m rest room ≡ turn_at (chess_with d l listed cut) n (frame_of top (reverse m.stack.frames.items)) (frames_of (reverse m.stack.frames.items)) m.stack.fertile (state_at m rest room) left
  turns_at top m rest room left e = ap (turn_at (chess_with d l listed cut) n (frame_of top (reverse m.stack.frames.items)) (frames_of (reverse m.stack.frames.items)) m.stack.fertile (state_at m rest room)) e

  pub entry_is : (named : Bool) (k : ℕ) (p : State) (f : Bool) → entry (chess_with d l listed cut) named k p f ≡ entered named (record { position = p; plies = k; fertile = f })
  entry_is true k p f = refl
  entry_is false k p f = refl

  -- the entries when a node has closed
  pub entries_closed : (m new : Machine) (top : Frame) (found : Bool) → found ≡ (top.fertile || m.stack.fertile)
      → map entry_of new.names.table.entries ≡ map entry_of m.names.table.entries ++ entered top.named (record { position = top.moves.position; plies = suc top.plies; fertile = found })
      → entries_of m.names.table ++ entry (chess_with d l listed cut) top.named (suc top.plies) top.moves.position (top.fertile || m.stack.fertile) ≡ entries_of new.names.table
  entries_closed m new top found is entries =
      ap (λ (f : Bool). entries_of m.names.table ++ entry (chess_with d l listed cut) top.named (suc top.plies) top.moves.position f) (sym is)
      ∙ ap (λ (v : List (tree.Entry State)). entries_of m.names.table ++ v) (entry_is top.named (suc top.plies) top.moves.position found) ∙ sym entries

  -- the node closes
  pub turn_closes : (known : Option (List ℕ)) (top : Frame) (m new : Machine) (found : Bool) → found ≡ (top.fertile || m.stack.fertile) → IsLast top.moves.position top.moves.last
      → new.stack.frames ≡ m.stack.frames → new.names.left ≡ m.names.left → new.input.records ≡ m.input.records → new.stack.fertile ≡ found → map entry_of new.names.table.entries ≡ map entry_of m.names.table.entries ++ entered top.named (record { position = top.moves.position; plies = suc top.plies; fertile = found })
      → Goes known known m.names.left new.names.left (turns top m) (λ rest room. Ok (work_at (chess_with d l listed cut) new rest room))
  turn_closes known top m new found is last same room records found_is entries =
      subst (λ (left : ℕ). Goes known known m.names.left left (turns top m) (λ rest x. Ok (work_at (chess_with d l listed cut) new rest x))) (sym room)
      (stays known m.names.left (turns top m) (λ rest x. Ok (work_at (chess_with d l listed cut) new rest x)) (λ rest x. turns_at top m rest x [] (left_last top.moves.position top.moves.last last) ∙ closed rest x))
    where
      stack : frames_of (reverse m.stack.frames.items) ≡ frames_of (reverse new.stack.frames.items)
      stack = rw same refl

      fertile : (top.fertile || m.stack.fertile) ≡ new.stack.fertile
      fertile = sym (found_is ∙ is)

      closed : (rest : List ℕ) (x : ℕ) → turn_at (chess_with d l listed cut) n (frame_of top (reverse m.stack.frames.items)) (frames_of (reverse m.stack.frames.items)) m.stack.fertile (state_at m rest x) [] ≡ Ok (work_at (chess_with d l listed cut) new rest x)
      closed rest x = λ i. Ok (record { frames = stack i; found = fertile i; state = record { rest = rest; entries = entries_closed m new top found is entries i; records = sym records i; room = x } })

  -- its next move is played
  plays : (top advanced : Frame) (m mid : Machine) (next : State) (move : Move) → advanced ≡ record top { moves = record { position = top.moves.position; last = Some move }; fertile = top.fertile || m.stack.fertile } → IsNext top.moves.position top.moves.last move → IsPosition top.moves.position → Legal top.moves.position move next
      → mid.stack.frames.items ≡ m.stack.frames.items ++ (advanced ∷ []) → mid.names.table ≡ m.names.table → mid.input.records ≡ m.input.records → (rest : List ℕ) (x : ℕ)
      → turns top m rest x ≡ enter (chess_with d l listed cut) n top.plies (path (reverse mid.stack.frames.items)) next (frames_of (reverse mid.stack.frames.items)) (state_at mid rest x)
  unfolding chess_with
  plays top advanced m mid next move is first valid legal pushed table records rest x =
      turns_at top m rest x (move ∷ left_after top.moves.position (Some move)) (left_next top.moves.position top.moves.last move first)
      ∙ (λ i. enter (chess_with d l listed cut) n top.plies (game i) (played i) (stack i) (state i))
    where
      game : path (reverse m.stack.frames.items) ++ (move ∷ []) ≡ path (reverse mid.stack.frames.items)
      game = sym (ap (λ (v : List Frame). path (reverse v)) pushed ∙ path_more m.stack.frames.items advanced ∙ rw is refl)

      played : (chess_with d l listed cut).play top.moves.position move ≡ next
      played = play_of_is top.moves.position move next valid legal

      stack : record (frame_of top (reverse m.stack.frames.items)) { left = left_after top.moves.position (Some move); found = top.fertile || m.stack.fertile } ∷ frames_of (reverse m.stack.frames.items) ≡ frames_of (reverse mid.stack.frames.items)
      stack = sym (ap (λ (v : List Frame). frames_of (reverse v)) pushed ∙ frames_more m.stack.frames.items advanced ∙ rw is refl)

      state : state_at m rest x ≡ state_at mid rest x
      state = λ i. record { rest = rest; entries = map entry_of (sym table i).entries; records = sym records i; room = x }

  pub turn_plays : (before after : Option (List ℕ)) (top advanced : Frame) (m mid new : Machine) (next : State) (move : Move) (found : Bool) (res : Result (Unit {0}) Stop) → advanced ≡ record top { moves = record { position = top.moves.position; last = Some move }; fertile = found } → found ≡ (top.fertile || m.stack.fertile) → IsNext top.moves.position top.moves.last move → IsPosition top.moves.position → Legal top.moves.position move next
      → mid.stack.frames.items ≡ m.stack.frames.items ++ (advanced ∷ []) → mid.names.table ≡ m.names.table → mid.input.records ≡ m.input.records → mid.names.left ≡ m.names.left
      → Says before after mid.names.left new.names.left (λ rest x. enter (chess_with d l listed cut) n top.plies (path (reverse mid.stack.frames.items)) next (frames_of (reverse mid.stack.frames.items)) (state_at mid rest x)) (λ _ rest x. work_at (chess_with d l listed cut) new rest x) res
      → Says before after m.names.left new.names.left (turns top m) (λ _ rest x. work_at (chess_with d l listed cut) new rest x) res
  turn_plays before after top advanced m mid new next move found (Ok u) is or first valid legal pushed table records room h =
      goes_as before after m.names.left new.names.left (λ rest x. enter (chess_with d l listed cut) n top.plies (path (reverse mid.stack.frames.items)) next (frames_of (reverse mid.stack.frames.items)) (state_at mid rest x)) (λ rest x. Ok (work_at (chess_with d l listed cut) new rest x)) (turns top m) (λ rest x. Ok (work_at (chess_with d l listed cut) new rest x))
      (plays top advanced m mid next move (is ∙ ap (λ (f : Bool). record top { moves = record { position = top.moves.position; last = Some move }; fertile = f }) or) first valid legal pushed table records) (λ rest x. refl)
      (subst (λ (left : ℕ). Goes before after left new.names.left (λ rest x. enter (chess_with d l listed cut) n top.plies (path (reverse mid.stack.frames.items)) next (frames_of (reverse mid.stack.frames.items)) (state_at mid rest x)) (λ rest x. Ok (work_at (chess_with d l listed cut) new rest x))) room h)
  turn_plays before after top advanced m mid new next move found (Err s) is or first valid legal pushed table records room h =
      stops_as before m.names.left (λ rest x. enter (chess_with d l listed cut) n top.plies (path (reverse mid.stack.frames.items)) next (frames_of (reverse mid.stack.frames.items)) (state_at mid rest x)) (turns top m) s
      (plays top advanced m mid next move (is ∙ ap (λ (f : Bool). record top { moves = record { position = top.moves.position; last = Some move }; fertile = f }) or) first valid legal pushed table records)
      (subst (λ (left : ℕ). Stops before left (λ rest x. enter (chess_with d l listed cut) n top.plies (path (reverse mid.stack.frames.items)) next (frames_of (reverse mid.stack.frames.items)) (state_at mid rest x)) s) room h)

  -- a turn of the whole stack is one of its topmost frame
  abbrev pub tops : Machine → Answer (Work (chess_with d l listed cut))
  tops m rest x = turn_top (chess_with d l listed cut) n (frames_of (reverse m.stack.frames.items)) m.stack.fertile (state_at m rest x)

  pub tops_are : (m : Machine) (below : List Frame) (top : Frame) → m.stack.frames.items ≡ below ++ (top ∷ []) → tops m ≡ turns top (under m below)
  tops_are m below top items = λ i rest x. turn_top (chess_with d l listed cut) n ((ap (λ (v : List Frame). frames_of (reverse v)) items ∙ frames_more below top) i) m.stack.fertile (state_at m rest x)

  pub says_tops : (before after : Option (List ℕ)) (m new : Machine) (below : List Frame) (top : Frame) (res : Result (Unit {0}) Stop) → m.stack.frames.items ≡ below ++ (top ∷ [])
      → Says before after m.names.left new.names.left (turns top (under m below)) (λ _ rest x. work_at (chess_with d l listed cut) new rest x) res
      → Says before after m.names.left new.names.left (tops m) (λ _ rest x. work_at (chess_with d l listed cut) new rest x) res
  says_tops before after m new below top res items h = subst (λ (v : Answer (Work (chess_with d l listed cut))). Says before after m.names.left new.names.left v (λ _ rest x. work_at (chess_with d l listed cut) new rest x) res) (sym (tops_are m below top items)) h

  pub tops_say : (before after : Option (List ℕ)) (m new : Machine) (below : List Frame) (top : Frame) (res : Result (Unit {0}) Stop) → m.stack.frames.items ≡ below ++ (top ∷ [])
      → Says before after m.names.left new.names.left (tops m) (λ _ rest x. work_at (chess_with d l listed cut) new rest x) res
      → Says before after m.names.left new.names.left (turns top (under m below)) (λ _ rest x. work_at (chess_with d l listed cut) new rest x) res
  tops_say before after m new below top res items h = subst (λ (v : Answer (Work (chess_with d l listed cut))). Says before after m.names.left new.names.left v (λ _ rest x. work_at (chess_with d l listed cut) new rest x) res) (tops_are m below top items) h
