-- The loop over the open nodes. Leads to the contract of `run`.
use Rattle.pg_checker.proofs.Common.{append-nil, ◌≡◌, ℕ, suc, ◌+◌, ◌*◌, ◌<◌, ◌≤◌, Bool, true, false, List, [], ◌∷◌, ◌++◌, length, reverse, map, ◌||◌, ◌≢◌, nat_eq, Option, Some, None, IfSome, Result, Ok, Err, refl, sym, ◌∙◌, ap, subst, arith, length-reverse, Consumes, ArrayVec, longest_record, Placement, State, Move, most_moves, one_if, visit, each, leaf_answer, resume, turn, finish, effort, Stacked, Cuts, chess_with, ArePlayed, IsReady, entered, entry_of, path, frame_of, frames_of, count_named, state_at, work_at, Goes, Stops, TakesFew, Machine, Stop, Contains-head, Contains-later, Contains, IsPosition, Legal, left_after, LeadsElsewhere, AllElsewhere}
use Rattle.pg_checker.specs.Tree as tree
use Rattle.pg_checker.specs.Walk as walk
use Rattle.pg_checker.specs.Walk.{◌>>=◌}
use Rattle.pg_checker.specs.inner.Steps.{Answer}
use Rattle.pg_checker.specs.declared.machine.Frame.{Frame}
use Rattle.pg_checker.specs.inner.Halting as stop
use Rattle.pg_checker.proofs.Chess.{exact_with, few_with, goal_with, play_with}
use Rattle.pg_checker.proofs.Left.{left_are}
use Rattle.pg_checker.proofs.Turning.{entries_closed}
use Rattle.pg_checker.proofs.Played.{popped_played}
use Rattle.pg_checker.proofs.Frames.{turn_is, turn_less, turn_stacked}
use Rattle.pg_checker.proofs.FrameViews.{frames_more, count_more}
use Rattle.pg_checker.proofs.Goings.{stays, goes_on, goes_as, goes_then, stops_on, stops_then, stops_as}
use Rattle.pg_checker.proofs.Turning.{turns}

-- ---- bytes taken
-- between two points of the walk, at most the longest record for each
abbrev pub Few : Option (List ℕ) → Option (List ℕ) → ℕ → ℕ → Type 0
Few before after most now = IfSome before (λ bytes. IfSome after (λ rest. length bytes + longest_record * now ≤ length rest + longest_record * most))

pub few_none : (known : Option (List ℕ)) (n : ℕ) → Few known known n n
few_none None n = tt
few_none (Some bytes) n = omega arith

pub few_on : (a b c : Option (List ℕ)) (xs : List ℕ) (most mid now : ℕ) → Consumes a b xs → Few a b most mid → Few b c mid now → Few a c most now
few_on None b c xs most mid now h f k = tt
few_on (Some xs0) None c xs most mid now h f k = absurd h
few_on (Some xs0) (Some ys0) None xs most mid now h f k = tt
few_on (Some xs0) (Some ys0) (Some zs0) xs most mid now h f k = omega arith

few_end : (a b left : Option (List ℕ)) (xs : List ℕ) (most mid : ℕ) → Consumes a b xs → Few a b most mid → IfSome b (λ bytes. IfSome left (λ rest. length bytes ≤ length rest + (4096 + longest_record * mid))) → IfSome a (λ bytes. IfSome left (λ rest. length bytes ≤ length rest + (4096 + longest_record * most)))
few_end None b left xs most mid h f k = tt
few_end (Some xs0) None left xs most mid h f k = absurd h
few_end (Some xs0) (Some ys0) None xs most mid h f k = tt
few_end (Some xs0) (Some ys0) (Some zs0) xs most mid h f k = omega arith

pub few_then : {Y : Type 0} (a b c left : Option (List ℕ)) (xs : List ℕ) (most mid now : ℕ) (res : Result Y Stop) → Consumes a b xs → Few a b most mid → TakesFew b c left mid now res → TakesFew a c left most now res
few_then a b c left xs most mid now (Ok y) h f k = few_on a b c xs most mid now h f k
few_then a b c left xs most mid now (Err stop.Read) h f k = tt
few_then a b c left xs most mid now (Err stop.Memory) h f k = few_end a b left xs most mid h f k
few_then a b c left xs most mid now (Err (stop.Because q)) h f k = few_end a b left xs most mid h f k

-- ---- the stack
frames_length : (fs : List Frame) → length (frames_of fs) ≡ length fs
unfolding frames_of
frames_length [] = refl
frames_length (f ∷ fs) = ap suc (frames_length fs)

pub frames_popped : (items rest : List Frame) (top : Frame) → items ≡ rest ++ (top ∷ []) → frames_of (reverse items) ≡ frame_of top (reverse rest) ∷ frames_of (reverse rest)
frames_popped items rest top e = ap (λ (v : List Frame). frames_of (reverse v)) e ∙ frames_more rest top

pub depth : (n : ℕ) (items rest : List Frame) (top : Frame) → items ≡ rest ++ (top ∷ []) → Stacked n (frames_of (reverse items)) → top.plies + suc (length rest) ≡ n
depth n items rest top e h =
    let s : Stacked n (frame_of top (reverse rest) ∷ frames_of (reverse rest)) = subst (λ v. Stacked n v) (frames_popped items rest top e) h in
    let d = s.0 in
    omega (arith, d, frames_length (reverse rest), length-reverse rest)

pub kept_popped : (kept : ℕ) (items rest : List Frame) (top : Frame) → items ≡ rest ++ (top ∷ []) → kept ≡ count_named (reverse items) → kept ≡ one_if top.named + count_named (reverse rest)
kept_popped kept items rest top e h = h ∙ ap (λ (v : List Frame). count_named (reverse v)) e ∙ count_more rest top

pub kept_at_least : (kept : ℕ) (items rest : List Frame) (top : Frame) → items ≡ rest ++ (top ∷ []) → kept ≡ count_named (reverse items) → one_if top.named ≤ kept
kept_at_least kept items rest top e h = let k : kept ≡ one_if top.named + count_named (reverse rest) = kept_popped kept items rest top e h in omega arith

pub frames_none : frames_of (reverse {A = Frame} []) ≡ []
unfolding frames_of
frames_none = refl

pub count_none : count_named (reverse {A = Frame} []) ≡ 0
unfolding count_named
count_none = refl

or_false : (b : Bool) → (b || false) ≡ b
or_false true = refl
or_false false = refl

not_goal : (d : Placement) (l : ℕ) (listed : List Move → Bool) (cut : Cuts) (p : State) → p.board ≢ d → (chess_with d l listed cut).is_goal p ≡ false
not_goal d l listed cut p ne = off ((chess_with d l listed cut).is_goal p) refl
  where
    off : (b : Bool) → (chess_with d l listed cut).is_goal p ≡ b → (chess_with d l listed cut).is_goal p ≡ false
    off false e = e
    off true e = absurd (ne ((goal_with d l listed cut p).0 e))

left_legal : (p : State) (last : Option Move) (m : Move) → Contains (left_after p last) m → (q : State) × Legal p m q
left_legal p last m c = (left_are p last m c).0

module _ (d : Placement) (l : ℕ) (listed : List Move → Bool) (cut : Cuts) (n : ℕ) where
  abbrev pub finishes : Machine → Answer (Bool × walk.WalkState State)
  finishes m rest room = finish (chess_with d l listed cut) n (work_at (chess_with d l listed cut) m rest room)

  -- ---- what holds at each turn, from the first machine to this one
  pub record Runs (before after : Option (List ℕ)) (old now : Machine) : Type 0 where
    pub stacked : Stacked n (frames_of (reverse now.stack.frames.items))
    pub ready : IsReady cut.version now
    pub few : Few before after old.input.records now.input.records
    pub goes : Goes before after old.names.left now.names.left (finishes old) (finishes now)

  pub runs_start : (known : Option (List ℕ)) (m : Machine) → Stacked n (frames_of (reverse m.stack.frames.items)) → IsReady cut.version m → Runs known known m m
  runs_start known m stacked ready = record { stacked = stacked; ready = ready; few = few_none known m.input.records; goes = stays known m.names.left (finishes m) (finishes m) (λ rest room. refl) }

  -- the next turn, and then the rest
  turned : (now mid : Machine) (top : Frame) → now.stack.frames.items ≡ mid.stack.frames.items ++ (top ∷ []) → mid.stack.fertile ≡ now.stack.fertile → mid.names.table ≡ now.names.table → mid.input.records ≡ now.input.records → (rest : List ℕ) (room : ℕ) → finishes now rest room ≡ (turns d l listed cut n top mid rest room >>= finish (chess_with d l listed cut) n)
  turned now mid top items found table records rest room =
      ap (λ v. resume (chess_with d l listed cut) n v (now.stack.fertile, state_at now rest room)) (frames_popped now.stack.frames.items mid.stack.frames.items top items)
      ∙ turn_is (chess_with d l listed cut) n (frame_of top (reverse mid.stack.frames.items)) (frames_of (reverse mid.stack.frames.items)) now.stack.fertile (state_at now rest room)
      ∙ (λ i. turn (chess_with d l listed cut) n (frame_of top (reverse mid.stack.frames.items)) (frames_of (reverse mid.stack.frames.items)) (sym found i) (record { rest = rest; entries = map entry_of (sym table i).entries; records = sym records i; room = room }) >>= finish (chess_with d l listed cut) n)

  pub runs_on : (before here after : Option (List ℕ)) (old now mid new : Machine) (top : Frame) → Runs before here old now → now.stack.frames.items ≡ mid.stack.frames.items ++ (top ∷ []) → mid.stack.fertile ≡ now.stack.fertile → mid.names.table ≡ now.names.table → mid.input.records ≡ now.input.records → mid.names.left ≡ now.names.left
      → Goes here after mid.names.left new.names.left (turns d l listed cut n top mid) (λ rest room. Ok (work_at (chess_with d l listed cut) new rest room)) → IsReady cut.version new → Few here after mid.input.records new.input.records
      → Runs before after old new
  runs_on before here after old now mid new top run items found table records room turning ready few = record {
    stacked = turn_stacked (chess_with d l listed cut) n n (frame_of top (reverse mid.stack.frames.items)) (frames_of (reverse mid.stack.frames.items)) mid.stack.fertile (state_at mid (turning.taken ++ []) (turning.used + 0)) (work_at (chess_with d l listed cut) new [] 0) (subst (λ v. Stacked n v) (frames_popped now.stack.frames.items mid.stack.frames.items top items) run.stacked) (turning.same [] 0);
    ready = ready;
    few = few_on before here after run.goes.taken old.input.records now.input.records new.input.records run.goes.consumes run.few (subst (λ (m : ℕ). Few here after m new.input.records) records few);
    goes = goes_on before here after old.names.left now.names.left new.names.left (finishes old) (finishes now) (finishes new) run.goes
        (goes_as here after now.names.left new.names.left (λ rest x. turns d l listed cut n top mid rest x >>= finish (chess_with d l listed cut) n) (finishes new) (finishes now) (finishes new) (turned now mid top items found table records) (λ rest x. refl)
        (subst (λ (m : ℕ). Goes here after m new.names.left (λ rest x. turns d l listed cut n top mid rest x >>= finish (chess_with d l listed cut) n) (finishes new)) room
        (goes_then here after mid.names.left new.names.left (turns d l listed cut n top mid) (λ rest x. Ok (work_at (chess_with d l listed cut) new rest x)) (finish (chess_with d l listed cut) n) turning)));
  }

  -- there is less to do
  pub runs_less : (here after : Option (List ℕ)) (now mid new : Machine) (top : Frame) → now.stack.frames.items ≡ mid.stack.frames.items ++ (top ∷ []) → mid.input.records ≡ now.input.records
      → Goes here after mid.names.left new.names.left (turns d l listed cut n top mid) (λ rest room. Ok (work_at (chess_with d l listed cut) new rest room))
      → effort (chess_with d l listed cut) most_moves (work_at (chess_with d l listed cut) new [] 0) < effort (chess_with d l listed cut) most_moves (work_at (chess_with d l listed cut) now [] 0)
  runs_less here after now mid new top items records turning =
      let less = turn_less (chess_with d l listed cut) (exact_with d l listed cut) most_moves (few_with d l listed cut) n (frame_of top (reverse mid.stack.frames.items)) (frames_of (reverse mid.stack.frames.items)) mid.stack.fertile (state_at mid (turning.taken ++ []) (turning.used + 0)) (work_at (chess_with d l listed cut) new [] 0) (turning.same [] 0) in
      subst (λ (m : ℕ). effort (chess_with d l listed cut) most_moves (work_at (chess_with d l listed cut) new [] 0) < effort (chess_with d l listed cut) most_moves (record { frames = frames_of (reverse now.stack.frames.items); found = now.stack.fertile; state = record (state_at now [] 0) { records = m } })) records
      (subst (λ v. effort (chess_with d l listed cut) most_moves (work_at (chess_with d l listed cut) new [] 0) < effort (chess_with d l listed cut) most_moves (record { frames = v; found = now.stack.fertile; state = record (state_at now [] 0) { records = mid.input.records } })) (sym (frames_popped now.stack.frames.items mid.stack.frames.items top items)) less)

  -- ---- leaves of which none is on the diagram
  pub dry_front : (p : State) (g : List Move) (passed ms : List Move) (found : Bool) (s : walk.WalkState State) → ((m : Move) → Contains passed m → (chess_with d l listed cut).is_goal ((chess_with d l listed cut).play p m) ≡ false) → each (chess_with d l listed cut) (visit (chess_with d l listed cut) n 0) g p (passed ++ ms) found s ≡ each (chess_with d l listed cut) (visit (chess_with d l listed cut) n 0) g p ms found s
  dry_front p g [] ms found s off = refl
  dry_front p g (m ∷ passed) ms found s off =
      ap (λ (x : Bool). leaf_answer (chess_with d l listed cut) n (g ++ (m ∷ [])) ((chess_with d l listed cut).play p m) s x (nat_eq n (chess_with d l listed cut).plies) ((chess_with d l listed cut).is_listed (g ++ (m ∷ []))) >>= (λ child. each (chess_with d l listed cut) (visit (chess_with d l listed cut) n 0) g p (passed ++ ms) (found || child.0) child.1)) (off m (Contains-head m passed))
      ∙ (ap (λ (f : Bool). each (chess_with d l listed cut) (visit (chess_with d l listed cut) n 0) g p (passed ++ ms) f s) (or_false found) ∙ dry_front p g passed ms found s (λ x c. off x (Contains-later m x passed c)))

  dry : (p : State) (g : List Move) (ms : List Move) (found : Bool) (s : walk.WalkState State) → ((m : Move) → Contains ms m → (chess_with d l listed cut).is_goal ((chess_with d l listed cut).play p m) ≡ false) → each (chess_with d l listed cut) (visit (chess_with d l listed cut) n 0) g p ms found s ≡ Ok (found, s)
  dry p g ms found s off = ap (λ (v : List Move). each (chess_with d l listed cut) (visit (chess_with d l listed cut) n 0) g p v found s) (sym (append-nil ms)) ∙ dry_front p g ms [] found s off

  -- the node closes at once
  skipped : (now mid new : Machine) (top : Frame) (found : Bool) → now.stack.frames.items ≡ mid.stack.frames.items ++ (top ∷ []) → top.plies ≡ 0 → ((m : Move) → Contains (left_after top.moves.position top.moves.last) m → (chess_with d l listed cut).is_goal ((chess_with d l listed cut).play top.moves.position m) ≡ false)
      → found ≡ (top.fertile || now.stack.fertile) → new.stack.frames ≡ mid.stack.frames → new.input.records ≡ now.input.records → new.stack.fertile ≡ found → map entry_of new.names.table.entries ≡ map entry_of now.names.table.entries ++ entered top.named (record { position = top.moves.position; plies = suc top.plies; fertile = found })
      → (rest : List ℕ) (room : ℕ) → finishes now rest room ≡ finishes new rest room
  skipped now mid new top found items last off is same records found_is entries rest room =
      ap (λ v. resume (chess_with d l listed cut) n v (now.stack.fertile, state_at now rest room)) (frames_popped now.stack.frames.items mid.stack.frames.items top items)
      ∙ (ap (λ (k : ℕ). each (chess_with d l listed cut) (visit (chess_with d l listed cut) n k) (path (reverse mid.stack.frames.items)) top.moves.position (left_after top.moves.position top.moves.last) (top.fertile || now.stack.fertile) (state_at now rest room) >>= (λ all. walk.close (chess_with d l listed cut) top.named (suc top.plies) top.moves.position all >>= resume (chess_with d l listed cut) n (frames_of (reverse mid.stack.frames.items)))) last
      ∙ (ap (λ (x : Result (Bool × walk.WalkState State) (tree.Cause Move)). x >>= (λ all. walk.close (chess_with d l listed cut) top.named (suc top.plies) top.moves.position all >>= resume (chess_with d l listed cut) n (frames_of (reverse mid.stack.frames.items)))) (dry top.moves.position (path (reverse mid.stack.frames.items)) (left_after top.moves.position top.moves.last) (top.fertile || now.stack.fertile) (state_at now rest room) off)
      ∙ (λ i. resume (chess_with d l listed cut) n (stack i) (fertile i, record { rest = rest; entries = entries_closed d l listed cut n now new top found is entries i; records = sym records i; room = room }))))
    where
      stack : frames_of (reverse mid.stack.frames.items) ≡ frames_of (reverse new.stack.frames.items)
      stack = rw same refl

      fertile : (top.fertile || now.stack.fertile) ≡ new.stack.fertile
      fertile = sym (found_is ∙ is)

  -- a legal move that leads elsewhere does not lead to the diagram
  pub goal_off : (p : State) (m : Move) → IsPosition p → (q : State) × Legal p m q → LeadsElsewhere d p m → (chess_with d l listed cut).is_goal ((chess_with d l listed cut).play p m) ≡ false
  goal_off p m valid (q, legal) off =
      not_goal d l listed cut ((chess_with d l listed cut).play p m) (λ e. off q legal (ap (λ (v : State). v.board) (sym (play_with d l listed cut p m q valid legal)) ∙ e))

  -- where no move that is left leads to the diagram
  none_left : (top : Frame) → IsPosition top.moves.position → AllElsewhere d top.moves → (m : Move) → Contains (left_after top.moves.position top.moves.last) m → (chess_with d l listed cut).is_goal ((chess_with d l listed cut).play top.moves.position m) ≡ false
  none_left top valid far m c = goal_off top.moves.position m valid (left_legal top.moves.position top.moves.last m c) (far m c)

  pub runs_skip : (before here : Option (List ℕ)) (old now mid new : Machine) (top : Frame) (found : Bool) → Runs before here old now → now.stack.frames.items ≡ mid.stack.frames.items ++ (top ∷ []) → top.plies ≡ 0 → IsPosition top.moves.position → AllElsewhere d top.moves
      → found ≡ (top.fertile || now.stack.fertile) → new.stack.frames ≡ mid.stack.frames → new.names.left ≡ now.names.left → new.input.records ≡ now.input.records → new.input.reader ≡ now.input.reader → new.stack.fertile ≡ found → new.names.table.kept + one_if top.named ≡ now.names.table.kept → map entry_of new.names.table.entries ≡ map entry_of now.names.table.entries ++ entered top.named (record { position = top.moves.position; plies = suc top.plies; fertile = found })
      → Runs before here old new
  runs_skip before here old now mid new top found run items last valid far is same room records reader found_is kept entries = record {
    stacked = subst (λ v. Stacked n v) (rw same refl) (subst (λ v. Stacked n v) (frames_popped now.stack.frames.items mid.stack.frames.items top items) run.stacked).1;
    ready = record {
      reader = rw reader run.ready.reader;
      kept = (let one : now.names.table.kept ≡ one_if top.named + count_named (reverse mid.stack.frames.items) = kept_popped now.names.table.kept now.stack.frames.items mid.stack.frames.items top items run.ready.kept in let two : new.names.table.kept ≡ count_named (reverse mid.stack.frames.items) = omega arith in two ∙ rw same refl);
      played = (let k : ArePlayed (reverse mid.stack.frames.items) = (popped_played now.stack.frames.items mid.stack.frames.items top items run.ready.played).1 in subst (λ (v : ArrayVec Frame). ArePlayed (reverse v.items)) (sym same) k);
    };
    few = subst (λ (m : ℕ). Few before here old.input.records m) (sym records) run.few;
    goes = subst (λ (m : ℕ). Goes before here old.names.left m (finishes old) (finishes new)) (sym room)
        (goes_as before here old.names.left now.names.left (finishes old) (finishes now) (finishes old) (finishes new) (λ rest x. refl) (skipped now mid new top found items last (none_left top valid far) is same records found_is entries) run.goes);
  }

  -- there is less to do
  pub skip_less : (now mid new : Machine) (top : Frame) → now.stack.frames.items ≡ mid.stack.frames.items ++ (top ∷ []) → new.stack.frames ≡ mid.stack.frames → new.input.records ≡ now.input.records
      → effort (chess_with d l listed cut) most_moves (work_at (chess_with d l listed cut) new [] 0) < effort (chess_with d l listed cut) most_moves (work_at (chess_with d l listed cut) now [] 0)
  skip_less now mid new top items same records =
      subst (λ v. effort (chess_with d l listed cut) most_moves (work_at (chess_with d l listed cut) new [] 0) < effort (chess_with d l listed cut) most_moves (record { frames = v; found = now.stack.fertile; state = state_at now [] 0 })) (sym (frames_popped now.stack.frames.items mid.stack.frames.items top items))
      (rw (same, records) (omega arith))

  -- a turn stops
  pub runs_stop : (before here : Option (List ℕ)) (old now mid : Machine) (top : Frame) (s : Stop) → Runs before here old now → now.stack.frames.items ≡ mid.stack.frames.items ++ (top ∷ []) → mid.stack.fertile ≡ now.stack.fertile → mid.names.table ≡ now.names.table → mid.input.records ≡ now.input.records → mid.names.left ≡ now.names.left
      → Stops here mid.names.left (turns d l listed cut n top mid) s → Stops before old.names.left (finishes old) s
  runs_stop before here old now mid top s run items found table records room h =
      stops_on before here old.names.left now.names.left (finishes old) (finishes now) s run.goes
      (stops_as here now.names.left (λ rest x. turns d l listed cut n top mid rest x >>= finish (chess_with d l listed cut) n) (finishes now) s (turned now mid top items found table records)
      (subst (λ (m : ℕ). Stops here m (λ rest x. turns d l listed cut n top mid rest x >>= finish (chess_with d l listed cut) n) s) room
      (stops_then here mid.names.left (turns d l listed cut n top mid) (finish (chess_with d l listed cut) n) s h)))

  -- nothing is open
  pub runs_end : (before here : Option (List ℕ)) (old now : Machine) → Runs before here old now → now.stack.frames.items ≡ [] → Goes before here old.names.left now.names.left (finishes old) (λ rest room. Ok (now.stack.fertile, state_at now rest room))
  runs_end before here old now run none = goes_as before here old.names.left now.names.left (finishes old) (finishes now) (finishes old) (λ rest room. Ok (now.stack.fertile, state_at now rest room)) (λ rest room. refl) (λ rest room. closed rest room) run.goes
    where
      closed : (rest : List ℕ) (room : ℕ) → finishes now rest room ≡ Ok (now.stack.fertile, state_at now rest room)
      closed rest room = ap (λ (v : List Frame). finish (chess_with d l listed cut) n (record { frames = frames_of (reverse v); found = now.stack.fertile; state = state_at now rest room })) none ∙ ap (λ v. resume (chess_with d l listed cut) n v (now.stack.fertile, state_at now rest room)) empty
        where
          empty : frames_of (reverse []) ≡ []
          empty = frames_none
