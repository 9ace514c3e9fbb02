-- Entering a node. Leads to the contracts of `enter` and `turn`.
use Rattle.pg_checker.proofs.Common.{◌≡◌, ℕ, suc, ◌+◌, ◌-◌, ◌<◌, Bool, false, List, [], ◌∷◌, ◌++◌, reverse, map, Option, Some, None, Result, Ok, Err, refl, sym, ◌∙◌, ap, subst, arith, Placement, State, Move, one_if, leaf, head, enter, opens, Work, any_game, Cuts, chess_with, left_after, Point, Walks, path, entry_of, frame_of, frames_of, count_named, shape_of, state_at, work_at, Goes, Stops, Machine, Opening, Stop, cause_with}
use Rattle.pg_checker.specs.Tree as tree
use Rattle.pg_checker.specs.Walk as walk
use Rattle.pg_checker.specs.Walk.{◌>>=◌}
use Rattle.pg_checker.specs.inner.Frames as frames
use Rattle.pg_checker.specs.inner.Machine.{opened as opened_by}
use Rattle.pg_checker.specs.inner.Steps.{Answer}
use Rattle.pg_checker.specs.declared.machine.Frame.{Frame}
use Rattle.pg_checker.specs.declared.machine.Opening.TheVariants as opening
use Rattle.pg_checker.specs.inner.Halting as stop
use Rattle.pg_checker.specs.declared.halt.Halt.TheVariants as halt
use Rattle.pg_checker.specs.declared.halt.Reason.{Reason}
use Rattle.pg_checker.specs.inner.Halting.{full}
use Rattle.pg_checker.proofs.Goings.{stays, goes_as, goes_then, stops_then, stops_as}
use Rattle.pg_checker.proofs.FrameViews.{frames_more, count_more}
use Rattle.pg_checker.proofs.Left.{rules_start}

module _ (d : Placement) (l : ℕ) (listed : List Move → Bool) (cut : Cuts) (n k : ℕ) (p : State) where
  abbrev pub enters : Machine → Answer (Work (chess_with d l listed cut))
  enters m rest room = enter (chess_with d l listed cut) n k (path (reverse m.stack.frames.items)) p (frames_of (reverse m.stack.frames.items)) (state_at m rest room)

  -- a leaf
  enter_at : (m : Machine) (rest : List ℕ) (room : ℕ) → k ≡ 0 → enters m rest room ≡ (leaf (chess_with d l listed cut) n (path (reverse m.stack.frames.items)) p (state_at m rest room) >>= (λ got. Ok (record { frames = frames_of (reverse m.stack.frames.items); found = got.0; state = got.1 })))
  enter_at m rest room e = ap (λ (j : ℕ). enter (chess_with d l listed cut) n j (path (reverse m.stack.frames.items)) p (frames_of (reverse m.stack.frames.items)) (state_at m rest room)) e

  pub enter_leaf : (known : Option (List ℕ)) (m : Machine) (fs : List Frame) (found : Bool) → k ≡ 0 → fs ≡ m.stack.frames.items → ((s : walk.WalkState State) → leaf (chess_with d l listed cut) n (path (reverse fs)) p s ≡ Ok (found, s))
      → Goes known known m.names.left m.names.left (enters m) (λ rest room. Ok (work_at (chess_with d l listed cut) (record m { stack = record m.stack { fertile = found } }) rest room))
  enter_leaf known m fs found e is h = stays known m.names.left (enters m) _ (λ rest room. enter_at m rest room e ∙ ap (λ (x : Result (Bool × walk.WalkState State) (tree.Cause Move)). x >>= (λ got. Ok (record { frames = frames_of (reverse m.stack.frames.items); found = got.0; state = got.1 }))) (ap (λ (v : List Frame). leaf (chess_with d l listed cut) n (path (reverse v)) p (state_at m rest room)) (sym is) ∙ h (state_at m rest room)))

  enter_stop : (known : Option (List ℕ)) (m : Machine) (fs : List Frame) (c : (tree.Cause Move)) → k ≡ 0 → fs ≡ m.stack.frames.items → ((s : walk.WalkState State) → leaf (chess_with d l listed cut) n (path (reverse fs)) p s ≡ Err c)
      → Stops known m.names.left (enters m) (stop.Because c)
  unfolding Stops
  enter_stop None m fs c e is h = tt
  enter_stop (Some bytes) m fs c e is h = enter_at m bytes m.names.left e ∙ ap (λ (x : Result (Bool × walk.WalkState State) (tree.Cause Move)). x >>= (λ got. Ok (record { frames = frames_of (reverse m.stack.frames.items); found = got.0; state = got.1 }))) (ap (λ (v : List Frame). leaf (chess_with d l listed cut) n (path (reverse v)) p (state_at m bytes m.names.left)) (sym is) ∙ h (state_at m bytes m.names.left))

  pub enter_halt : (known : Option (List ℕ)) (m : Machine) (fs : List Frame) (r : Reason) → k ≡ 0 → fs ≡ m.stack.frames.items → ((s : walk.WalkState State) → leaf (chess_with d l listed cut) n (path (reverse fs)) p s ≡ Err (cause_with (path (reverse fs)) r))
      → Stops known m.names.left (enters m) (full (path (reverse m.stack.frames.items)) (halt.Because r))
  enter_halt known m fs r e is h = subst (λ (v : List Frame). Stops known m.names.left (enters m) (stop.Because (cause_with (path (reverse v)) r))) is (enter_stop known m fs (cause_with (path (reverse fs)) r) e is h)

  -- a node with plies left
  enter_below : (m : Machine) (rest : List ℕ) (room : ℕ) → 0 < k → enters m rest room ≡ (head (chess_with d l listed cut) k p (state_at m rest room) >>= (λ got. opens (chess_with d l listed cut) (k - 1) (path (reverse m.stack.frames.items)) p (frames_of (reverse m.stack.frames.items)) got.0 got.1))
  enter_below m rest room low =
      let e : suc (k - 1) ≡ k = omega arith in
      ap (λ (j : ℕ). enter (chess_with d l listed cut) n j (path (reverse m.stack.frames.items)) p (frames_of (reverse m.stack.frames.items)) (state_at m rest room)) (sym e)
      ∙ ap (λ (j : ℕ). head (chess_with d l listed cut) j p (state_at m rest room) >>= (λ got. opens (chess_with d l listed cut) (k - 1) (path (reverse m.stack.frames.items)) p (frames_of (reverse m.stack.frames.items)) got.0 got.1)) e

  pub enter_unread : (before : Option (List ℕ)) (m : Machine) (s : Stop) → 0 < k → Stops before m.names.left (λ bytes room. head (chess_with d l listed cut) k p (state_at m bytes room)) s → Stops before m.names.left (enters m) s
  enter_unread before m s low h =
      stops_as before m.names.left (λ bytes room. head (chess_with d l listed cut) k p (state_at m bytes room) >>= (λ got. opens (chess_with d l listed cut) (k - 1) (path (reverse m.stack.frames.items)) p (frames_of (reverse m.stack.frames.items)) got.0 got.1)) (enters m) s (λ rest room. enter_below m rest room low)
      (stops_then before m.names.left (λ bytes room. head (chess_with d l listed cut) k p (state_at m bytes room)) (λ got. opens (chess_with d l listed cut) (k - 1) (path (reverse m.stack.frames.items)) p (frames_of (reverse m.stack.frames.items)) got.0 got.1) s h)

  entered : (before after : Option (List ℕ)) (m new : Machine) (shape : walk.Shape) (work : List ℕ → ℕ → Work (chess_with d l listed cut)) → 0 < k
      → Goes before after m.names.left new.names.left (λ bytes room. head (chess_with d l listed cut) k p (state_at m bytes room)) (λ rest room. Ok (shape, state_at new rest room))
      → ((rest : List ℕ) (room : ℕ) → opens (chess_with d l listed cut) (k - 1) (path (reverse m.stack.frames.items)) p (frames_of (reverse m.stack.frames.items)) shape (state_at new rest room) ≡ Ok (work rest room))
      → Goes before after m.names.left new.names.left (enters m) (λ rest room. Ok (work rest room))
  entered before after m new shape work low read_ is =
      goes_as before after m.names.left new.names.left (λ bytes room. head (chess_with d l listed cut) k p (state_at m bytes room) >>= (λ got. opens (chess_with d l listed cut) (k - 1) (path (reverse m.stack.frames.items)) p (frames_of (reverse m.stack.frames.items)) got.0 got.1)) (λ rest room. opens (chess_with d l listed cut) (k - 1) (path (reverse m.stack.frames.items)) p (frames_of (reverse m.stack.frames.items)) shape (state_at new rest room)) (enters m) (λ rest room. Ok (work rest room)) (λ rest room. enter_below m rest room low) is
      (goes_then before after m.names.left new.names.left (λ bytes room. head (chess_with d l listed cut) k p (state_at m bytes room)) (λ rest room. Ok (shape, state_at new rest room)) (λ got. opens (chess_with d l listed cut) (k - 1) (path (reverse m.stack.frames.items)) p (frames_of (reverse m.stack.frames.items)) got.0 got.1) read_)

  heard : (before after : Option (List ℕ)) (m new : Machine) (said meant : Opening) → said ≡ meant → Goes before after m.names.left new.names.left (λ bytes room. head (chess_with d l listed cut) k p (state_at m bytes room)) (λ rest room. Ok (shape_of said, state_at new rest room)) → Goes before after m.names.left new.names.left (λ bytes room. head (chess_with d l listed cut) k p (state_at m bytes room)) (λ rest room. Ok (shape_of meant, state_at new rest room))
  heard before after m new said meant is h = subst (λ (v : Opening). Goes before after m.names.left new.names.left (λ bytes room. head (chess_with d l listed cut) k p (state_at m bytes room)) (λ rest room. Ok (shape_of v, state_at new rest room))) is h

  -- a record that ends the node
  pub enter_done : (before after : Option (List ℕ)) (m new : Machine) (said : Opening) → said ≡ opening.Done → 0 < k → new.stack.frames ≡ m.stack.frames
      → Goes before after m.names.left new.names.left (λ bytes room. head (chess_with d l listed cut) k p (state_at m bytes room)) (λ rest room. Ok (shape_of said, state_at new rest room))
      → Goes before after m.names.left new.names.left (enters m) (λ rest room. Ok (work_at (chess_with d l listed cut) (record new { stack = record new.stack { fertile = false } }) rest room))
  enter_done before after m new said is low same read_ = entered before after m new walk.Done (λ rest room. work_at (chess_with d l listed cut) (record new { stack = record new.stack { fertile = false } }) rest room) low (heard before after m new said opening.Done is read_) (λ rest room. rw same refl)

  -- a record that opens it
  pub enter_opened : (before after : Option (List ℕ)) (m mid new : Machine) (said : Opening) (named : Bool) → said ≡ opening.Opened named → 0 < k → mid.stack.frames ≡ m.stack.frames → new.names.table ≡ mid.names.table → new.input.records ≡ mid.input.records → new.names.left ≡ mid.names.left → new.stack.fertile ≡ false
      → new.stack.frames.items ≡ mid.stack.frames.items ++ (record { moves = record { position = p; last = None }; plies = k - 1; named = named; fertile = false } ∷ [])
      → Goes before after m.names.left mid.names.left (λ bytes room. head (chess_with d l listed cut) k p (state_at m bytes room)) (λ rest room. Ok (shape_of said, state_at mid rest room))
      → Goes before after m.names.left new.names.left (enters m) (λ rest room. Ok (work_at (chess_with d l listed cut) new rest room))
  enter_opened before after m mid new said named is low same table records room found items read_ =
      subst (λ (left : ℕ). Goes before after m.names.left left (enters m) (λ rest x. Ok (work_at (chess_with d l listed cut) new rest x))) (sym room)
      (entered before after m mid (walk.Opened named) (λ rest x. work_at (chess_with d l listed cut) new rest x) low (heard before after m mid said (opening.Opened named) is read_) (λ rest x i. Ok (record { frames = stack i; found = sym found i; state = states rest x i })))
    where
      top : Frame
      top = record { moves = record { position = p; last = None }; plies = k - 1; named = named; fertile = false }

      opened : List Move → List (frames.Frame State Move)
      opened left = record { game = path (reverse m.stack.frames.items); position = p; plies = k - 1; left = left; named = named; found = false } ∷ frames_of (reverse m.stack.frames.items)

      over : frame_of top (reverse mid.stack.frames.items) ∷ frames_of (reverse mid.stack.frames.items) ≡ opened (left_after p None)
      over = rw same refl

      stack : opened ((chess_with d l listed cut).moves p) ≡ frames_of (reverse new.stack.frames.items)
      stack = ap opened (rules_start d l listed cut p) ∙ sym (ap (λ (v : List Frame). frames_of (reverse v)) items ∙ frames_more mid.stack.frames.items top ∙ over)

      states : (rest : List ℕ) (x : ℕ) → state_at mid rest x ≡ state_at new rest x
      states rest x = λ i. record { rest = rest; entries = map entry_of (sym table i).entries; records = sym records i; room = x }

  pub kept_opened : (m mid new : Machine) (said : Opening) (named : Bool) → said ≡ opening.Opened named → mid.stack.frames ≡ m.stack.frames → mid.names.table.kept ≡ m.names.table.kept + opened_by said → m.names.table.kept ≡ count_named (reverse m.stack.frames.items)
      → new.stack.frames.items ≡ mid.stack.frames.items ++ (record { moves = record { position = p; last = None }; plies = k - 1; named = named; fertile = false } ∷ []) → mid.names.table.kept ≡ count_named (reverse new.stack.frames.items)
  kept_opened m mid new said named is same kept was items =
      let held : mid.names.table.kept ≡ m.names.table.kept + one_if named = kept ∙ ap (λ (v : Opening). m.names.table.kept + opened_by v) is in
      let one : count_named (reverse new.stack.frames.items) ≡ one_if named + count_named (reverse mid.stack.frames.items) = ap (λ (v : List Frame). count_named (reverse v)) items ∙ count_more mid.stack.frames.items (record { moves = record { position = p; last = None }; plies = k - 1; named = named; fertile = false }) in
      let two : count_named (reverse mid.stack.frames.items) ≡ count_named (reverse m.stack.frames.items) = rw same refl in
      omega arith

-- a record says the same whatever games are listed
head_same : (d : Placement) (l : ℕ) (listed other : List Move → Bool) (cut : Cuts) (k : ℕ) (p : State) → head (chess_with d l other cut) k p ≡ head (chess_with d l listed cut) k p
unfolding chess_with
head_same d l listed other cut k p = refl

pub head_other : (d : Placement) (l : ℕ) (listed : List Move → Bool) (cut : Cuts) (k : ℕ) (p : State) (old new : Point) (result : Result Opening Stop) → Walks old new (head (chess_with d l any_game cut) k p) (λ node s. (shape_of node, s)) result → Walks old new (head (chess_with d l listed cut) k p) (λ node s. (shape_of node, s)) result
head_other d l listed cut k p old new result h = subst (λ v. Walks old new v (λ node s. (shape_of node, s)) result) (head_same d l listed any_game cut k p) h
