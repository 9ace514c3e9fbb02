-- The walk with a stack of open nodes in place of the recursion.
use Rattle.std.specs.Prelude.{◌≡◌, ℕ, zero, suc, ◌+◌, ◌*◌, Bool, false, ◌||◌, List, [], ◌∷◌, ◌++◌, length, Result, Ok}
use Rattle.pg_checker.specs.Tree.{Cause, Rules, entry}
use Rattle.pg_checker.specs.Walk.{◌>>=◌, WalkState, Shape, Done, Opened, visit, each, close, head, leaf}

-- An open node: how it was reached, the plies left below it, the moves that are not yet played, and whether a child so far is fertile.
pub record Frame (P M : Type 0) : Type 0 where
  pub game : List M
  pub position : P
  pub plies : ℕ
  pub left : List M
  pub named : Bool
  pub found : Bool

module _ {P M : Type 0} (r : Rules P M) where
  -- what the rest of the walk answers, once the subtree at hand answered got
  abbrev pub resume : ℕ → List (Frame P M) → Bool × WalkState P → Result (Bool × WalkState P) (Cause M)
  resume n [] got = Ok got
  resume n (f ∷ fs) got = do
    all ← each r (visit r n f.plies) f.game f.position f.left (f.found || got.0) got.1
    last ← close r f.named (suc f.plies) f.position all
    resume n fs last

  -- what is left to do: the open nodes, whether the subtree that just ended is fertile, and the state
  pub record Work : Type 0 where
    pub frames : List (Frame P M)
    pub found : Bool
    pub state : WalkState P

  abbrev pub finish : ℕ → Work → Result (Bool × WalkState P) (Cause M)
  finish n w = resume n w.frames (w.found, w.state)

  -- a node is entered: a leaf, or a record that ends it or opens it
  abbrev pub opens : ℕ → List M → P → List (Frame P M) → Shape → WalkState P → Result Work (Cause M)
  opens k g p fs Done s = Ok (record { frames = fs; found = false; state = s })
  opens k g p fs (Opened is_named) s = Ok (record { frames = record { game = g; position = p; plies = k; left = r.moves p; named = is_named; found = false } ∷ fs; found = false; state = s })

  abbrev pub enter : ℕ → ℕ → List M → P → List (Frame P M) → WalkState P → Result Work (Cause M)
  enter n zero g p fs s = do
    got ← leaf r n g p s
    Ok (record { frames = fs; found = got.0; state = got.1 })
  enter n (suc k) g p fs s = do
    got ← head r (suc k) p s
    opens k g p fs got.0 got.1

  -- one turn of the loop at the topmost frame: its next move is played, or it closes
  abbrev pub turn_at : ℕ → Frame P M → List (Frame P M) → Bool → WalkState P → List M → Result Work (Cause M)
  turn_at n f fs found s [] = Ok (record { frames = fs; found = f.found || found; state = record s { entries = s.entries ++ entry r f.named (suc f.plies) f.position (f.found || found) } })
  turn_at n f fs found s (m ∷ ms) = enter n f.plies (f.game ++ (m ∷ [])) (r.play f.position m) (record f { left = ms; found = f.found || found } ∷ fs) s

  abbrev pub turn : ℕ → Frame P M → List (Frame P M) → Bool → WalkState P → Result Work (Cause M)
  turn n f fs found s = turn_at n f fs found s f.left

  -- the same of the whole stack; where nothing is open, nothing is done
  abbrev pub turn_top : ℕ → List (Frame P M) → Bool → WalkState P → Result Work (Cause M)
  turn_top n [] found s = Ok (record { frames = []; found = found; state = s })
  turn_top n (f ∷ fs) found s = turn n f fs found s

  -- how much is left to do, where no position has more than most moves
  abbrev pub load : List (Frame P M) → ℕ
  load [] = 0
  load (f ∷ fs) = suc (length f.left) + load fs

  abbrev pub effort : ℕ → Work → ℕ
  effort most w = w.state.records * suc (suc most) + load w.frames

-- each open node has one ply less than the one below it in the stack, and the last one less than the tree
abbrev pub Stacked : {P M : Type 0} → ℕ → List (Frame P M) → Type 0
Stacked n [] = Unit {0}
Stacked n (f ∷ fs) = (f.plies + suc (length fs) ≡ n) × Stacked n fs
