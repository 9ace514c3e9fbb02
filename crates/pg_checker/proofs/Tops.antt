-- What is written at the topmost frame, and what the turns make of it. Leads to the contracts of `turn` and `run`.
use Rattle.pg_checker.proofs.Common.{◌≡◌, ℕ, zero, suc, ◌+◌, ◌<◌, ◌≤◌, Bool, true, ◌||◌, List, [], ◌∷◌, ◌++◌, length, reverse, take, get_or, set, Option, Some, None, MatchOption, Result, Ok, Err, refl, sym, ◌∙◌, ap, subst, arith, lt_of_lt_of_le, ◌==◌, eqb-true, reverse-append, length-append, ArrayVec, Placement, State, Move, IsPosition, IsLast, most_moves, one_if, Cuts, chess_with, AllElsewhere, enter, effort, Stacked, Stop, Closes, HasNone, IsReady, OnTop, Passed, Plays, path, frames_of, count_named, state_at, work_at, Stops, Says, Machine, Stack, TableState}
use Rattle.pg_checker.specs.declared.machine.Frame.{Frame}
use Rattle.pg_checker.proofs.Passing.{runs_over, over_less, frame_plies}
use Rattle.pg_checker.proofs.Running.{Runs, Few, finishes, runs_on, runs_less, runs_stop, runs_skip, skip_less, kept_popped, depth}
use Rattle.pg_checker.proofs.Turning.{closed_by, under, with_frames, kept_pushed, says_tops, tops, tops_say, turn_closes, turn_plays}

front : (fs : List Frame) (n : ℕ) (x : Frame) → length fs ≡ suc n → x ≡ get_or fs n x → fs ≡ take n fs ++ (x ∷ [])
front [] n x e is = absurd (omega arith)
front (f ∷ []) zero x e is = ap (λ (v : Frame). v ∷ []) (sym is)
front (f ∷ g ∷ fs) zero x e is = absurd (omega arith)
front (f ∷ fs) (suc n) x e is = ap (λ (v : List Frame). f ∷ v) (front fs n x (omega arith) is)

front_set : (fs : List Frame) (n : ℕ) (y : Frame) → length fs ≡ suc n → set fs n y ≡ take n fs ++ (y ∷ [])
front_set [] n y e = absurd (omega arith)
front_set (f ∷ []) zero y e = refl
front_set (f ∷ g ∷ fs) zero y e = absurd (omega arith)
front_set (f ∷ fs) (suc n) y e = ap (λ (v : List Frame). f ∷ v) (front_set fs n y (omega arith))

pub on_top : (did : Frame → Frame → Type 0) (old : List Frame) (n : ℕ) (x y : Frame) → length old ≡ suc n → x ≡ get_or old n x → did x y → OnTop did old (set old n y)
on_top did old n x y e is happened = record { below = take n old; before = x; after = y; was = front old n x e is; is = front_set old n y e; happened = happened }

pub each_on_top : {X : Type 0} (r : Option X) (none : Frame → Frame → Type 0) (some : X → Frame → Frame → Type 0) (old : List Frame) (n : ℕ) (x y : Frame) → length old ≡ suc n → x ≡ get_or old n x → MatchOption r (none x y) (λ v. some v x y) → MatchOption r (OnTop none old (set old n y)) (λ v. OnTop (some v) old (set old n y))
each_on_top None none some old n x y e is h = on_top none old n x y e is h
each_on_top (Some v) none some old n x y e is h = on_top (some v) old n x y e is h

-- the last frame of a list is one
top_of : Frame → List Frame → Frame
top_of d [] = d
top_of d (f ∷ fs) = f

last_is : (xs ys : List Frame) (x y : Frame) → xs ++ (x ∷ []) ≡ ys ++ (y ∷ []) → x ≡ y
unfolding top_of
last_is xs ys x y e = sym (ap (top_of x) (reverse-append xs (x ∷ []))) ∙ ap (λ (v : List Frame). top_of x (reverse v)) e ∙ ap (top_of x) (reverse-append ys (y ∷ []))

pub no_items : (items : List Frame) (b : Bool) → b ≡ (length items == 0) → b ≡ true → items ≡ []
no_items [] b is e = refl
no_items (f ∷ fs) b is e = absurd (let none : suc (length fs) ≡ 0 = eqb-true (suc (length fs)) 0 (sym is ∙ e) in omega arith)

-- where nothing is played, nothing is written
pub same_items : (old new : List Frame) → OnTop HasNone old new → new ≡ old
same_items old new w = w.is ∙ ap (λ (f : Frame). w.below ++ (f ∷ [])) w.happened.1 ∙ sym w.was

pub play_depth : {found : Bool} {p : State} (n plies : ℕ) (old new : List Frame) → OnTop (Plays found p plies) old new → Stacked n (frames_of (reverse old)) → plies + length new ≡ n
play_depth n plies old new w stacked =
    let deep : w.before.plies + suc (length w.below) ≡ n = depth n old w.below w.before w.was stacked in
    let long : length new ≡ length w.below + 1 = ap length w.is ∙ length-append w.below (w.after ∷ []) in
    let same : plies ≡ w.before.plies = w.happened.below in
    omega arith

pub play_kept : {found : Bool} {p : State} (plies : ℕ) (m : Machine) (new : List Frame) → OnTop (Plays found p plies) m.stack.frames.items new → m.names.table.kept ≡ count_named (reverse m.stack.frames.items) → m.names.table.kept ≡ count_named (reverse new)
play_kept plies m new w kept = kept_pushed (under m w.below) new w.before w.after (ap (λ (f : Frame). f.named) w.happened.advanced) (kept_popped m.names.table.kept m.stack.frames.items w.below w.before w.was kept) w.is

pub closes_kept : (old new : Stack) (before after : TableState) → Closes old new before after → before.kept ≡ count_named (reverse old.frames.items) → after.kept ≡ count_named (reverse new.frames.items)
closes_kept old new before after cl kept =
    let one : before.kept ≡ one_if cl.top.named + count_named (reverse cl.below) = kept_popped before.kept old.frames.items cl.below cl.top cl.was kept in
    let two : after.kept + one_if cl.top.named ≡ before.kept = cl.kept in
    let three : after.kept ≡ count_named (reverse cl.below) = omega arith in
    three ∙ ap (λ (v : ArrayVec Frame). count_named (reverse v.items)) (sym cl.frames)

module _ (d : Placement) (l : ℕ) (listed : List Move → Bool) (cut : Cuts) (n : ℕ) where
  -- ---- one turn
  pub top_plays : (before after : Option (List ℕ)) (m mid new : Machine) (p : State) (plies : ℕ) (res : Result (Unit {0}) Stop) → OnTop (Plays m.stack.fertile p plies) m.stack.frames.items mid.stack.frames.items → mid.names.table ≡ m.names.table → mid.input.records ≡ m.input.records → mid.names.left ≡ m.names.left
      → Says before after mid.names.left new.names.left (λ rest x. enter (chess_with d l listed cut) n plies (path (reverse mid.stack.frames.items)) p (frames_of (reverse mid.stack.frames.items)) (state_at mid rest x)) (λ _ rest x. work_at (chess_with d l listed cut) new rest x) res
      → Says before after m.names.left new.names.left (tops d l listed cut n m) (λ _ rest x. work_at (chess_with d l listed cut) new rest x) res
  top_plays before after m mid new p plies res w table records room h =
      says_tops d l listed cut n before after m new w.below w.before res w.was
      (turn_plays d l listed cut n before after w.before w.after (under m w.below) mid new p w.happened.move (w.before.fertile || m.stack.fertile) res w.happened.advanced refl w.happened.next w.happened.position w.happened.leads w.is table records room
      (subst (λ (k : ℕ). Says before after mid.names.left new.names.left (λ rest x. enter (chess_with d l listed cut) n k (path (reverse mid.stack.frames.items)) p (frames_of (reverse mid.stack.frames.items)) (state_at mid rest x)) (λ _ rest x. work_at (chess_with d l listed cut) new rest x) res) w.happened.below h))

  pub top_closes : (known : Option (List ℕ)) (m : Machine) (fs : ArrayVec Frame) (stack : Stack) (table : TableState) → OnTop HasNone m.stack.frames.items fs.items → Closes (record m.stack { frames = fs }) stack m.names.table table
      → Says {X = Unit {0}} known known m.names.left m.names.left (tops d l listed cut n m) (λ _ rest x. work_at (chess_with d l listed cut) (closed_by m stack table) rest x) (Ok tt)
  top_closes known m fs stack table w cl =
      let one : w.before ≡ cl.top = sym w.happened.1 ∙ last_is w.below cl.below w.after cl.top (sym w.is ∙ cl.was) in
      says_tops d l listed cut n known known m (closed_by m stack table) cl.below cl.top (Ok tt) (sym (same_items m.stack.frames.items fs.items w) ∙ cl.was)
      (turn_closes d l listed cut n known cl.top (under m cl.below) (closed_by m stack table) (cl.top.fertile || m.stack.fertile) refl (subst (λ (f : Frame). IsLast f.moves.position f.moves.last) one w.happened.0) cl.frames refl refl cl.fertile cl.entries)

  -- ---- the loop: past leaves that are not on the diagram
  pub passed_on : {over : Bool} (before here : Option (List ℕ)) (old now : Machine) (fs : ArrayVec Frame) → Runs d l listed cut n before here old now → OnTop (Passed d over) now.stack.frames.items fs.items → Runs d l listed cut n before here old (with_frames now fs)
  passed_on before here old now fs run w =
      subst (λ (v : List Frame). Runs d l listed cut n before here old (with_frames now (record { items = v }))) (sym w.is)
      (runs_over d l listed cut n old now (under now w.below) w.before w.after run w.was w.happened.position w.happened.frame w.happened.passed w.happened.inner)

  passed_less : {over : Bool} (now : Machine) (fs : ArrayVec Frame) → OnTop (Passed d over) now.stack.frames.items fs.items
      → effort (chess_with d l listed cut) most_moves (work_at (chess_with d l listed cut) (with_frames now fs) [] 0) ≤ effort (chess_with d l listed cut) most_moves (work_at (chess_with d l listed cut) now [] 0)
  passed_less now fs w =
      subst (λ (v : List Frame). effort (chess_with d l listed cut) most_moves (work_at (chess_with d l listed cut) (with_frames now (record { items = v })) [] 0) ≤ effort (chess_with d l listed cut) most_moves (work_at (chess_with d l listed cut) now [] 0)) (sym w.is)
      (over_less d l listed cut n now (under now w.below) w.before w.after w.was w.happened.frame w.happened.passed)

  -- then a turn
  pub turn_runs : {over : Bool} (before here after : Option (List ℕ)) (old now new : Machine) (fs : ArrayVec Frame) → Runs d l listed cut n before here old now → OnTop (Passed d over) now.stack.frames.items fs.items
      → Says {X = Unit {0}} here after now.names.left new.names.left (tops d l listed cut n (with_frames now fs)) (λ _ rest x. work_at (chess_with d l listed cut) new rest x) (Ok tt)
      → IsReady cut.version new → Few here after now.input.records new.input.records → Runs d l listed cut n before after old new
  turn_runs before here after old now new fs run w says ready few =
      runs_on d l listed cut n before here after old (with_frames now fs) (under now w.below) new w.after (passed_on before here old now fs run w) w.is refl refl refl refl
      (tops_say d l listed cut n here after (with_frames now fs) new w.below w.after (Ok tt) w.is says) ready few

  pub turn_less : {over : Bool} (here after : Option (List ℕ)) (now new : Machine) (fs : ArrayVec Frame) → OnTop (Passed d over) now.stack.frames.items fs.items
      → Says {X = Unit {0}} here after now.names.left new.names.left (tops d l listed cut n (with_frames now fs)) (λ _ rest x. work_at (chess_with d l listed cut) new rest x) (Ok tt)
      → effort (chess_with d l listed cut) most_moves (work_at (chess_with d l listed cut) new [] 0) < effort (chess_with d l listed cut) most_moves (work_at (chess_with d l listed cut) now [] 0)
  turn_less here after now new fs w says =
      lt_of_lt_of_le (runs_less d l listed cut n here after (with_frames now fs) (under now w.below) new w.after w.is refl (tops_say d l listed cut n here after (with_frames now fs) new w.below w.after (Ok tt) w.is says)) (passed_less now fs w)

  pub turn_stops : {over : Bool} (before here after : Option (List ℕ)) (old now new : Machine) (fs : ArrayVec Frame) (s : Stop) → Runs d l listed cut n before here old now → OnTop (Passed d over) now.stack.frames.items fs.items
      → Stops here now.names.left (tops d l listed cut n (with_frames now fs)) s → Stops before old.names.left (finishes d l listed cut n old) s
  turn_stops before here after old now new fs s run w says =
      runs_stop d l listed cut n before here old (with_frames now fs) (under now w.below) w.after s (passed_on before here old now fs run w) w.is refl refl refl refl
      (tops_say d l listed cut n here after (with_frames now fs) new w.below w.after (Err s) w.is says)

  -- or the node is over
  pub close_runs : {over : Bool} (before here : Option (List ℕ)) (old now : Machine) (fs : ArrayVec Frame) (stack : Stack) (table : TableState) → over ≡ true → Runs d l listed cut n before here old now → OnTop (Passed d over) now.stack.frames.items fs.items → Closes (record now.stack { frames = fs }) stack now.names.table table → Runs d l listed cut n before here old (closed_by now stack table)
  close_runs before here old now fs stack table e run w cl =
      let ends = w.happened.ends e in
      let last : w.after.plies ≡ 0 = frame_plies d l listed cut n w.before w.after w.happened.frame ∙ ends.0 in
      let valid : IsPosition w.after.moves.position = subst (λ (p : State). IsPosition p) (sym w.happened.passed.position) (w.happened.position ends.0) in
      let one : w.after ≡ cl.top = last_is w.below cl.below w.after cl.top (sym w.is ∙ cl.was) in
      let all : (cl.top.plies ≡ 0) × (IsPosition cl.top.moves.position × AllElsewhere d cl.top.moves) = subst (λ (f : Frame). (f.plies ≡ 0) × (IsPosition f.moves.position × AllElsewhere d f.moves)) one (last, (valid, ends.1)) in
      runs_skip d l listed cut n before here old (with_frames now fs) (under now cl.below) (closed_by now stack table) cl.top (cl.top.fertile || now.stack.fertile) (passed_on before here old now fs run w) cl.was all.0 all.1.0 all.1.1 refl cl.frames refl refl refl cl.fertile cl.kept cl.entries

  pub close_less : {over : Bool} (now : Machine) (fs : ArrayVec Frame) (stack : Stack) (table : TableState) → OnTop (Passed d over) now.stack.frames.items fs.items → Closes (record now.stack { frames = fs }) stack now.names.table table
      → effort (chess_with d l listed cut) most_moves (work_at (chess_with d l listed cut) (closed_by now stack table) [] 0) < effort (chess_with d l listed cut) most_moves (work_at (chess_with d l listed cut) now [] 0)
  close_less now fs stack table w cl = lt_of_lt_of_le (skip_less d l listed cut n (with_frames now fs) (under now cl.below) (closed_by now stack table) cl.top cl.was cl.frames refl) (passed_less now fs w)
