-- Passing over moves that do not lead to the diagram leaves what the walk answers. Leads to the contracts of `skip_to_solution` and `run`.
use Rattle.pg_checker.proofs.Common.{◌≡◌, ◌≢◌, ℕ, zero, suc, ◌+◌, ◌<◌, ◌≤◌, Bool, true, false, ◌||◌, List, [], ◌∷◌, ◌++◌, length, reverse, Option, Some, None, Result, IsTrue, ◌↔◌, refl, sym, ◌∙◌, ap, subst, arith, append_assoc, Contains, append-nil, length-append, Contains-append_left, Contains-append_cases, inl, inr, Placement, State, Move, IsPosition, Legal, one_result, IsLastIn, MovesLeft, IsRest, to_square, IsNext, IsLast, Contains-none, Contains-cons, most_moves, visit, each, resume, effort, Stacked, Cuts, chess_with, left_after, path, frame_of, frames_of, count_named, state_at, work_at, LeadsElsewhere, AllElsewhere, PassesOver, PassesMan, Machine}
use Rattle.pg_moves.specs.Targets.{plain_move}
use Rattle.pg_checker.specs.Tree as tree
use Rattle.pg_checker.specs.Walk as walk
use Rattle.pg_checker.specs.Walk.{◌>>=◌}
use Rattle.pg_checker.specs.declared.machine.Frame.{Frame}
use Rattle.pg_checker.proofs.Goings.{goes_as}
use Rattle.pg_checker.proofs.Left.{left_are, left_next, left_last, left_between, left_split, between_are, same_man}
use Rattle.pg_checker.proofs.Running.{Runs, finishes, dry_front, goal_off, frames_popped, kept_popped}
use Rattle.pg_checker.proofs.FrameViews.{frames_more, count_more}
use Rattle.pg_checker.proofs.Played.{moved_played}
use Rattle.pg_checker.proofs.Turning.{with_frames}

-- ---- one move
-- a legal move leads to one position, whose placement was compared
pub played_elsewhere : (d : Placement) (p : State) (m : Move) (r q : State) (b : Bool) → IsPosition p → Legal p m r → Legal p m q → IsTrue b ↔ (r.board ≡ d) → b ≡ false → q.board ≢ d
played_elsewhere d p m r q b valid first second same off e =
    let is : b ≡ true = same.1 (ap (λ (v : State). v.board) (one_result p m r q valid first second) ∙ e) in
    let both : true ≡ false = sym is ∙ off in cc

-- ---- the loop over the moves
pub passes_none : (d : Placement) (moves : MovesLeft) → PassesOver d moves moves
passes_none d moves = record { position = refl; passed = []; left = refl; elsewhere = λ m c. absurd (Contains-none m c) }

-- one move more is passed over
pub passes_more : (d : Placement) (old now new : MovesLeft) (m : Move) → PassesOver d old now → IsNext now.position now.last m → new ≡ record now { last = Some m } → LeadsElsewhere d old.position m → PassesOver d old new
passes_more d old now new m over next is off = record {
  position = ap (λ (v : MovesLeft). v.position) is ∙ over.position;
  passed = over.passed ++ (m ∷ []);
  left = over.left ∙ ap (λ (v : List Move). over.passed ++ v) (left_next old.position now.last m (subst (λ (p : State). IsNext p now.last m) over.position next)) ∙ sym (append_assoc over.passed (m ∷ []) (left_after old.position (Some m))) ∙ ap (λ (v : MovesLeft). (over.passed ++ (m ∷ [])) ++ left_after old.position v.last) (sym is);
  elsewhere = λ n c. elim (Contains-append_cases over.passed (m ∷ []) n c) [
    | inl a ↦ over.elsewhere n a
    | inr b ↦ elim (Contains-cons m n [] b) [
      | inl e ↦ subst (λ (x : Move). LeadsElsewhere d old.position x) e off
      | inr e ↦ absurd (Contains-none n e)
    ]
  ];
}

-- fewer are left then
pub fewer_left : (now new : MovesLeft) (m : Move) → IsNext now.position now.last m → new ≡ record now { last = Some m } → length (left_after new.position new.last) < length (left_after now.position now.last)
fewer_left now new m next is =
    let a : length (left_after now.position now.last) ≡ suc (length (left_after now.position (Some m))) = ap length (left_next now.position now.last m next) in
    let b : length (left_after new.position new.last) ≡ length (left_after now.position (Some m)) = ap (λ (v : MovesLeft). length (left_after v.position v.last)) is in
    omega (arith, a, b)

-- the man that moved last is passed over: by none of his moves, or up to a further one
pub man_passed : (old new : MovesLeft) (rest s : ℕ) → IsRest old.position old.last rest → IsLastIn rest s → new ≡ record old { last = to_square old.last s } → PassesMan old new
unfolding IsRest
man_passed old new rest s h last is = go old.last refl h is
  where
    go : (l : Option Move) → old.last ≡ l → IsRest old.position l rest → new ≡ record old { last = to_square l s } → PassesMan old new
    go None e none is = absurd none
    go (Some a) e left is = inr (a, plain_move a.from s, e, is, refl, ((left.squares s last.on_board).0 last.member).1)

-- the moves of a man all of which lead elsewhere are passed over
pub passes_man : (d : Placement) (old now new : MovesLeft) (r : ℕ) → PassesOver d old now → PassesMan now new → ((a : Move) → now.last ≡ Some a → a.from ≡ r) → ((m : Move) → m.from ≡ r → LeadsElsewhere d old.position m) → PassesOver d old new
passes_man d old now new r over (inl same) of off = subst (λ (v : MovesLeft). PassesOver d old v) (sym same) over
passes_man d old now new r over (inr (a, n, last, is, from, past)) of off = record {
  position = ap (λ (v : MovesLeft). v.position) is ∙ over.position;
  passed = over.passed ++ left_between old.position a n;
  left = over.left
      ∙ ap (λ (l : Option Move). over.passed ++ left_after old.position l) last
      ∙ ap (λ (v : List Move). over.passed ++ v) (left_split old.position a n past)
      ∙ sym (append_assoc over.passed (left_between old.position a n) (left_after old.position (Some n)))
      ∙ ap (λ (v : MovesLeft). (over.passed ++ left_between old.position a n) ++ left_after old.position v.last) (sym is);
  elsewhere = λ m c. elim (Contains-append_cases over.passed (left_between old.position a n) m c) [
    | inl g ↦ over.elsewhere m g
    | inr g ↦ (let k = between_are old.position a n m g in off m (same_man a n m from k.1 k.2 ∙ of a last))
  ];
}

-- the move that was handed out last is of its man
pub last_from : (now new : MovesLeft) (m a : Move) → new ≡ record now { last = Some m } → new.last ≡ Some a → a.from ≡ m.from
last_from now new m a is last =
    let both : Some m ≡ Some a = sym (ap (λ (v : MovesLeft). v.last) is) ∙ last in
    let same : a ≡ m = cc in
    ap (λ (x : Move). x.from) same

-- no more are left then
pub man_fewer : (now new : MovesLeft) → PassesMan now new → length (left_after new.position new.last) ≤ length (left_after now.position now.last)
man_fewer now new (inl same) = let e : length (left_after new.position new.last) ≡ length (left_after now.position now.last) = ap (λ (v : MovesLeft). length (left_after v.position v.last)) same in omega (arith, e)
man_fewer now new (inr (a, n, last, is, from, past)) =
    let e : length (left_after now.position now.last) ≡ length (left_between now.position a n) + length (left_after now.position (Some n)) = ap (λ (l : Option Move). length (left_after now.position l)) last ∙ ap length (left_split now.position a n past) ∙ length-append (left_between now.position a n) (left_after now.position (Some n)) in
    let f : length (left_after new.position new.last) ≡ length (left_after now.position (Some n)) = ap (λ (v : MovesLeft). length (left_after v.position v.last)) is in
    omega (arith, e, f)

-- after the last one none is left
pub none_elsewhere : (d : Placement) (moves : MovesLeft) → IsLast moves.position moves.last → AllElsewhere d moves
none_elsewhere d moves end m c = absurd (Contains-none m (subst (λ (v : List Move). Contains v m) (left_last moves.position moves.last end) c))

-- where none that is left leads to the diagram, all may be passed over
pub passes_all : (d : Placement) (old new : MovesLeft) → AllElsewhere d old → new.position ≡ old.position → IsLast new.position new.last → PassesOver d old new
passes_all d old new off same end = record {
  position = same;
  passed = left_after old.position old.last;
  left = sym (append-nil (left_after old.position old.last)) ∙ ap (λ (v : List Move). left_after old.position old.last ++ v) (sym (left_last old.position new.last (subst (λ (p : State). IsLast p new.last) same end)));
  elsewhere = off;
}

-- ---- the frame on top
-- the machine with this frame on top of those of another
abbrev pub topped : Machine → Machine → Frame → Machine
topped now mid top = with_frames now (record { items = mid.stack.frames.items ++ (top ∷ []) })

same_frame : (top new : Frame) → new ≡ record top { moves = new.moves } → new.moves ≡ top.moves → new ≡ top
same_frame top new is e = is ∙ ap (λ (v : MovesLeft). record top { moves = v }) e

module _ (d : Placement) (l : ℕ) (listed : List Move → Bool) (cut : Cuts) (n : ℕ) where
  -- leaves that are not on the diagram say nothing
  passed_off : (p : State) (ms passed : List Move) (last : Option Move) → IsPosition p → left_after p last ≡ passed ++ ms → ((m : Move) → Contains passed m → LeadsElsewhere d p m) → (m : Move) → Contains passed m → (chess_with d l listed cut).is_goal ((chess_with d l listed cut).play p m) ≡ false
  passed_off p ms passed last valid is off m c =
      goal_off d l listed cut n p m valid (left_are p last m (subst (λ (v : List Move). Contains v m) (sym is) (Contains-append_left passed ms m c))).0 (off m c)

  leaves_over : (now mid : Machine) (top new : Frame) → now.stack.frames.items ≡ mid.stack.frames.items ++ (top ∷ []) → top.plies ≡ 0 → IsPosition top.moves.position → new ≡ record top { moves = new.moves } → PassesOver d top.moves new.moves → (rest : List ℕ) (room : ℕ)
      → finishes d l listed cut n now rest room ≡ finishes d l listed cut n (topped now mid new) rest room
  leaves_over now mid top new items last valid is over rest room =
      ap (λ v. resume (chess_with d l listed cut) n v (now.stack.fertile, state_at now rest room)) (frames_popped now.stack.frames.items mid.stack.frames.items top items)
      ∙ ap (λ (k : ℕ). goes_up k (left_after top.moves.position top.moves.last)) last
      ∙ ap (λ (v : List Move). goes_up 0 v) over.left
      ∙ ap (λ (x : Result (Bool × walk.WalkState State) (tree.Cause Move)). x >>= up) (dry_front d l listed cut n top.moves.position (path (reverse mid.stack.frames.items)) over.passed (left_after top.moves.position new.moves.last) (top.fertile || now.stack.fertile) (state_at now rest room) (passed_off top.moves.position (left_after top.moves.position new.moves.last) over.passed top.moves.last valid over.left over.elsewhere))
      ∙ ap (λ (k : ℕ). goes_up k (left_after top.moves.position new.moves.last)) (sym last)
      ∙ ap (λ (f : Frame). resume (chess_with d l listed cut) n (frame_of f (reverse mid.stack.frames.items) ∷ frames_of (reverse mid.stack.frames.items)) (now.stack.fertile, state_at now rest room)) (sym (is ∙ ap (λ (p : State). record top { moves = record { position = p; last = new.moves.last } }) over.position))
      ∙ ap (λ v. resume (chess_with d l listed cut) n v (now.stack.fertile, state_at now rest room)) (sym (frames_popped (mid.stack.frames.items ++ (new ∷ [])) mid.stack.frames.items new refl))
    where
      up : Bool × walk.WalkState State → Result (Bool × walk.WalkState State) (tree.Cause Move)
      up all = walk.close (chess_with d l listed cut) top.named (suc top.plies) top.moves.position all >>= resume (chess_with d l listed cut) n (frames_of (reverse mid.stack.frames.items))

      goes_up : ℕ → List Move → Result (Bool × walk.WalkState State) (tree.Cause Move)
      goes_up k ms = each (chess_with d l listed cut) (visit (chess_with d l listed cut) n k) (path (reverse mid.stack.frames.items)) top.moves.position ms (top.fertile || now.stack.fertile) (state_at now rest room) >>= up

  over_same : (now mid : Machine) (top new : Frame) (k : ℕ) → top.plies ≡ k → now.stack.frames.items ≡ mid.stack.frames.items ++ (top ∷ []) → (k ≡ 0 → IsPosition top.moves.position) → new ≡ record top { moves = new.moves } → PassesOver d top.moves new.moves → (0 < top.plies → new.moves ≡ top.moves) → (rest : List ℕ) (room : ℕ)
      → finishes d l listed cut n now rest room ≡ finishes d l listed cut n (topped now mid new) rest room
  over_same now mid top new zero plies items valid is over same rest room = leaves_over now mid top new items plies (valid refl) is over rest room
  over_same now mid top new (suc k) plies items valid is over same rest room =
      ap (λ (v : List Frame). finishes d l listed cut n (with_frames now (record { items = v })) rest room) (items ∙ ap (λ (f : Frame). mid.stack.frames.items ++ (f ∷ [])) (sym (same_frame top new is (same (omega (arith, plies))))))

  pub frame_plies : (top new : Frame) → new ≡ record top { moves = new.moves } → new.plies ≡ top.plies
  frame_plies top new is = ap (λ (f : Frame). f.plies) is

  -- what holds at each turn holds past such moves
  pub runs_over : {before here : Option (List ℕ)} (old now mid : Machine) (top new : Frame) → Runs d l listed cut n before here old now → now.stack.frames.items ≡ mid.stack.frames.items ++ (top ∷ []) → (top.plies ≡ 0 → IsPosition top.moves.position) → new ≡ record top { moves = new.moves } → PassesOver d top.moves new.moves → (0 < top.plies → new.moves ≡ top.moves)
      → Runs d l listed cut n before here old (topped now mid new)
  runs_over {before} {here} old now mid top new run items valid is over same = record {
    stacked = subst (λ v. Stacked n v) (sym (frames_more mid.stack.frames.items new)) (let s : Stacked n (frame_of top (reverse mid.stack.frames.items) ∷ frames_of (reverse mid.stack.frames.items)) = subst (λ v. Stacked n v) (frames_popped now.stack.frames.items mid.stack.frames.items top items) run.stacked in (ap (λ (k : ℕ). k + suc (length (frames_of (reverse mid.stack.frames.items)))) (frame_plies top new is) ∙ s.0, s.1));
    ready = record {
      reader = run.ready.reader;
      kept = kept_popped now.names.table.kept now.stack.frames.items mid.stack.frames.items top items run.ready.kept ∙ ap (λ (f : Frame). tree.one_if f.named + count_named (reverse mid.stack.frames.items)) (sym is) ∙ sym (count_more mid.stack.frames.items new);
      played = moved_played now.stack.frames.items mid.stack.frames.items (mid.stack.frames.items ++ (new ∷ [])) top new items refl (ap (λ (f : Frame). f.moves.position) is ∙ over.position) run.ready.played;
    };
    few = run.few;
    goes = goes_as before here old.names.left now.names.left (finishes d l listed cut n old) (finishes d l listed cut n now) (finishes d l listed cut n old) (finishes d l listed cut n (topped now mid new)) (λ rest x. refl) (over_same now mid top new top.plies refl items valid is over same) run.goes;
  }

  -- and there is no more to do
  pub over_less : (now mid : Machine) (top new : Frame) → now.stack.frames.items ≡ mid.stack.frames.items ++ (top ∷ []) → new ≡ record top { moves = new.moves } → PassesOver d top.moves new.moves
      → effort (chess_with d l listed cut) most_moves (work_at (chess_with d l listed cut) (topped now mid new) [] 0) ≤ effort (chess_with d l listed cut) most_moves (work_at (chess_with d l listed cut) now [] 0)
  over_less now mid top new items is over =
      let shorter : length (left_after top.moves.position top.moves.last) ≡ length over.passed + length (left_after top.moves.position new.moves.last) = ap length over.left ∙ length-append over.passed (left_after top.moves.position new.moves.last) in
      let as_left : length (left_after new.moves.position new.moves.last) ≡ length (left_after top.moves.position new.moves.last) = ap (λ (p : State). length (left_after p new.moves.last)) over.position in
      subst (λ v. effort (chess_with d l listed cut) most_moves (record { frames = v; found = now.stack.fertile; state = state_at now [] 0 }) ≤ effort (chess_with d l listed cut) most_moves (work_at (chess_with d l listed cut) now [] 0)) (sym (frames_more mid.stack.frames.items new))
      (subst (λ v. effort (chess_with d l listed cut) most_moves (record { frames = frame_of new (reverse mid.stack.frames.items) ∷ frames_of (reverse mid.stack.frames.items); found = now.stack.fertile; state = state_at now [] 0 }) ≤ effort (chess_with d l listed cut) most_moves (record { frames = v; found = now.stack.fertile; state = state_at now [] 0 })) (sym (frames_popped now.stack.frames.items mid.stack.frames.items top items))
      (omega (arith, shorter, as_left)))
