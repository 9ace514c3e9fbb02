-- One tree after the other. Leads to the contracts of `tree_of` and `all_trees`.
use Rattle.pg_checker.proofs.Common.{◌≡◌, ℕ, suc, ◌+◌, ◌-◌, ◌<◌, ◌≤◌, Bool, List, [], ◌++◌, reverse, Option, Result, Ok, Err, refl, sym, ◌∙◌, ap, subst, arith, Placement, State, Move, visit, run, finish, enter, Stacked, Cuts, chess_with, IsReady, path, frames_of, count_named, state_at, work_at, Goes, Stops, Says, Machine, Stop}
use Rattle.pg_checker.specs.Tree as tree
use Rattle.pg_checker.specs.Walk as walk
use Rattle.pg_checker.specs.Walk.{◌>>=◌}
use Rattle.pg_checker.specs.inner.Steps.{Answer}
use Rattle.pg_checker.specs.declared.machine.Frame.{Frame}
use Rattle.pg_checker.proofs.Frames.{start_is, enter_stacked}
use Rattle.pg_checker.proofs.FrameViews.{path_none}
use Rattle.pg_checker.proofs.Goings.{stays, goes_on, goes_as, goes_then, stops_on, stops_then, stops_as}
use Rattle.pg_checker.proofs.Enters.{enters}
use Rattle.pg_checker.proofs.Running.{finishes, frames_none, count_none, Few, few_none, few_on}

-- where no node is open, no place is kept
pub kept_none : (kept : ℕ) (items : List Frame) → items ≡ [] → kept ≡ 0 → kept ≡ count_named (reverse items)
kept_none kept items none is = is ∙ sym (ap (λ (v : List Frame). count_named (reverse v)) none ∙ count_none)

module _ (d : Placement) (l : ℕ) (listed : List Move → Bool) (cut : Cuts) (p : State) where
  abbrev pub visits : ℕ → Machine → Answer (Bool × walk.WalkState State)
  visits n m rest room = visit (chess_with d l listed cut) n n [] p (state_at m rest room)

  -- the root is entered, and then the rest
  root : (n : ℕ) (m : Machine) → m.stack.frames.items ≡ [] → (rest : List ℕ) (room : ℕ) → visits n m rest room ≡ (enters d l listed cut n n p m rest room >>= finish (chess_with d l listed cut) n)
  root n m none rest room =
      start_is (chess_with d l listed cut) n n [] p (state_at m rest room)
      ∙ ap (λ (g : List Move). enter (chess_with d l listed cut) n n g p [] (state_at m rest room) >>= finish (chess_with d l listed cut) n) (sym (ap (λ (v : List Frame). path (reverse v)) none ∙ path_none))
      ∙ ap (λ v. enter (chess_with d l listed cut) n n (path (reverse m.stack.frames.items)) p v (state_at m rest room) >>= finish (chess_with d l listed cut) n) (sym (ap (λ (v : List Frame). frames_of (reverse v)) none ∙ frames_none))

  pub tree_says : (n : ℕ) (a b c : Option (List ℕ)) (m mid new : Machine) (res : Result (Unit {0}) Stop) → m.stack.frames.items ≡ []
      → Goes a b m.names.left mid.names.left (enters d l listed cut n n p m) (λ rest room. Ok (work_at (chess_with d l listed cut) mid rest room))
      → Says b c mid.names.left new.names.left (finishes d l listed cut n mid) (λ _ rest room. (new.stack.fertile, state_at new rest room)) res
      → Says a c m.names.left new.names.left (visits n m) (λ _ rest room. (new.stack.fertile, state_at new rest room)) res
  tree_says n a b c m mid new (Ok u) none entering h =
      goes_on a b c m.names.left mid.names.left new.names.left (visits n m) (finishes d l listed cut n mid) (λ rest room. Ok (new.stack.fertile, state_at new rest room))
      (goes_as a b m.names.left mid.names.left (λ rest x. enters d l listed cut n n p m rest x >>= finish (chess_with d l listed cut) n) (finishes d l listed cut n mid) (visits n m) (finishes d l listed cut n mid) (root n m none) (λ rest x. refl)
      (goes_then a b m.names.left mid.names.left (enters d l listed cut n n p m) (λ rest x. Ok (work_at (chess_with d l listed cut) mid rest x)) (finish (chess_with d l listed cut) n) entering)) h
  tree_says n a b c m mid new (Err s) none entering h =
      stops_on a b m.names.left mid.names.left (visits n m) (finishes d l listed cut n mid) s
      (goes_as a b m.names.left mid.names.left (λ rest x. enters d l listed cut n n p m rest x >>= finish (chess_with d l listed cut) n) (finishes d l listed cut n mid) (visits n m) (finishes d l listed cut n mid) (root n m none) (λ rest x. refl)
      (goes_then a b m.names.left mid.names.left (enters d l listed cut n n p m) (λ rest x. Ok (work_at (chess_with d l listed cut) mid rest x)) (finish (chess_with d l listed cut) n) entering)) h

  pub tree_stops : (n : ℕ) (a : Option (List ℕ)) (m : Machine) (s : Stop) → m.stack.frames.items ≡ [] → Stops a m.names.left (enters d l listed cut n n p m) s → Stops a m.names.left (visits n m) s
  tree_stops n a m s none h = stops_as a m.names.left (λ rest x. enters d l listed cut n n p m rest x >>= finish (chess_with d l listed cut) n) (visits n m) s (root n m none) (stops_then a m.names.left (enters d l listed cut n n p m) (finish (chess_with d l listed cut) n) s h)

  pub root_stacked : (n : ℕ) (a b : Option (List ℕ)) (m new : Machine) → m.stack.frames.items ≡ [] → Goes a b m.names.left new.names.left (enters d l listed cut n n p m) (λ rest room. Ok (work_at (chess_with d l listed cut) new rest room)) → Stacked n (frames_of (reverse new.stack.frames.items))
  root_stacked n a b m new none entering =
      enter_stacked (chess_with d l listed cut) n n n [] p [] (state_at m (entering.taken ++ []) (entering.used + 0)) (work_at (chess_with d l listed cut) new [] 0) (omega arith) tt
      ((ap (λ (g : List Move). enter (chess_with d l listed cut) n n g p [] (state_at m (entering.taken ++ []) (entering.used + 0))) (sym (ap (λ (v : List Frame). path (reverse v)) none ∙ path_none))
      ∙ ap (λ v. enter (chess_with d l listed cut) n n (path (reverse m.stack.frames.items)) p v (state_at m (entering.taken ++ []) (entering.used + 0))) (sym (ap (λ (v : List Frame). frames_of (reverse v)) none ∙ frames_none))) ∙ entering.same [] 0)

  -- the root is entered at the position
  pub entered_at : (n : ℕ) (a b : Option (List ℕ)) (m new : Machine) (q : State) → q ≡ p → Goes a b m.names.left new.names.left (enters d l listed cut n n q m) (λ rest room. Ok (work_at (chess_with d l listed cut) new rest room)) → Goes a b m.names.left new.names.left (enters d l listed cut n n p m) (λ rest room. Ok (work_at (chess_with d l listed cut) new rest room))
  entered_at n a b m new q is h = subst (λ (v : State). Goes a b m.names.left new.names.left (enters d l listed cut n n v m) (λ rest room. Ok (work_at (chess_with d l listed cut) new rest room))) is h

  pub stops_at : (n : ℕ) (a : Option (List ℕ)) (m : Machine) (s : Stop) (q : State) → q ≡ p → Stops a m.names.left (enters d l listed cut n n q m) s → Stops a m.names.left (enters d l listed cut n n p m) s
  stops_at n a m s q is h = subst (λ (v : State). Stops a m.names.left (enters d l listed cut n n v m) s) is h

  -- ---- all trees
  abbrev pub runs_from : ℕ → Machine → Answer (walk.WalkState State)
  runs_from n m rest room = run (chess_with d l listed cut) (suc l - n) n p (state_at m rest room)

  abbrev pub runs_all : Machine → Answer (walk.WalkState State)
  runs_all m rest room = run (chess_with d l listed cut) (suc l) 0 p (state_at m rest room)

  -- what holds before the tree of length n
  pub record Trees (before after : Option (List ℕ)) (n : ℕ) (old now : Machine) : Type 0 where
    pub closed : now.stack.frames.items ≡ []
    pub ready : IsReady cut.version now
    pub within : n ≤ l
    pub few : Few before after old.input.records now.input.records
    pub goes : Goes before after old.names.left now.names.left (runs_all old) (runs_from n now)

  pub trees_start : (known : Option (List ℕ)) (m : Machine) → m.stack.frames.items ≡ [] → IsReady cut.version m → Trees known known 0 m m
  trees_start known m closed ready = record { closed = closed; ready = ready; within = omega arith; few = few_none known m.input.records; goes = stays known m.names.left (runs_all m) (runs_from 0 m) (λ rest room. (let e : suc l - 0 ≡ suc l = omega arith in ap (λ (c : ℕ). run (chess_with d l listed cut) c 0 p (state_at m rest room)) (sym e))) }

  next_tree : (n : ℕ) (s : walk.WalkState State) → n ≤ l → run (chess_with d l listed cut) (suc l - n) n p s ≡ (visit (chess_with d l listed cut) n n [] p s >>= (λ got. run (chess_with d l listed cut) (suc l - (n + 1)) (n + 1) p got.1))
  unfolding run
  next_tree n s low =
      let e : suc l - n ≡ suc (suc l - (n + 1)) = omega arith in
      let f : suc n ≡ n + 1 = omega arith in
      ap (λ (c : ℕ). run (chess_with d l listed cut) c n p s) e ∙ ap (λ (m : ℕ). visit (chess_with d l listed cut) n n [] p s >>= (λ got. run (chess_with d l listed cut) (suc l - (n + 1)) m p got.1)) f

  abbrev then_trees : ℕ → Bool × walk.WalkState State → Result (walk.WalkState State) (tree.Cause Move)
  then_trees n got = run (chess_with d l listed cut) (suc l - (n + 1)) (n + 1) p got.1

  one_tree : (here after : Option (List ℕ)) (n : ℕ) (now new : Machine) → n ≤ l → Goes here after now.names.left new.names.left (visits n now) (λ rest room. Ok (new.stack.fertile, state_at new rest room)) → Goes here after now.names.left new.names.left (runs_from n now) (runs_from (n + 1) new)
  one_tree here after n now new low visiting =
      goes_as here after now.names.left new.names.left (λ rest x. visits n now rest x >>= then_trees n) (runs_from (n + 1) new) (runs_from n now) (runs_from (n + 1) new) (λ rest x. next_tree n (state_at now rest x) low) (λ rest x. refl)
      (goes_then here after now.names.left new.names.left (visits n now) (λ rest x. Ok (new.stack.fertile, state_at new rest x)) (then_trees n) visiting)

  pub trees_on : (before here after : Option (List ℕ)) (n : ℕ) (old now new : Machine) → Trees before here n old now → n < l
      → Goes here after now.names.left new.names.left (visits n now) (λ rest room. Ok (new.stack.fertile, state_at new rest room)) → new.stack.frames.items ≡ [] → IsReady cut.version new → Few here after now.input.records new.input.records
      → Trees before after (n + 1) old new
  trees_on before here after n old now new trees low visiting closed ready few = record {
    closed = closed;
    ready = ready;
    within = omega arith;
    few = few_on before here after trees.goes.taken old.input.records now.input.records new.input.records trees.goes.consumes trees.few few;
    goes = goes_on before here after old.names.left now.names.left new.names.left (runs_all old) (runs_from n now) (runs_from (n + 1) new) trees.goes (one_tree here after n now new trees.within visiting);
  }

  pub trees_stop : (before here : Option (List ℕ)) (n : ℕ) (old now : Machine) (s : Stop) → Trees before here n old now → Stops here now.names.left (visits n now) s → Stops before old.names.left (runs_all old) s
  trees_stop before here n old now s trees h =
      stops_on before here old.names.left now.names.left (runs_all old) (runs_from n now) s trees.goes
      (stops_as here now.names.left (λ rest x. visits n now rest x >>= then_trees n) (runs_from n now) s (λ rest x. next_tree n (state_at now rest x) trees.within)
      (stops_then here now.names.left (visits n now) (then_trees n) s h))

  pub trees_end : (before here after : Option (List ℕ)) (n : ℕ) (old now new : Machine) → Trees before here n old now → l ≤ n
      → Goes here after now.names.left new.names.left (visits n now) (λ rest room. Ok (new.stack.fertile, state_at new rest room)) → Goes before after old.names.left new.names.left (runs_all old) (λ rest room. Ok (state_at new rest room))
  unfolding run
  trees_end before here after n old now new trees high visiting =
      goes_on before here after old.names.left now.names.left new.names.left (runs_all old) (runs_from n now) (λ rest room. Ok (state_at new rest room)) trees.goes
      (goes_as here after now.names.left new.names.left (runs_from n now) (runs_from (n + 1) new) (runs_from n now) (λ rest room. Ok (state_at new rest room)) (λ rest x. refl) (λ rest x. (let low : n ≤ l = trees.within in let e : suc l - (n + 1) ≡ 0 = omega arith in ap (λ (c : ℕ). run (chess_with d l listed cut) c (n + 1) p (state_at new rest x)) e))
      (one_tree here after n now new trees.within visiting))
