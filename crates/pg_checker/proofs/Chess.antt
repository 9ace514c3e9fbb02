-- The walk over chess: its games are those of chess, and a yes proves the exact answer.
use Rattle.pg_checker.proofs.Common.{◌≡◌, ◌≢◌, ◌↔◌, ℕ, zero, suc, ◌<◌, ◌≤◌, Bool, true, false, cond, eqb, List, [], ◌∷◌, length, Ok, Err, refl, sym, ◌∙◌, ap, subst, inl, inr, ◌⊎◌, arith, Contains, Decides, Decides-eqb, eqb_tells, Placement, placement_eq_decides, State, Move, IsPosition, Legal, IsLegal, IsGame, array_state, array_position, SameFuture, legal_position, future_sym, same_games, same_ends, moves_of_is, few_moves, play_of_is, most_moves, Rules, Trees, EndsOnGoal, TooManyNamed, spelling_all, records_all, IsExact, IsRight, IsComplete, IsCertificate, answer, full_from, IsSolution, IsExactAnswer, AreSolutions, lists_decides, lists, Cuts, IsSoundCut, IsChess, read, stands_for, chess, chess_with}
use Rattle.pg_position.specs.Game.{Barren}
use Rattle.pg_position.specs.Equality.{state_eq}
use Rattle.pg_position.specs.lemmas.Equalities.{state_eq_decides}
use Rattle.pg_checker.specs.Tree as tree
use Rattle.pg_checker.specs.Futures.{future_eq}
use Rattle.pg_checker.specs.lemmas.Futures.{future_decides}
use Rattle.pg_checker.proofs.Reading.{record_spelled, spelled_record, read_ok, read_spelled, read_few}
use Rattle.pg_checker.proofs.Full.{full_accepted}
use Rattle.pg_checker.proofs.Whole.{sound, full_certificate}

not_equal : (a b : ℕ) → a ≢ b → eqb a b ≡ false
not_equal a b ne = elim (eqb_tells a b) [ inl w ↦ absurd (ne w.1) | inr w ↦ w.0 ]

-- in version 2 an entry stands for a position with the same future, else for an equal one
stands_equal : (version : ℕ) → version ≢ 2 → (q p : State) → Decides (stands_for version q p) (q ≡ p)
stands_equal version ne q p = subst (λ (b : Bool). Decides (cond b (future_eq q p) (state_eq q p)) (q ≡ p)) (sym (not_equal version 2 ne)) (state_eq_decides q p)

pub stands_future : (version : ℕ) → version ≡ 2 → (q p : State) → Decides (stands_for version q p) (SameFuture q p)
stands_future version is q p = subst (λ (b : Bool). Decides (cond b (future_eq q p) (state_eq q p)) (SameFuture q p)) (sym ((Decides-eqb version 2).1 is)) (future_decides q p)

-- the rules are those of chess
pub chess_is : (d : Placement) (n : ℕ) (games : List (List Move)) (cut : Cuts) → IsChess (chess d n games cut) cut.version d n games
unfolding chess_with
chess_is d n games cut = record {
  moves = moves_of_is;
  play = play_of_is;
  goal = λ p. placement_eq_decides p.board d;
  plies = refl;
  listed = lists_decides games;
  equal = stands_equal cut.version;
  future = stands_future cut.version;
  write = λ x. refl;
  is_record = λ x. (spelled_record cut.version x, record_spelled cut.version x);
}

-- their reader takes a record exactly where its bytes stand
pub exact_with : (d : Placement) (n : ℕ) (listed : List Move → Bool) (cut : Cuts) → IsExact (chess_with d n listed cut)
unfolding chess_with
exact_with d n listed cut = record {
  read = read_ok cut.version;
  write = λ x rest h. read_spelled cut.version x rest (spelled_record cut.version x h);
  expanded = λ named. refl;
}

pub chess_exact : (d : Placement) (n : ℕ) (games : List (List Move)) (cut : Cuts) → IsExact (chess d n games cut)
chess_exact d n games cut = exact_with d n (lists games) cut

-- the diagram and moves are those of chess whatever games are listed
pub goal_with : (d : Placement) (n : ℕ) (listed : List Move → Bool) (cut : Cuts) (p : State) → ((chess_with d n listed cut).is_goal p ≡ true) ↔ (p.board ≡ d)
unfolding chess_with
goal_with d n listed cut p = placement_eq_decides p.board d

pub play_with : (d : Placement) (n : ℕ) (listed : List Move → Bool) (cut : Cuts) (p : State) (m : Move) (q : State) → IsPosition p → Legal p m q → (chess_with d n listed cut).play p m ≡ q
unfolding chess_with
play_with d n listed cut = play_of_is

-- a game of k plies from p that ends on d
Ends : Placement → State → ℕ → List Move → Type 0
Ends d p k ms = (length ms ≡ k) × ((q : State) × IsGame p ms q × (q.board ≡ d))

module _ (r : Rules State Move) (d : Placement) (n : ℕ) (games : List (List Move)) (version : ℕ) (is : IsChess r version d n games) where
  -- a move of the list is legal, and is played
  played : (p : State) (m : Move) → IsPosition p → Contains (r.moves p) m → Legal p m (r.play p m)
  played p m pos c =
      let l : IsLegal p m = ((is.moves p).has m).0 c in
      subst (λ (q : State). Legal p m q) (sym (is.play p m l.0 pos l.1)) l.1

  met : (p : State) (m : Move) → IsPosition p → Contains (r.moves p) m → IsPosition (r.play p m)
  met p m pos c = legal_position p m (r.play p m) pos (played p m pos c)

  -- the walk's games are the games of chess
  game_out : (k : ℕ) (p : State) (ms : List Move) → IsPosition p → EndsOnGoal r k p ms → Ends d p k ms
  unfolding Ends
  game_out zero p [] pos h = (refl, (p, refl, (is.goal p).0 h))
  game_out zero p (m ∷ ms) pos h = absurd h
  game_out (suc k) p [] pos h = absurd h
  game_out (suc k) p (m ∷ ms) pos h =
      let legal = played p m pos h.0 in
      let rest = game_out k (r.play p m) ms (met p m pos h.0) h.1 in
      (ap suc rest.0, (rest.1.0, (r.play p m, legal, rest.1.1), rest.1.2))

  game_in : (k : ℕ) (p : State) (ms : List Move) → IsPosition p → Ends d p k ms → EndsOnGoal r k p ms
  unfolding Ends
  game_in zero p [] pos (len, (q, g, e)) = (is.goal p).1 (ap (λ (x : State). x.board) g ∙ e)
  game_in zero p (m ∷ ms) pos (len, (q, g, e)) = absurd (omega arith)
  game_in (suc k) p [] pos (len, (q, g, e)) = absurd (omega arith)
  game_in (suc k) p (m ∷ ms) pos (len, (q, (s, legal, g), e)) =
      let same : r.play p m ≡ s = is.play p m s pos legal in
      let rest : EndsOnGoal r k s ms = game_in k s ms (legal_position p m s pos legal) (omega arith, (q, g, e)) in
      (((is.moves p).has m).1 (s, legal), subst (λ (x : State). EndsOnGoal r k x ms) (sym same) rest)

  -- what is barren from one position is barren from one with the same future
  pub same_barren : (k : ℕ) (q p : State) → IsPosition q → IsPosition p → SameFuture q p → tree.Barren r k q → tree.Barren r k p
  unfolding Ends
  same_barren k q p there here future barren ms h =
      let g = game_out k p ms here h in
      let other = same_games p q ms (future_sym q p future) (g.1.0, g.1.1) in
      let ends = same_ends q p ms other.0 g.1.0 there future other.1 g.1.1 in
      barren ms (game_in k q ms there (g.0, (other.0, other.1, ends ∙ g.1.2)))

  -- bounds and references hide no game from a position on
  right : (cut : Cuts) → r.cut ≡ cut.bounds → r.priced ≡ cut.prices → IsSoundCut d cut → IsRight r IsPosition
  unfolding Barren Ends
  right cut bounds prices cuts = record {
    next = met;
    cut = λ code k p pos e ms h. let g = game_out k p ms pos h in cuts.bounds code k p pos (ap (λ f. f code p k) (sym bounds) ∙ e) ms g.1.0 g.0 g.1.1 g.1.2;
    priced = λ code color lists k p pos e ms h. let g = game_out k p ms pos h in cuts.prices code color lists k p pos (ap (λ f. f code color lists p k) (sym prices) ∙ e) ms g.1.0 g.0 g.1.1 g.1.2;
    same = λ k q p there here e barren. stands k q p there here e barren (eqb_tells version 2);
  }
    where
      stands : (k : ℕ) (q p : State) → IsPosition q → IsPosition p → r.is_same q p ≡ true → tree.Barren r k q → ((eqb version 2 ≡ true) × (version ≡ 2)) ⊎ ((eqb version 2 ≡ false) × (version ≢ 2)) → tree.Barren r k p
      stands k q p there here e barren (inl w) = same_barren k q p there here ((is.future w.1 q p).0 e) barren
      stands k q p there here e barren (inr w) = subst (λ (x : State). tree.Barren r k x) ((is.equal w.1 q p).0 e) barren

  -- a complete list has each solution
  complete_has : IsComplete r array_state → (ms : List Move) → IsSolution d n ms → Contains games ms
  unfolding Ends
  complete_has all ms h = let low : n < suc r.plies = (let e = is.plies in omega arith) in (is.listed ms).0 (all n ms low (game_in n array_state ms array_position h)).1

  -- a complete list of solutions is the exact answer
  exact_answer : IsComplete r array_state → AreSolutions d n games → IsExactAnswer d n games
  unfolding Ends
  exact_answer all good = record {
    once = good.once;
    has = λ ms. (good.are ms, complete_has all ms);
    none_shorter = λ m ms less h. let low : m < suc r.plies = (let e = is.plies in omega arith) in let e : m ≡ r.plies = (all m ms low (game_in m array_state ms array_position h)).0 in let f = is.plies in absurd (omega arith);
  }

  -- an exact answer is a complete list
  complete_list : IsExactAnswer d n games → IsComplete r array_state
  unfolding Ends
  complete_list answer_ m ms low h =
      let g : IsSolution d m ms = game_out m array_state ms array_position h in
      at (split m n (let e = is.plies in omega arith)) g
    where
      split : (a b : ℕ) → a < suc b → (a < b) ⊎ (a ≡ b)
      split a b h = let s : (a < b) ⊎ (a ≡ b) = grind arith in s

      at : (m < n) ⊎ (m ≡ n) → IsSolution d m ms → (m ≡ r.plies) × (r.is_listed ms ≡ true)
      at (inl l) g = absurd (answer_.none_shorter m ms l g)
      at (inr e) g = (e ∙ sym is.plies, (is.listed ms).1 ((answer_.has ms).1 (subst (λ (x : ℕ). IsSolution d x ms) e g)))

-- a yes proves the exact answer
pub yes_is_exact : (d : Placement) (n : ℕ) (games : List (List Move)) (cut : Cuts) → IsSoundCut d cut → (a b : ℕ) (bytes : List ℕ) (x : ℕ × ℕ)
    → answer (chess d n games cut) array_state a b bytes ≡ Ok x → AreSolutions d n games → IsExactAnswer d n games
unfolding chess_with
yes_is_exact d n games cut cuts a b bytes x h good =
    let r : Rules State Move = chess d n games cut in
    let is : IsChess r cut.version d n games = chess_is d n games cut in
    exact_answer r d n games cut.version is (sound r (chess_exact d n games cut) IsPosition (right r d n games cut.version is cut refl refl cuts) array_state array_position a b bytes x h) good

-- a yes proves that the list has each solution
pub yes_has_all : (d : Placement) (n : ℕ) (games : List (List Move)) (cut : Cuts) → IsSoundCut d cut → (a b : ℕ) (bytes : List ℕ) (x : ℕ × ℕ)
    → answer (chess d n games cut) array_state a b bytes ≡ Ok x → (ms : List Move) → IsSolution d n ms → Contains games ms
unfolding chess_with
yes_has_all d n games cut cuts a b bytes x h =
    let r : Rules State Move = chess d n games cut in
    let is : IsChess r cut.version d n games = chess_is d n games cut in
    complete_has r d n games cut.version is (sound r (chess_exact d n games cut) IsPosition (right r d n games cut.version is cut refl refl cuts) array_state array_position a b bytes x h)

-- each exact answer has a certificate
pub exact_has_certificate : (d : Placement) (n : ℕ) (games : List (List Move)) (cut : Cuts) → IsExactAnswer d n games
    → IsCertificate (chess d n games cut) array_state (full_from (chess d n games cut) (suc n) 0 array_state)
unfolding chess_with
exact_has_certificate d n games cut h =
    let r : Rules State Move = chess d n games cut in
    full_certificate r array_state (complete_list r d n games cut.version (chess_is d n games cut) h)

-- and its bytes are answered by a yes
pub exact_is_accepted : (d : Placement) (n : ℕ) (games : List (List Move)) (cut : Cuts) → IsExactAnswer d n games
    → let r : Rules State Move = chess d n games cut in let trees : Trees = full_from r (suc n) 0 array_state in
    (a b : ℕ) → records_all trees ≤ a → answer r array_state a b (spelling_all r trees) ≡ Ok (records_all trees, 0)
unfolding chess_with
exact_is_accepted d n games cut h a b few =
    let r : Rules State Move = chess d n games cut in
    full_accepted r (chess_exact d n games cut) array_state (complete_list r d n games cut.version (chess_is d n games cut) h) a b few

-- no state has more moves than there are pairs of squares and promotions
pub few_with : (d : Placement) (n : ℕ) (listed : List Move → Bool) (cut : Cuts) (p : State) → length ((chess_with d n listed cut).moves p) ≤ most_moves
unfolding chess_with
few_with d n listed cut p = few_moves p

pub chess_few : (d : Placement) (n : ℕ) (games : List (List Move)) (cut : Cuts) (p : State) → length ((chess d n games cut).moves p) ≤ most_moves
chess_few d n games cut = few_with d n (lists games) cut

pub chess_cut : (d : Placement) (n : ℕ) (games : List (List Move)) (cut : Cuts) → (chess d n games cut).cut ≡ cut.bounds
unfolding chess_with
chess_cut d n games cut = refl

pub chess_priced : (d : Placement) (n : ℕ) (games : List (List Move)) (cut : Cuts) → (chess d n games cut).priced ≡ cut.prices
unfolding chess_with
chess_priced d n games cut = refl

pub read_with : (d : Placement) (n : ℕ) (listed : List Move → Bool) (cut : Cuts) → (chess_with d n listed cut).read ≡ read cut.version
unfolding chess_with
read_with d n listed cut = refl

pub chess_read : (d : Placement) (n : ℕ) (games : List (List Move)) (cut : Cuts) → (chess d n games cut).read ≡ read cut.version
chess_read d n games cut = read_with d n (lists games) cut

-- no refusal to read is one of too many names
pub plain_with : (d : Placement) (n : ℕ) (listed : List Move → Bool) (cut : Cuts) (bytes : List ℕ) → (chess_with d n listed cut).read bytes ≡ Err TooManyNamed → ⊥
unfolding chess_with
plain_with d n listed cut bytes h = read_few cut.version bytes h

pub chess_plain : (d : Placement) (n : ℕ) (games : List (List Move)) (cut : Cuts) (bytes : List ℕ) → (chess d n games cut).read bytes ≡ Err TooManyNamed → ⊥
chess_plain d n games cut = plain_with d n (lists games) cut

pub ruleset of_chess = (chess_is, chess_cut, chess_priced, chess_read, chess_exact, chess_few)
