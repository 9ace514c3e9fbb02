-- A game played move by move. Leads to the contracts of `end_of`, `reaches` and `check_listed`.
use Rattle.pg_checker.proofs.Common.{add-one, suc, ◌≡◌, ◌≢◌, ◌↔◌, ℕ, ◌+◌, ◌<◌, ◌≤◌, inl, inr, IsTrue, List, [], ◌∷◌, ◌++◌, length, take, drop, drop-cons, get_or, Some, slice_get, refl, sym, ◌∙◌, ap, subst, arith, take_all, take_more, slice_get-get_or, eqb_tells, Placement, State, Move, array_state, IsPosition, Legal, IsLegal, IsGame, array_position, one_result, one_end, IsFromArray, IsGames, IsSolution, AreSolutions, AreFine, IsGameFault, IsListFault, ListFault, WrongLength, NotReaching, games_once}

pub game_more : (p : State) (ms : List Move) (m : Move) (q r : State) → IsGame p ms q → Legal q m r → IsGame p (ms ++ m ∷ []) r
game_more p [] m q r g l = (r, subst (λ (x : State). Legal x m r) (sym g) l, refl)
game_more p (x ∷ xs) m q r (s, first, rest) l = (s, first, game_more s xs m q r rest l)

-- i moves of the game lead to the position, and the others can be played there
pub record Comes (game : List Move) (i : ℕ) (p : State) : Type 0 where
  pub come : IsGame array_state (take i game) p
  pub more : (r : State) × IsGame p (drop i game) r

pub comes_start : (game : List Move) (p : State) → p ≡ array_state → IsFromArray game → Comes game 0 p
unfolding IsFromArray
comes_start game p e h = record { come = sym e; more = subst (λ (v : State). (r : State) × IsGame v game r) (sym e) h }

dropped : (game : List Move) (i : ℕ) (m : Move) → i < length game → m ≡ get_or game i m → drop i game ≡ m ∷ drop (i + 1) game
dropped game i m low is = rw add-one (drop-cons game i m low ∙ ap (λ (x : Move). x ∷ drop (suc i) game) (sym is))

next_of : (game : List Move) (i : ℕ) (p : State) (m : Move) → i < length game → m ≡ get_or game i m → Comes game i p → (r : State) × ((q : State) × Legal p m q × IsGame q (drop (i + 1) game) r)
next_of game i p m low is h = (h.more.0, subst (λ (v : List Move). IsGame p v h.more.0) (dropped game i m low is) h.more.1)

pub comes_legal : (game : List Move) (i : ℕ) (p : State) (m : Move) → i < length game → m ≡ get_or game i m → Comes game i p → IsLegal p m
comes_legal game i p m low is h = let n = next_of game i p m low is h in (n.1.0, n.1.1)

pub comes_on : (game : List Move) (i : ℕ) (p q : State) (m : Move) → i < length game → m ≡ get_or game i m → Comes game i p → IsPosition p → Legal p m q → Comes game (i + 1) q
comes_on game i p q m low is h valid legal =
    let n = next_of game i p m low is h in
    let one : n.1.0 ≡ q = one_result p m n.1.0 q valid n.1.1 legal in
    let all : take (i + 1) game ≡ take i game ++ m ∷ [] = take_more game i m low ∙ ap (λ (x : Move). take i game ++ x ∷ []) (sym is) in
    record {
      come = subst (λ (v : List Move). IsGame array_state v q) (sym all) (game_more array_state (take i game) m p q h.come legal);
      more = (n.0, subst (λ (v : State). IsGame v (drop (i + 1) game) n.0) one n.1.2);
    }

-- the end of a game decides whether it ends on the diagram
pub ends_on : (d : Placement) (game : List Move) (p : State) (matches : _) → IsGame array_state game p → IsTrue matches ↔ (p.board ≡ d) → IsTrue matches ↔ ((r : State) × IsGame array_state game r × (r.board ≡ d))
ends_on d game p matches played h = (
  (λ t. (p, played, h.0 t)),
  (λ s. h.1 (ap (λ (x : State). x.board) (one_end array_state game p s.0 array_position played s.1) ∙ s.2)),
)

pub comes_end : (game : List Move) (i : ℕ) (p : State) → length game ≤ i → Comes game i p → IsGame array_state game p
comes_end game i p high h = subst (λ (v : List Move). IsGame array_state v p) (take_all i game high) h.come

-- ---- a list of games
pub fine_on : (d : Placement) (n : ℕ) (games : List (List Move)) (i : ℕ) (game : List Move) → AreFine d n games i → slice_get games i ≡ Some game → IsSolution d n game → AreFine d n games (i + 1)
fine_on d n games i game fine is good k g low at = elim (eqb_tells k i) [
  | inl w ↦ (let same : Some g ≡ Some game = sym at ∙ ap (λ (x : ℕ). slice_get games x) w.1 ∙ is in subst (λ (v : List Move). IsSolution d n v) (some_same g game (sym same)) good)
  | inr w ↦ fine k g (let ne : k ≢ i = w.1 in omega arith) at
]
  where
    some_same : (a b : List Move) → Some b ≡ Some a → b ≡ a
    some_same a b e = cc

pub first_fault : (d : Placement) (n m : ℕ) (games : List (List Move)) (i : ℕ) (game : List Move) (e : ListFault) → m ≡ n → AreFine d m games i → slice_get games i ≡ Some game → IsGameFault d m game i e → IsListFault d n games e
first_fault d n m games i game (WrongLength j) same fine at (is, wrong) =
    subst (λ (x : ℕ). AreFine d n games x × ((g : List Move) × (slice_get games x ≡ Some g) × (length g ≢ n))) (sym is)
    (subst (λ (x : ℕ). AreFine d x games i × ((g : List Move) × (slice_get games i ≡ Some g) × (length g ≢ x))) same (fine, (game, at, wrong)))
first_fault d n m games i game (NotReaching j) same fine at (is, long, off) =
    subst (λ (x : ℕ). AreFine d n games x × ((g : List Move) × (slice_get games x ≡ Some g) × (length g ≡ n) × ¬ IsSolution d n g)) (sym is)
    (subst (λ (x : ℕ). AreFine d x games i × ((g : List Move) × (slice_get games i ≡ Some g) × (length g ≡ x) × ¬ IsSolution d x g)) same (fine, (game, at, long, off)))

pub all_fine : (d : Placement) (n m : ℕ) (games : List (List Move)) (i : ℕ) → m ≡ n → length games ≤ i → IsGames games → AreFine d m games i → AreSolutions d n games
all_fine d n m games i same high good fine = record {
  once = games_once games good;
  are = λ ms c. subst (λ (x : ℕ). IsSolution d x ms) same (fine c.0 ms (let low : c.0 < length games = c.1 in omega arith) (slice_get-get_or games c.0 ms c.1 ∙ ap Some c.2));
}
