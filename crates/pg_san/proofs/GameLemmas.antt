-- Games grow by one legal move at their end, and stop being games at a move that is not legal.
use Rattle.pg_san.proofs.Common.{◌≡◌, ℕ, suc, ◌+◌, ◌<◌, ◌≤◌, List, [], ◌∷◌, ◌++◌, length, get_or, take, drop, refl, sym, ap, subst, arith, ◌∙◌, take_more, take_all, length-take-le, take-append-drop, drop-cons, State, Move, Legal, array_state, IsGame, IsFromArray, IsIllegalAt}

-- one legal move more
pub game_more : (p : State) (ms : List Move) (m : Move) (q r : State) → IsGame p ms q → Legal q m r → IsGame p (ms ++ m ∷ []) r
game_more p [] m q r g l = (r, subst (λ (x : State). Legal x m r) (sym g) l, refl)
game_more p (x ∷ xs) m q r (s, first, rest) l = (s, first, game_more s xs m q r rest l)

pub whole_game : (g : List Move) (n : ℕ) (q : State) → length g ≤ n → IsGame array_state (take n g) q → IsFromArray g
unfolding IsFromArray
whole_game g n q l h = (q, subst (λ (x : List Move). IsGame array_state x q) (take_all n g l) h)

pub step_game : (g : List Move) (n : ℕ) (m : Move) (q r : State) → n < length g → m ≡ get_or g n m → IsGame array_state (take n g) q → Legal q m r → IsGame array_state (take (n + 1) g) r
step_game g n m q r l at h legal =
    let e : take (n + 1) g ≡ take n g ++ m ∷ [] = take_more g n m l ∙ ap (λ (x : Move). take n g ++ x ∷ []) (sym at) in
    subst (λ (x : List Move). IsGame array_state x r) (sym e) (game_more array_state (take n g) m q r h legal)

pub front_at : (g : List Move) (n : ℕ) (m : Move) → n < length g → m ≡ get_or g n m → drop n g ≡ m ∷ drop (n + 1) g
front_at g n m l at =
    let k : n + 1 ≡ suc n = omega arith in
    rw k (drop-cons g n m l ∙ ap (λ (x : Move). x ∷ drop (suc n) g) (sym at))

pub illegal_at : (g : List Move) (n : ℕ) (m : Move) (q : State) → n < length g → m ≡ get_or g n m → IsGame array_state (take n g) q → ((r : State) → ¬ Legal q m r) → IsIllegalAt g (n + 1)
illegal_at g n m q l at h refused = record {
  before = take n g;
  move = m;
  after = drop (n + 1) g;
  here = q;
  is = sym (take-append-drop n g) ∙ ap (λ (x : List Move). take n g ++ x) (front_at g n m l at);
  counts = let e : length (take n g) ≡ n = length-take-le n g (omega arith) in omega arith;
  game = h;
  illegal = λ (r, legal). refused r legal;
}
