-- Moves that a game shares with one that is known, at its beginning, are legal.
use Rattle.pg_san.proofs.Common.{◌≡◌, ℕ, ◌+◌, ◌<◌, ◌≤◌, List, [], ◌∷◌, ◌++◌, length, get_or, take, drop, refl, sym, ap, subst, arith, ◌∙◌, take-take, get_or-take, take-append-drop, State, Move, IsLegal, array_state, IsGame, array_position, one_end, IsFromArray}
use Rattle.pg_san.proofs.GameLemmas.{front_at}

-- in a game of moves, one, and more, the one is legal after those before it
game_split : (p : State) (xs : List Move) (m : Move) (ys : List Move) (r : State) → IsGame p (xs ++ m ∷ ys) r → (s : State) × IsGame p xs s × IsLegal s m
game_split p [] m ys r (s, legal, rest) = (p, refl, (s, legal))
game_split p (x ∷ xs) m ys r (s, first, rest) = let t = game_split s xs m ys r rest in (t.0, (s, first, t.1), t.2)

known_legal : (k : List Move) (i : ℕ) (m : Move) (q : State) → IsFromArray k → i < length k → m ≡ get_or k i m → IsGame array_state (take i k) q → IsLegal q m
unfolding IsFromArray
known_legal k i m q (r, game) l at h =
    let e : k ≡ take i k ++ m ∷ drop (i + 1) k = sym (take-append-drop i k) ∙ ap (λ (x : List Move). take i k ++ x) (front_at k i m l at) in
    let t = game_split array_state (take i k) m (drop (i + 1) k) r (subst (λ (x : List Move). IsGame array_state x r) e game) in
    subst (λ (x : State). IsLegal x m) (one_end array_state (take i k) t.0 q array_position t.1 h) t.2

pub shared_legal : (g k : List Move) (n i : ℕ) (m : Move) (q : State) → IsFromArray k → take n g ≡ take n k → n ≤ length k → i < n → m ≡ get_or g i m → IsGame array_state (take i g) q → IsLegal q m
shared_legal g k n i m q known same within below at h =
    let there : get_or g i m ≡ get_or k i m = sym (get_or-take n g i m below) ∙ ap (λ (x : List Move). get_or x i m) same ∙ get_or-take n k i m below in
    let before : take i g ≡ take i k = sym (take-take i n g (omega arith)) ∙ ap (take i) same ∙ take-take i n k (omega arith) in
    known_legal k i m q known (omega arith) (at ∙ there) (subst (λ (x : List Move). IsGame array_state x q) before h)
