-- The text of a game grows by one move more, and that of games by one game.
use Rattle.pg_pgn.proofs.Common.{◌≡◌, ◌≢◌, ℕ, ◌+◌, ◌<◌, ◌≤◌, List, [], ◌∷◌, ◌++◌, Option, Some, length, get_or, take, drop, refl, sym, ap, subst, arith, append_assoc, append-nil, ◌∙◌, Appends-nil, Appends-trans, take_more, take_all, take-append-drop, length-take-le, codes, Ok, Err, OnOk, IfOk, slice_get, Appends, AddsSome, State, Move, array_state, IsGame, IsPosition, Legal, IsLegal, array_position, one_result, legal_position, IsFromArray, IsSan, tags, columns, spaced, number_text, number_columns, AreMoves, IsGameText, AreFurther, IsPgnText, AddsPly, AddsMoves, AddsAllMoves, front_at}
use Rattle.std.proofs.lemmas.Option.{get_or_from_slice_get}
use Rattle.std.specs.Prelude.{Result}

-- ---- one move
-- what is written for a move behind n columns
abbrev move_text : ℕ → ℕ → List ℕ → List ℕ
move_text n ply san = number_text n ply ++ spaced (number_columns n ply) san

abbrev behind : ℕ → ℕ → List ℕ → ℕ
behind n ply san = columns (number_columns n ply) (length san)

one_move : (n ply : ℕ) (p : State) (m : Move) (r : State) (san : List ℕ) → Legal p m r → IsSan p m san → AreMoves n ply p (m ∷ []) (behind n ply san) r (move_text n ply san)
unfolding AreMoves
one_move n ply p m r san legal is =
    (r, san, [], legal, is, (refl, refl, refl), ap (λ (l : List ℕ). number_text n ply ++ l) (sym (append-nil (spaced (number_columns n ply) san))))

pub around : (number word rest more : List ℕ) → (number ++ (word ++ rest)) ++ more ≡ number ++ (word ++ (rest ++ more))
around number word rest more =
    append_assoc number (word ++ rest) more ∙ ap (λ (l : List ℕ). number ++ l) (append_assoc word rest more)

moves_more : (n ply : ℕ) (p : State) (ms : List Move) (k : ℕ) (q : State) (text : List ℕ) (last : ℕ) (m : Move) (r : State) (san : List ℕ) → last ≡ ply + length ms → AreMoves n ply p ms k q text → Legal q m r → IsSan q m san
    → AreMoves n ply p (ms ++ m ∷ []) (behind k last san) r (text ++ move_text k last san)
unfolding AreMoves
moves_more n ply p [] k q text last m r san at (same, here, none) legal is =
    let e : last ≡ ply = omega (arith, at) in
    let base : AreMoves n ply p (m ∷ []) (behind n ply san) r (move_text n ply san) = one_move n ply p m r san (subst (λ (x : State). Legal x m r) (sym here) legal) (subst (λ (x : State). IsSan x m san) (sym here) is) in
    let moved : AreMoves n ply p (m ∷ []) (behind k ply san) r (move_text k ply san) = subst (λ (x : ℕ). AreMoves n ply p (m ∷ []) (behind x ply san) r (move_text x ply san)) same base in
    let timed : AreMoves n ply p (m ∷ []) (behind k last san) r (move_text k last san) = subst (λ (x : ℕ). AreMoves n ply p (m ∷ []) (behind k x san) r (move_text k x san)) (sym e) moved in
    subst (λ (x : List ℕ). AreMoves n ply p (m ∷ []) (behind k last san) r (x ++ move_text k last san)) (sym none) timed
moves_more n ply p (x ∷ xs) k q text last m r san at (s, first, rest, step, said, more, e) legal is =
    let later : last ≡ (ply + 1) + length xs = omega (arith, at) in (
      s,
      first,
      rest ++ move_text k last san,
      step,
      said,
      moves_more (behind n ply first) (ply + 1) s xs k q rest last m r san later more legal is,
      ap (λ (l : List ℕ). l ++ move_text k last san) e ∙ around (number_text n ply) (spaced (number_columns n ply) first) rest (move_text k last san),
    )

moves_game : (n ply : ℕ) (p : State) (ms : List Move) (k : ℕ) (q : State) (text : List ℕ) → AreMoves n ply p ms k q text → IsGame p ms q
unfolding AreMoves
moves_game n ply p [] k q text h = h.1
moves_game n ply p (x ∷ xs) k q text (s, first, rest, step, said, more, e) = (s, step, moves_game (behind n ply first) (ply + 1) s xs k q rest more)

-- ---- the loop
pub no_moves : (game : List Move) (held : Option (List ℕ)) → AddsMoves game 0 0 array_state held held
unfolding AreMoves
no_moves game held = ([], (refl, refl, refl), Appends-nil held)

pub one_more : (game : List Move) (ply n : ℕ) (m : Move) (p q : State) (k : ℕ) (a b c : Option (List ℕ)) → ply < length game → m ≡ get_or game ply m → AddsMoves game ply n p a b → Legal p m q → AddsPly n ply p m k b c → AddsMoves game (ply + 1) k q a c
one_more game ply n m p q k a b c low at (text, moves, grows) legal (san, is, same, more) =
    let e : take (ply + 1) game ≡ take ply game ++ m ∷ [] = take_more game ply m low ∙ ap (λ (x : Move). take ply game ++ x ∷ []) (sym at) in
    let l : length (take ply game) ≡ ply = length-take-le ply game (omega (arith, low)) in
    let now : ply ≡ 0 + length (take ply game) = omega (arith, l) in
    let grown : AreMoves 0 0 array_state (take ply game ++ m ∷ []) (behind n ply san) q (text ++ move_text n ply san) = moves_more 0 0 array_state (take ply game) n p text ply m q san now moves legal is in
    let counted : AreMoves 0 0 array_state (take ply game ++ m ∷ []) k q (text ++ move_text n ply san) = subst (λ (x : ℕ). AreMoves 0 0 array_state (take ply game ++ m ∷ []) x q (text ++ move_text n ply san)) (sym same) grown in (
      text ++ move_text n ply san,
      subst (λ (x : List Move). AreMoves 0 0 array_state x k q (text ++ move_text n ply san)) (sym e) counted,
      Appends-trans a b c text (move_text n ply san) grows more,
    )

-- what comes behind the first moves of a game is legal there
legal_behind : (p : State) (game : List Move) (q : State) (m : Move) (rest : List Move) (r : State) → IsPosition p → IsGame p game q → IsGame p (game ++ m ∷ rest) r → IsLegal q m
legal_behind p [] q m rest r pos played (s, step, other) = (s, subst (λ (x : State). Legal x m s) played step)
legal_behind p (g ∷ gs) q m rest r pos (n, first, played) (s, step, other) =
    let one : s ≡ n = one_result p g s n pos step first in
    legal_behind n gs q m rest r (legal_position p g n pos first) played (subst (λ (x : State). IsGame x (gs ++ m ∷ rest) r) one other)

pub legal_next : (game : List Move) (n k : ℕ) (m : Move) (p : State) (a b : Option (List ℕ)) → n < length game → m ≡ get_or game n m → IsFromArray game → AddsMoves game n k p a b → IsLegal p m
unfolding IsFromArray
legal_next game n k m p a b low at (r, played) (text, moves, grows) =
    let whole : game ≡ take n game ++ m ∷ drop (n + 1) game = sym (take-append-drop n game) ∙ ap (λ (x : List Move). take n game ++ x) (front_at game n m low at) in
    legal_behind array_state (take n game) p m (drop (n + 1) game) r array_position (moves_game 0 0 array_state (take n game) k p text moves) (subst (λ (x : List Move). IsGame array_state x r) whole played)

pub all_moves : (game : List Move) (n k : ℕ) (p : State) (a b : Option (List ℕ)) → length game ≤ n → AddsMoves game n k p a b → AddsAllMoves game k a b
all_moves game n k p a b high (text, moves, grows) = (p, (text, subst (λ (x : List Move). AreMoves 0 0 array_state x k p text) (take_all n game high) moves, grows))

-- ---- games
pub game_text : (game : List Move) (k : ℕ) (a b c d e : Option (List ℕ)) → Appends a b tags → AddsAllMoves game k b c → Appends c d (spaced k (codes "*")) → Appends d e (codes "\n") → AddsSome (IsGameText game) a e
unfolding IsGameText
game_text game k a b c d e front (p, (text, moves, grows)) star feed =
    (tags ++ (text ++ (spaced k (codes "*") ++ codes "\n")), (k, p, text, moves, refl), Appends-trans a b e tags (text ++ (spaced k (codes "*") ++ codes "\n")) front (Appends-trans b c e text (spaced k (codes "*") ++ codes "\n") grows (Appends-trans c d e (spaced k (codes "*")) (codes "\n") star feed)))

further_more : (gs : List (List Move)) (g : List Move) (text own : List ℕ) → AreFurther gs text → IsGameText g own → AreFurther (gs ++ g ∷ []) (text ++ (codes "\n" ++ own))
unfolding AreFurther
further_more [] g text own none is =
    (own, [], is, refl, ap (λ (l : List ℕ). l ++ (codes "\n" ++ own)) none ∙ ap (λ (l : List ℕ). codes "\n" ++ l) (sym (append-nil own)))
further_more (x ∷ xs) g text own (first, rest, said, more, e) is =
    (first, rest ++ (codes "\n" ++ own), said, further_more xs g rest own more is, ap (λ (l : List ℕ). l ++ (codes "\n" ++ own)) e ∙ around (codes "\n") first rest (codes "\n" ++ own))

pub no_games : (a : Option (List ℕ)) → AddsSome (IsPgnText []) a a
unfolding IsPgnText
no_games a = ([], refl, Appends-nil a)

pgn_alone : (games : List (List Move)) (g : List Move) (text own : List ℕ) → games ≡ [] → IsPgnText games text → IsGameText g own → IsPgnText (games ++ g ∷ []) (text ++ own)
unfolding IsPgnText AreFurther
pgn_alone [] g text own none are is = (own, [], is, refl, ap (λ (l : List ℕ). l ++ own) are ∙ sym (append-nil own))
pgn_alone (x ∷ xs) g text own none are is = absurd cc

-- a game behind none
pub game_alone : {A E : Type 0} (games : List (List Move)) (g : List Move) (a b c : Option (List ℕ)) (r : Result A E) → games ≡ [] → AddsSome (IsPgnText games) a b
    → OnOk r (AddsSome (IsGameText g) b c) → OnOk r (AddsSome (IsPgnText (games ++ g ∷ [])) a c)
game_alone games g a b c (Ok x) none (text, are, grows) (own, is, more) =
    (text ++ own, pgn_alone games g text own none are is, Appends-trans a b c text own grows more)
game_alone games g a b c (Err e) none before h = h

pgn_more : (games : List (List Move)) (g : List Move) (text own : List ℕ) → games ≢ [] → IsPgnText games text → IsGameText g own → IsPgnText (games ++ g ∷ []) (text ++ (codes "\n" ++ own))
unfolding IsPgnText
pgn_more [] g text own some none is = absurd (some refl)
pgn_more (x ∷ xs) g text own some (first, rest, said, more, e) is =
    (first, rest ++ (codes "\n" ++ own), said, further_more xs g rest own more is, ap (λ (l : List ℕ). l ++ (codes "\n" ++ own)) e ∙ append_assoc first rest (codes "\n" ++ own))

-- games are some where their number is not 0
pub some_games : (games : List (List Move)) (n : ℕ) → n ≡ length games → n ≢ 0 → games ≢ []
some_games games n many some none = some (many ∙ ap (λ (x : List (List Move)). length x) none)

-- a game behind some
pub game_behind : {A E : Type 0} (games : List (List Move)) (g : List Move) (a b c d : Option (List ℕ)) (r : Result A E) → games ≢ [] → AddsSome (IsPgnText games) a b → Appends b c (codes "\n")
    → OnOk r (AddsSome (IsGameText g) c d) → OnOk r (AddsSome (IsPgnText (games ++ g ∷ [])) a d)
game_behind games g a b c d (Ok x) some (text, are, grows) feed (own, is, more) =
    (text ++ (codes "\n" ++ own), pgn_more games g text own some are is, Appends-trans a b d text (codes "\n" ++ own) grows (Appends-trans b c d (codes "\n") own feed more))
game_behind games g a b c d (Err e) some before feed h = h

-- one more of the first games
pub one_more_game : (gs : List (List Move)) (i : ℕ) (g : List Move) → i < length gs → slice_get gs i ≡ Some g → take (i + 1) gs ≡ take i gs ++ g ∷ []
one_more_game gs i g low is =
    take_more gs i g low ∙ ap (λ (x : List Move). take i gs ++ x ∷ []) (get_or_from_slice_get gs i g g is)

-- ---- answers
pub ply_written : {E : Type 0} (k : Result ℕ E) (n ply mid : ℕ) (p : State) (m : Move) (san word : List ℕ) (a b c : Option (List ℕ)) → IsSan p m san → word ≡ san → Appends a b (number_text n ply) → mid ≡ number_columns n ply
    → OnOk k (Appends b c (spaced mid word)) → IfOk k (λ j. j ≡ columns mid (length word)) → IfOk k (λ j. AddsPly n ply p m j a c)
ply_written (Err e) n ply mid p m san word a b c is same number at text columned = columned
ply_written (Ok j) n ply mid p m san word a b c is same number at text columned = (
  word,
  subst (IsSan p m) (sym same) is,
  columned ∙ ap (λ (x : ℕ). columns x (length word)) at,
  Appends-trans a b c (number_text n ply) (spaced (number_columns n ply) word) number (subst (λ (x : ℕ). Appends b c (spaced x word)) at text),
)
