-- The text of a game grows by one ply more, and stops where a move is not legal. Leads to the contracts of movetext.
use Rattle.pg_texts.proofs.Common.{◌≡◌, ℕ, suc, ◌+◌, ◌<◌, ◌≤◌, inl, inr, List, [], ◌∷◌, ◌++◌, Option, length, get_or, take, drop, refl, sym, ap, subst, arith, append_assoc, append-nil, length-append, ◌∙◌, Appends-nil, Appends-trans, take_more, take_all, take-append-drop, length-take-le, nil_from_length, codes, Appends, AddsSome, State, Move, IsPosition, IsFromArray, IsSan, AddsLongest, space_text, number_text, ArePlies, IsMovetext, IsLongestGame, AddsPlies, AddsAllPlies, AddsPly, Stops, IsPlayedOut}
use Rattle.std.proofs.Math.Seq.{drop-cons}
use Rattle.pg_position.specs.Array.{array_state}
use Rattle.pg_position.specs.Game.{IsGame}
use Rattle.pg_position.specs.Step.{Legal, IsLegal}
use Rattle.pg_position.proofs.ArrayLemmas.{array_position}
use Rattle.pg_position.proofs.FutureLemmas.{one_result, legal_position}

-- ---- one ply
around : (front number san rest more : List ℕ) → (front ++ (number ++ (san ++ rest))) ++ more ≡ front ++ (number ++ (san ++ (rest ++ more)))
around front number san rest more =
    append_assoc front (number ++ (san ++ rest)) more
    ∙ ap (λ (l : List ℕ). front ++ l) (append_assoc number (san ++ rest) more)
    ∙ ap (λ (l : List ℕ). front ++ (number ++ l)) (append_assoc san rest more)

plies_more : (ply : ℕ) (p : State) (ms : List Move) (q : State) (text : List ℕ) (last : ℕ) (m : Move) (r : State) (san : List ℕ) → last ≡ ply + length ms → ArePlies ply p ms q text → Legal q m r → IsSan q m san → ArePlies ply p (ms ++ m ∷ []) r (text ++ (space_text last ++ (number_text last ++ san)))
unfolding ArePlies
plies_more ply p [] q text last m r san at (here, none) legal is =
    let e : last ≡ ply = omega arith in (
      r,
      san,
      [],
      subst (λ (x : State). Legal x m r) (sym here) legal,
      subst (λ (x : State). IsSan x m san) (sym here) is,
      (refl, refl),
      ap (λ (l : List ℕ). l ++ (space_text last ++ (number_text last ++ san))) none ∙ ap (λ (k : ℕ). space_text k ++ (number_text k ++ san)) e ∙ ap (λ (l : List ℕ). space_text ply ++ (number_text ply ++ l)) (sym (append-nil san)),
    )
plies_more ply p (x ∷ xs) q text last m r san at (s, first, rest, step, said, more, e) legal is =
    let k : last ≡ (ply + 1) + length xs = omega arith in (
      s,
      first,
      rest ++ (space_text last ++ (number_text last ++ san)),
      step,
      said,
      plies_more (ply + 1) s xs q rest last m r san k more legal is,
      ap (λ (l : List ℕ). l ++ (space_text last ++ (number_text last ++ san))) e ∙ around (space_text ply) (number_text ply) first rest (space_text last ++ (number_text last ++ san)),
    )

plies_game : (ply : ℕ) (p : State) (ms : List Move) (q : State) (text : List ℕ) → ArePlies ply p ms q text → IsGame p ms q
unfolding ArePlies
plies_game ply p [] q text h = h.0
plies_game ply p (x ∷ xs) q text (s, first, rest, step, said, more, e) = (s, step, plies_game (ply + 1) s xs q rest more)

-- ---- the loop
pub no_plies : (ms : List Move) (held : Option (List ℕ)) → AddsPlies ms 0 array_state held held
unfolding ArePlies
no_plies ms held = ([], (refl, refl), Appends-nil held)

pub one_ply_more : (ms : List Move) (n : ℕ) (m : Move) (p q : State) (a b c : Option (List ℕ)) → n < length ms → m ≡ get_or ms n m → AddsPlies ms n p a b → Legal p m q → AddsPly n p m b c → AddsPlies ms (n + 1) q a c
one_ply_more ms n m p q a b c low at (text, plies, grows) legal (san, is, more) =
    let e : take (n + 1) ms ≡ take n ms ++ m ∷ [] = take_more ms n m low ∙ ap (λ (x : Move). take n ms ++ x ∷ []) (sym at) in
    let l : length (take n ms) ≡ n = length-take-le n ms (omega arith) in
    let k : n ≡ 0 + length (take n ms) = omega arith in
    let next = space_text n ++ (number_text n ++ san) in (
      text ++ next,
      subst (λ (x : List Move). ArePlies 0 array_state x q (text ++ next)) (sym e) (plies_more 0 array_state (take n ms) p text n m q san k plies legal is),
      Appends-trans a b c text next grows more,
    )

pub played_to_the_end : (ms : List Move) (n : ℕ) (p : State) (a b : Option (List ℕ)) → length ms ≤ n → AddsPlies ms n p a b → IsPlayedOut ms (length ms) a b
played_to_the_end ms n p a b high (text, plies, grows) = record {
  within = omega arith;
  end = p;
  grows = (text, subst (λ (x : List Move). ArePlies 0 array_state x p text) (take_all n ms high ∙ sym (take_all (length ms) ms (omega arith))) plies, grows);
  stops = inl (omega arith);
}

next_at : (ms : List Move) (n : ℕ) (m : Move) → n < length ms → m ≡ get_or ms n m → drop n ms ≡ m ∷ drop (n + 1) ms
next_at ms n m low at =
    let k : n + 1 ≡ suc n = omega arith in
    rw k (drop-cons ms n m low ∙ ap (λ (x : Move). x ∷ drop (suc n) ms) (sym at))

pub played_until : (ms : List Move) (n : ℕ) (m : Move) (p : State) (a b : Option (List ℕ)) → n < length ms → m ≡ get_or ms n m → AddsPlies ms n p a b → ((q : State) → ¬ Legal p m q) → IsPlayedOut ms n a b
played_until ms n m p a b low at grows illegal = record {
  within = omega arith;
  end = p;
  grows = grows;
  stops = inr (m, drop (n + 1) ms, next_at ms n m low at, illegal);
}

-- ---- the longest game
head_same : (x y : Move) (xs ys : List Move) → x ∷ xs ≡ y ∷ ys → x ≡ y
head_same x y xs ys e = ap (λ (l : List Move). get_or l 0 x) e

tail_same : (x y : Move) (xs ys : List Move) → x ∷ xs ≡ y ∷ ys → xs ≡ ys
tail_same x y xs ys e = ap (λ (l : List Move). drop 1 l) e

-- no game goes on through the move that is not legal
cannot_pass : (p : State) (game : List Move) (q : State) (m : Move) (rest longer more : List Move) (r : State) → IsPosition p → IsGame p game q → ((s : State) → ¬ Legal q m s) → game ++ m ∷ rest ≡ longer ++ more → IsGame p longer r → length longer ≤ length game
cannot_pass p game q m rest [] more r pos played illegal e other = omega arith
cannot_pass p [] q m rest (x ∷ xs) more r pos played illegal e (s, step, other) =
    let same : m ≡ x = head_same m x rest (xs ++ more) e in
    absurd (illegal s (subst (λ (y : Move). Legal q y s) (sym same) (subst (λ (y : State). Legal y x s) played step)))
cannot_pass p (g ∷ gs) q m rest (x ∷ xs) more r pos (n, first, played) illegal e (s, step, other) =
    let same : g ≡ x = head_same g x (gs ++ m ∷ rest) (xs ++ more) e in
    let legal : Legal p x n = subst (λ (y : Move). Legal p y n) same first in
    let one : s ≡ n = one_result p x s n pos step legal in
    let short : length xs ≤ length gs = cannot_pass n gs q m rest xs more r (legal_position p x n pos legal) played illegal (tail_same g x (gs ++ m ∷ rest) (xs ++ more) e) (subst (λ (y : State). IsGame y xs r) one other) in
    omega arith

longest_by : (ms : List Move) (n : ℕ) (p : State) → n ≤ length ms → IsGame array_state (take n ms) p → Stops ms n p → (longer more : List Move) → ms ≡ longer ++ more → IsFromArray longer → length longer ≤ length (take n ms)
unfolding IsFromArray
longest_by ms n p within game (inl high) longer more e other =
    let l : length (take n ms) ≡ n = length-take-le n ms within in
    let k : length ms ≡ length longer + length more = ap (λ (x : List Move). length x) e ∙ length-append longer more in
    omega arith
longest_by ms n p within game (inr (m, rest, here, illegal)) longer more e (r, other) =
    let whole : take n ms ++ m ∷ rest ≡ longer ++ more = ap (λ (x : List Move). take n ms ++ x) (sym here) ∙ take-append-drop n ms ∙ e in
    cannot_pass array_state (take n ms) p m rest longer more r array_position game illegal whole other

from_array : (ms : List Move) (p : State) → IsGame array_state ms p → IsFromArray ms
unfolding IsFromArray
from_array ms p h = (p, h)

longest_game : (ms : List Move) (n : ℕ) (p : State) → n ≤ length ms → IsGame array_state (take n ms) p → Stops ms n p → IsLongestGame ms (take n ms)
longest_game ms n p within game stops = record {
  rest = drop n ms;
  is = sym (take-append-drop n ms);
  legal = from_array (take n ms) p game;
  longest = longest_by ms n p within game stops;
}

-- ---- the movetext
movetext_of : (game : List Move) (q : State) (text : List ℕ) → 0 < length game → ArePlies 0 array_state game q text → IsMovetext game text
unfolding IsMovetext
movetext_of [] q text l h = absurd (omega arith)
movetext_of (m ∷ ms) q text l h = (q, h)

pub some_moves : (ms : List Move) (n : ℕ) (a b : Option (List ℕ)) → 0 < n → IsPlayedOut ms n a b → AddsLongest ms a b
some_moves ms n a b some out =
    let (text, plies, grows) = out.grows in
    let l : length (take n ms) ≡ n = length-take-le n ms out.within in
    (take n ms, longest_game ms n out.end out.within (plies_game 0 array_state (take n ms) out.end text plies) out.stops, (text, movetext_of (take n ms) out.end text (omega arith) plies, grows))

nothing_appended : (a b c : Option (List ℕ)) (text dash : List ℕ) → text ≡ [] → Appends a b text → Appends b c dash → Appends a c dash
nothing_appended a b c text dash none x y = Appends-trans a b c [] dash (subst (Appends a b) none x) y

dash_for_none : IsMovetext [] (codes "-")
unfolding IsMovetext
dash_for_none = refl

none_text : (p q : State) (text : List ℕ) → ArePlies 0 p [] q text → text ≡ []
unfolding ArePlies
none_text p q text h = h.1

pub no_moves : (ms : List Move) (n : ℕ) (a b c : Option (List ℕ)) → n ≡ 0 → IsPlayedOut ms n a b → Appends b c (codes "-") → AddsLongest ms a c
no_moves ms n a b c zero_is out dash =
    let (text, plies, grows) = out.grows in
    let e : take n ms ≡ [] = ap (λ (k : ℕ). take k ms) zero_is in
    let none : text ≡ [] = none_text array_state out.end text (subst (λ (x : List Move). ArePlies 0 array_state x out.end text) e plies) in
    let long : IsLongestGame ms [] = subst (λ (x : List Move). IsLongestGame ms x) e (longest_game ms n out.end out.within (plies_game 0 array_state (take n ms) out.end text plies) out.stops) in
    ([], long, (codes "-", dash_for_none, nothing_appended a b c text (codes "-") none grows dash))

-- ---- a game that is known to be one
-- what comes behind the first moves of a game is legal there
legal_behind : (p : State) (game : List Move) (q : State) (m : Move) (rest : List Move) (r : State) → IsPosition p → IsGame p game q → IsGame p (game ++ m ∷ rest) r → IsLegal q m
legal_behind p [] q m rest r pos played (s, step, other) = (s, subst (λ (x : State). Legal x m s) played step)
legal_behind p (g ∷ gs) q m rest r pos (n, first, played) (s, step, other) =
    let one : s ≡ n = one_result p g s n pos step first in
    legal_behind n gs q m rest r (legal_position p g n pos first) played (subst (λ (x : State). IsGame x (gs ++ m ∷ rest) r) one other)

pub legal_next : (ms : List Move) (n : ℕ) (m : Move) (p : State) (a b : Option (List ℕ)) → n < length ms → m ≡ get_or ms n m → IsFromArray ms → AddsPlies ms n p a b → IsLegal p m
unfolding IsFromArray
legal_next ms n m p a b low at (r, game) (text, plies, grows) =
    let whole : ms ≡ take n ms ++ m ∷ drop (n + 1) ms = sym (take-append-drop n ms) ∙ ap (λ (x : List Move). take n ms ++ x) (next_at ms n m low at) in
    legal_behind array_state (take n ms) p m (drop (n + 1) ms) r array_position (plies_game 0 array_state (take n ms) p text plies) (subst (λ (x : List Move). IsGame array_state x r) whole game)

pub all_plies : (ms : List Move) (n : ℕ) (p : State) (a b : Option (List ℕ)) → length ms ≤ n → AddsPlies ms n p a b → AddsAllPlies ms a b
all_plies ms n p a b high (text, plies, grows) = (p, (text, subst (λ (x : List Move). ArePlies 0 array_state x p text) (take_all n ms high ∙ sym (take_all (length ms) ms (omega arith))) plies, grows))

pub game_of_moves : (ms : List Move) (a b : Option (List ℕ)) → 0 < length ms → AddsAllPlies ms a b → AddsSome (IsMovetext ms) a b
game_of_moves ms a b some (p, (text, plies, grows)) = (text, movetext_of ms p text some (subst (λ (x : List Move). ArePlies 0 array_state x p text) (take_all (length ms) ms (omega arith)) plies), grows)

pub game_of_none : (ms : List Move) (a b : Option (List ℕ)) → length ms ≡ 0 → Appends a b (codes "-") → AddsSome (IsMovetext ms) a b
game_of_none ms a b none grows = (codes "-", subst (λ (x : List Move). IsMovetext x (codes "-")) (sym (nil_from_length ms none)) dash_for_none, grows)
