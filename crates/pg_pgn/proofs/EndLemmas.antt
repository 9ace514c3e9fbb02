-- A game goes on to its end. Leads to the contract of write_ends.
use Rattle.pg_pgn.proofs.Common.{◌≡◌, ℕ, ◌+◌, ◌<◌, ◌≤◌, List, ◌∷◌, ◌++◌, Option, length, get_or, drop, refl, sym, ap, subst, inl, inr, arith, ◌∙◌, codes, ◌/◌, Appends-trans, drop_all, Appends, AddsSome, Move, State, array_state, IsPosition, Legal, IsLegal, IsGame, one_result, IsFromArray, length_text, placement_text, IsMovetext, AddsLine, labelled_text, line_text, IsEndText, IsStillAfter, Plays, last_of, front_at}
use Rattle.pg_fen.specs.PositionWriting.{position_text}
use Rattle.pg_pgn.specs.Ends.{number}

-- i moves of the game lead to the position, n plies before which were no move of a pawn and took nothing, whatever comes
-- of the others; and these can be played there
pub record Lasts (game : List Move) (i : ℕ) (p : State) (n : ℕ) : Type 0 where
  pub on : (q : State) (s : ℕ) → Plays p n (drop i game) q s → Plays array_state 0 game q s
  pub more : (r : State) × IsGame p (drop i game) r
  pub few : n ≤ i

pub lasts_start : (game : List Move) (p : State) → p ≡ array_state → IsFromArray game → Lasts game 0 p 0
unfolding IsFromArray
lasts_start game p e h = record {
  on = λ q s plays. subst (λ (v : State). Plays v 0 game q s) e plays;
  more = subst (λ (v : State). (r : State) × IsGame v game r) (sym e) h;
  few = omega (arith);
}

next_of : (game : List Move) (i n : ℕ) (p : State) (m : Move) → i < length game → m ≡ get_or game i m → Lasts game i p n → (r : State) × ((q : State) × Legal p m q × IsGame q (drop (i + 1) game) r)
next_of game i n p m low is h = (h.more.0, subst (λ (v : List Move). IsGame p v h.more.0) (front_at game i m low is) h.more.1)

pub lasts_legal : (game : List Move) (i n : ℕ) (p : State) (m : Move) → i < length game → m ≡ get_or game i m → Lasts game i p n → IsLegal p m
lasts_legal game i n p m low is h = let r = next_of game i n p m low is h in (r.1.0, r.1.1)

few_more : (p : State) (m : Move) (i n k : ℕ) → n ≤ i → IsStillAfter p m n k → k ≤ i + 1
few_more p m i n k few (inl h) = omega (arith, h.1)
few_more p m i n k few (inr h) = omega (arith, few, h.1)

pub lasts_on : (game : List Move) (i n k : ℕ) (p q : State) (m : Move) → i < length game → m ≡ get_or game i m → Lasts game i p n → IsPosition p → Legal p m q → IsStillAfter p m n k → Lasts game (i + 1) q k
unfolding Plays
lasts_on game i n k p q m low is h valid legal after =
    let r = next_of game i n p m low is h in
    let one : r.1.0 ≡ q = one_result p m r.1.0 q valid r.1.1 legal in
    record {
      on = λ e s plays. h.on e s (subst (λ (v : List Move). Plays p n v e s) (sym (front_at game i m low is)) (q, k, legal, after, plays));
      more = (r.0, subst (λ (v : State). IsGame v (drop (i + 1) game) r.0) one r.1.2);
      few = few_more p m i n k h.few after;
    }

pub lasts_end : (game : List Move) (i n : ℕ) (p : State) → length game ≤ i → Lasts game i p n → Plays array_state 0 game p n
unfolding Plays
lasts_end game i n p past h =
    h.on p n (subst (λ (v : List Move). Plays p n v p n) (sym (drop_all i game past)) (refl, refl))

-- the four lines on a game make its text
pub end_lines : (game : List Move) (x y z : List ℕ) (last : State) (still half full : ℕ) (a b c d e : Option (List ℕ)) → Plays array_state 0 game last still → x ≡ placement_text last.board → y ≡ length_text (length game)
    → z ≡ position_text (record { position = last; half = half; full = full }) → half ≡ number still → full ≡ number (length game / 2 + 1) → AddsLine (IsMovetext game) a b → Appends b c (labelled_text (codes "diagram ") x)
    → Appends c d (labelled_text (codes "length ") y) → Appends d e (labelled_text (codes "fen ") z) → AddsSome (IsEndText game) a e
end_lines game x y z last still half full a b c d e plays is_x is_y is_z is_half is_full (moves, is, p) q r s =
    let q2 : Appends b c (labelled_text (codes "diagram ") (placement_text last.board)) = subst (λ (t : List ℕ). Appends b c (labelled_text (codes "diagram ") t)) is_x q in
    let r2 : Appends c d (labelled_text (codes "length ") (length_text (length game))) = subst (λ (t : List ℕ). Appends c d (labelled_text (codes "length ") t)) is_y r in
    let z2 : z ≡ position_text (last_of last still (length game)) = is_z ∙ ap (λ (n : ℕ). position_text (record { position = last; half = n; full = full })) is_half ∙ ap (λ (n : ℕ). position_text (record { position = last; half = number still; full = n })) is_full in
    let s2 : Appends d e (labelled_text (codes "fen ") (position_text (last_of last still (length game)))) = subst (λ (t : List ℕ). Appends d e (labelled_text (codes "fen ") t)) z2 s in
    let below : Appends c e (labelled_text (codes "length ") (length_text (length game)) ++ labelled_text (codes "fen ") (position_text (last_of last still (length game)))) = Appends-trans c d e _ _ r2 s2 in
    let three : Appends b e (labelled_text (codes "diagram ") (placement_text last.board) ++ (labelled_text (codes "length ") (length_text (length game)) ++ labelled_text (codes "fen ") (position_text (last_of last still (length game))))) = Appends-trans b c e _ _ q2 below in (
      line_text moves ++ (labelled_text (codes "diagram ") (placement_text last.board) ++ (labelled_text (codes "length ") (length_text (length game)) ++ labelled_text (codes "fen ") (position_text (last_of last still (length game))))),
      record { moves = moves; last = last; still = still; is_movetext = is; plays = plays; is = refl },
      Appends-trans a b e (line_text moves) _ p three,
    )
