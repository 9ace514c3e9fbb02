-- The line of a problem. Leads to the contract of write_problems.
use Rattle.pg_pgn.proofs.Common.{◌≡◌, ℕ, List, [], ◌∷◌, ◌++◌, Option, length, refl, subst, Appends-trans, Appends, AddsSome, Move, State, array_state, IsGame, length_text, placement_text, IsMovetext, AddsLine, line_text, Plays, IsName, IsProblem, field_text}

played : (p : State) (n : ℕ) (game : List Move) (q : State) (still : ℕ) → Plays p n game q still → IsGame p game q
unfolding Plays
played p n [] q still h = h.0
played p n (m ∷ ms) q still (r, k, legal, after, more) = (r, legal, played r k ms q still more)

-- the three fields and the moves make the line
pub problem_line : (game : List Move) (name x y : List ℕ) (last : State) (still : ℕ) (a b c d e : Option (List ℕ)) → IsName name → Plays array_state 0 game last still → x ≡ placement_text last.board → y ≡ length_text (length game) → Appends a b (field_text name) → Appends b c (field_text x)
    → Appends c d (field_text y) → AddsLine (IsMovetext game) d e → AddsSome (IsProblem game) a e
problem_line game name x y last still a b c d e is_name plays is_x is_y p q r (moves, is, s) =
    let q2 : Appends b c (field_text (placement_text last.board)) = subst (λ (t : List ℕ). Appends b c (field_text t)) is_x q in
    let r2 : Appends c d (field_text (length_text (length game))) = subst (λ (t : List ℕ). Appends c d (field_text t)) is_y r in
    let below : Appends c e (field_text (length_text (length game)) ++ line_text moves) = Appends-trans c d e _ _ r2 s in
    let two : Appends b e (field_text (placement_text last.board) ++ (field_text (length_text (length game)) ++ line_text moves)) = Appends-trans b c e _ _ q2 below in (
      field_text name ++ (field_text (placement_text last.board) ++ (field_text (length_text (length game)) ++ line_text moves)),
      record { name = name; moves = moves; last = last; is_name = is_name; is_movetext = is; is_game = played array_state 0 game last still plays; is = refl },
      Appends-trans a b e (field_text name) _ p two,
    )
