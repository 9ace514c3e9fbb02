-- The parts of the reports. Leads to the contracts of `write_standing` and `write_cooks`.
use Rattle.pg_cooks.proofs.Common.{◌≡◌, ℕ, List, ◌++◌, Option, Some, length, refl, sym, subst, codes, decimal, Appends, Appends-trans, AddsSome, Placement, Move, AddsLine, AreGameLines, head_text, line_text, IsKnownText, IsStanding, IsGamesReport, standing_text, Standing, CookAnswer, IsAnswerText, IsCooksReport, IsEndText, IsFoundText, foreign_text, within_text}
use Rattle.pg_texts.specs.Movetext.{IsMovetext}

-- the head and the games
pub known_grows : (d : Placement) (plies count : ℕ) (games : List (List Move)) (a b c : Option (List ℕ)) → count ≡ length games → Appends a b (head_text d plies count) → AddsSome (AreGameLines games) b c → AddsSome (IsKnownText d plies games) a c
known_grows d plies count games a b c many head (lines, are, grows) =
    let h : Appends a b (head_text d plies (length games)) = subst (λ (n : ℕ). Appends a b (head_text d plies n)) many head in (
      head_text d plies (length games) ++ lines,
      record { lines = lines; are_lines = are; is = refl },
      Appends-trans a b c (head_text d plies (length games)) lines h grows,
    )

-- these, and what the games say
pub standing_grows : (d : Placement) (plies : ℕ) (games : List (List Move)) (s : Standing) (words : List ℕ) (a b c : Option (List ℕ)) → IsStanding games s → words ≡ standing_text s → AddsSome (IsKnownText d plies games) a b → Appends b c (line_text words)
    → AddsSome (IsGamesReport d plies games) a c
standing_grows d plies games s words a b c is same (front, is_front, grows) last =
    let l : Appends b c (line_text (standing_text s)) = subst (λ (t : List ℕ). Appends b c (line_text t)) same last in (
      front ++ line_text (standing_text s),
      record { front = front; standing = s; is_front = is_front; is_standing = is; is = refl },
      Appends-trans a b c front (line_text (standing_text s)) grows l,
    )

-- these, and what was found
pub cooks_grow : (d : Placement) (plies : ℕ) (games : List (List Move)) (answer : CookAnswer) (a b c : Option (List ℕ)) → AddsSome (IsKnownText d plies games) a b → AddsSome (IsAnswerText games answer) b c
    → AddsSome (IsCooksReport d plies games answer) a c
cooks_grow d plies games answer a b c (front, is_front, grows) (last, is_last, more) = (
  front ++ last,
  record { front = front; last = last; is_front = is_front; is_last = is_last; is = refl },
  Appends-trans a b c front last grows more,
)

-- the movetext of a game, and what stands behind it
pub end_grows : (last : List ℕ) (game : List Move) (a b c : Option (List ℕ)) → AddsLine (IsMovetext game) a b → Appends b c last → AddsSome (IsEndText last game) a c
end_grows last game a b c (line, is, grows) more = (
  line_text line ++ last,
  (line, is, refl),
  Appends-trans a b c (line_text line) last grows more,
)

-- the line that says what a game is, and the lines of the game
pub found_grows : (what last : List ℕ) (game : List Move) (a b c : Option (List ℕ)) → Appends a b what → AddsSome (IsEndText last game) b c
    → AddsSome (IsFoundText what last game) a c
found_grows what last game a b c first (rest, is, grows) = (what ++ rest, (rest, is, refl), Appends-trans a b c what rest first grows)

-- that no game was found, with how many foreign moves at most
pub within_grows : (o : Option ℕ) (n : ℕ) (number words : List ℕ) (w x y z : Option (List ℕ)) → o ≡ Some n → number ≡ decimal n → words ≡ foreign_text n → Appends w x (codes "none with at most ") → Appends x y number → Appends y z words
    → Appends w z (within_text o)
within_grows o n number words w x y z is same said first second third =
    subst (λ (m : Option ℕ). Appends w z (within_text m)) (sym is)
    (Appends-trans w x z (codes "none with at most ") (decimal n ++ foreign_text n) first
    (Appends-trans x y z (decimal n) (foreign_text n) (subst (λ (t : List ℕ). Appends x y t) same second) (subst (λ (t : List ℕ). Appends y z t) said third)))
