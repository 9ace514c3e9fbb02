-- The lines of a list of games grow by the line of one game more, and the parts of a report make it. Leads to the contract of
-- `write_report`.
use Rattle.pg_texts.proofs.Common.{◌≡◌, ℕ, ◌+◌, ◌<◌, ◌≤◌, List, [], ◌∷◌, ◌++◌, Option, Some, length, get_or, take, refl, sym, ap, subst, append_assoc, ◌∙◌, slice_get, codes, decimal, Appends-nil, Appends-trans, take_more, take_all, get_or_from_slice_get, Appends, AddsSome, Placement, Move, IsFromArray, IsGames, IsMovetext, AddsLine, IsVerdict, IsReport, AreGameLines, line_text, labelled_text, verdict_text, head_text}
use Rattle.pg_fen.specs.PlacementText.{placement_text}
use Rattle.pg_fen.specs.Lengths.{length_text}
use Rattle.pg_texts.specs.declared.verdict.Verdict.{Verdict}

pub game_line : (game : List Move) (a b c : Option (List ℕ)) → AddsSome (IsMovetext game) a b → Appends b c (10 ∷ []) → AddsLine (IsMovetext game) a c
game_line game a b c (text, is, more) feed = (text, is, Appends-trans a b c text (10 ∷ []) more feed)

lines_more : (games : List (List Move)) (g : List Move) (text line : List ℕ) → AreGameLines games text → IsMovetext g line → AreGameLines (games ++ g ∷ []) (text ++ (line ++ 10 ∷ []))
unfolding AreGameLines
lines_more [] g text line h is = (line, [], is, refl, ap (λ (l : List ℕ). l ++ (line ++ 10 ∷ [])) h)
lines_more (x ∷ xs) g text line (first, rest, said, more, e) is = (
  first,
  rest ++ (line ++ 10 ∷ []),
  said,
  lines_more xs g rest line more is,
  ap (λ (l : List ℕ). l ++ (line ++ 10 ∷ [])) e ∙ append_assoc first (10 ∷ rest) (line ++ 10 ∷ []),
)

pub no_lines : (games : List (List Move)) (held : Option (List ℕ)) → AddsSome (AreGameLines (take 0 games)) held held
unfolding AreGameLines
no_lines games held = ([], refl, Appends-nil held)

pub one_line_more : (games : List (List Move)) (n : ℕ) (g : List Move) (a b c : Option (List ℕ)) → n < length games → slice_get games n ≡ Some g → AddsSome (AreGameLines (take n games)) a b → AddsLine (IsMovetext g) b c → AddsSome (AreGameLines (take (n + 1) games)) a c
one_line_more games n g a b c low at (text, lines, grows) (line, is, more) =
    let here : get_or games n g ≡ g = get_or_from_slice_get games n g g at in
    let e : take (n + 1) games ≡ take n games ++ g ∷ [] = take_more games n g low ∙ ap (λ (x : List Move). take n games ++ x ∷ []) here in (
      text ++ (line ++ 10 ∷ []),
      subst (λ (x : List (List Move)). AreGameLines x (text ++ (line ++ 10 ∷ []))) (sym e) (lines_more (take n games) g text line lines is),
      Appends-trans a b c text (line ++ 10 ∷ []) grows more,
    )

pub all_lines : (games : List (List Move)) (n : ℕ) (a b : Option (List ℕ)) → length games ≤ n → AddsSome (AreGameLines (take n games)) a b → AddsSome (AreGameLines games) a b
all_lines games n a b l h = subst (λ (x : List (List Move)). AddsSome (AreGameLines x) a b) (take_all n games l) h

-- a game of the list is one from the initial array
pub listed_game : (games : List (List Move)) (n : ℕ) (g : List Move) → IsGames games → n < length games → slice_get games n ≡ Some g → IsFromArray g
listed_game games n g list low at = list.legal g (n, low, get_or_from_slice_get games n g g at)

-- the three parts make the report
pub report_grows : (d : Placement) (plies count : ℕ) (games : List (List Move)) (v : Verdict) (a b c e : Option (List ℕ)) → count ≡ length games → IsVerdict games v → Appends a b (head_text d plies count) → AddsSome (AreGameLines games) b c → Appends c e (line_text (verdict_text v))
    → AddsSome (IsReport d plies games) a e
report_grows d plies count games v a b c e many is head (lines, are, grows) last =
    let h : Appends a b (head_text d plies (length games)) = subst (λ (n : ℕ). Appends a b (head_text d plies n)) many head in (
      head_text d plies (length games) ++ (lines ++ line_text (verdict_text v)),
      record { lines = lines; verdict = v; are_lines = are; is_verdict = is; is = refl },
      Appends-trans a b e (head_text d plies (length games)) (lines ++ line_text (verdict_text v)) h (Appends-trans b c e lines (line_text (verdict_text v)) grows last),
    )

-- the three labelled lines are the head
pub head_grows : (d : Placement) (plies count : ℕ) (x y z : List ℕ) (a b c e : Option (List ℕ)) → x ≡ placement_text d → y ≡ length_text plies → z ≡ decimal count → Appends a b (labelled_text (codes "diagram ") x) → Appends b c (labelled_text (codes "length ") y) → Appends c e (labelled_text (codes "games ") z) → Appends a e (head_text d plies count)
unfolding head_text
head_grows d plies count x y z a b c e is_x is_y is_z p q r =
    let p2 : Appends a b (labelled_text (codes "diagram ") (placement_text d)) = subst (λ (t : List ℕ). Appends a b (labelled_text (codes "diagram ") t)) is_x p in
    let q2 : Appends b c (labelled_text (codes "length ") (length_text plies)) = subst (λ (t : List ℕ). Appends b c (labelled_text (codes "length ") t)) is_y q in
    let r2 : Appends c e (labelled_text (codes "games ") (decimal count)) = subst (λ (t : List ℕ). Appends c e (labelled_text (codes "games ") t)) is_z r in
    Appends-trans a b e (labelled_text (codes "diagram ") (placement_text d)) (labelled_text (codes "length ") (length_text plies) ++ labelled_text (codes "games ") (decimal count)) p2 (Appends-trans b c e (labelled_text (codes "length ") (length_text plies)) (labelled_text (codes "games ") (decimal count)) q2 r2)
