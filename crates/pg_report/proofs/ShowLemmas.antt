-- Texts appended one after the other make the lines that show a diagram. Leads to the contract of `run_show`.
use Rattle.pg_report.proofs.Common.{◌≡◌, ℕ, List, ◌++◌, Option, Some, subst, sym, refl, codes, Appends-trans, Appends, AddsSome, Placement, Color, White, Black, men, any_man, length_text, Reason, IsSideNeed, IsExpected, end_text, expected_text, range_text, AreKnown, name_of, counted_text, men_text, captured_text, reason_text, need_text, open_line, below_text, IsSideLine, IsShown}
use Rattle.pg_texts.specs.BoardText.{board_text}
use Rattle.pg_report.specs.declared.expecting.Expected.{Expected}
use Rattle.pg_journeys.specs.declared.facts.Facts.{Facts as FactSets}

pub men_grow : (d : Placement) (c : Color) (n : ℕ) (name : List ℕ) (x y z : Option (List ℕ)) → name ≡ name_of c → n ≡ men c any_man d → Appends x y name → Appends y z (counted_text n (codes " man, captured ") (codes " men, captured ")) → Appends x z (men_text d c)
men_grow d c n name x y z named counted first second = Appends-trans x y z (name_of c) _ (subst (Appends x y) named first) (subst (λ k. Appends y z (counted_text k (codes " man, captured ") (codes " men, captured "))) counted second)

pub open_grows : (least : Option ℕ) (n : ℕ) (text : List ℕ) (w x y z : Option (List ℕ)) → least ≡ Some n → text ≡ length_text n → Appends w x (codes "no game is shorter than ") → Appends x y text → Appends y z (codes "\n") → Appends w z (open_line least)
open_grows least n text w x y z is said first second third = subst (λ o. Appends w z (open_line o)) (sym is) (Appends-trans w x z (codes "no game is shorter than ") _ first (Appends-trans x y z (length_text n) (codes "\n") (subst (Appends x y) said second) third))

pub expected_grows : (expected : Option Expected) (e : Expected) (words : List ℕ) (w x y z : Option (List ℕ)) → expected ≡ Some e → words ≡ end_text e.is_longer
    → Appends w x (codes "a search by journeys may visit ") → Appends x y (range_text e.hundredths) → Appends y z words → Appends w z (expected_text expected)
expected_grows expected e words w x y z is said first second third =
    subst (λ o. Appends w z (expected_text o)) (sym is)
    (Appends-trans w x z (codes "a search by journeys may visit ") _ first (Appends-trans x y z (range_text e.hundredths) (end_text e.is_longer) second (subst (Appends y z) said third)))

pub never_grows : (reason : Option Reason) (words : List ℕ) (w x y z : Option (List ℕ)) → words ≡ reason_text reason → Appends w x (codes "cannot stand so in 64.0 moves or less") → Appends x y words → Appends y z (codes "\n")
    → Appends w z (codes "cannot stand so in 64.0 moves or less" ++ (reason_text reason ++ codes "\n"))
never_grows reason words w x y z is first second third = Appends-trans w x z (codes "cannot stand so in 64.0 moves or less") _ first (Appends-trans x y z (reason_text reason) (codes "\n") (subst (Appends x y) is second) third)

pub side_grows : (d : Placement) (c : Color) (need : Option ℕ) (reason : Option Reason) (asked : Option ℕ) (w x y z : Option (List ℕ)) → IsSideNeed d c need reason → Appends w x (men_text d c) → Appends x y (captured_text d c) → Appends y z (need_text c need reason asked) → AddsSome (IsSideLine d c asked) w z
side_grows d c need reason asked w x y z is first second third = (
  men_text d c ++ (captured_text d c ++ need_text c need reason asked),
  (need, reason, is, refl),
  Appends-trans w x z (men_text d c) _ first (Appends-trans x y z (captured_text d c) (need_text c need reason asked) second third),
)

pub shown : (d : Placement) (asked least : Option ℕ) (facts : Option FactSets) (expected : Option Expected) (v w x y z : Option (List ℕ)) → AreKnown d asked facts → IsExpected d asked facts least expected → Appends v w (board_text d)
    → AddsSome (IsSideLine d White asked) w x → AddsSome (IsSideLine d Black asked) x y → Appends y z (below_text asked facts least expected) → AddsSome (IsShown d asked least) v z
shown d asked least facts expected v w x y z known is board (white, is_white, second) (black, is_black, third) last = (
  board_text d ++ (white ++ (black ++ below_text asked facts least expected)),
  (white, black, facts, expected, is_white, is_black, known, is, refl),
  Appends-trans v w z (board_text d) _ board (Appends-trans w x z white _ second (Appends-trans x y z black (below_text asked facts least expected) third last)),
)

-- the line of a colour that is this one
pub side_of : (d : Placement) (c here : Color) (asked : Option ℕ) (x y : Option (List ℕ)) → here ≡ c → AddsSome (IsSideLine d here asked) x y → AddsSome (IsSideLine d c asked) x y
side_of d c here asked x y is h = subst (λ k. AddsSome (IsSideLine d k asked) x y) is h
