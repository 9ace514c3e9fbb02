-- The parts of a row. Leads to the contract of `write_row`.
use Rattle.pg_judge.proofs.Common.{◌≡◌, ℕ, ◌+◌, ◌≤◌, List, [], ◌∷◌, ◌++◌, Option, Some, length, refl, sym, ap, subst, arith, ◌∙◌, codes, decimal, Appends, Placement, Move, AddsSome, IsSolution, foreign_text, apart_text, pair_text, AddsLongest, IsLongestGame, IsMovetext, IsBeside, IsFinding, IsGiven, ArePair, AreShown, IsDetail, IsNth, IsOther, IsRowOf, IsSecond, IsTold, IsWritable, IsWritten, below_text, cooks_text, head_text, Entry, Evidence, Finding, Settled, NotSound, NotSettled}
use Rattle.std.proofs.KnownBytes.{Appends-trans}
use Rattle.std.proofs.lemmas.List.{length-append, append-nil, nil_from_length, append_assoc}
use Rattle.pg_san.specs.Games.{IsFromArray}
use Rattle.pg_fen.specs.Lengths.{length_text}
use Rattle.pg_cooks.specs.Standing.{IsKnownText}
use Rattle.pg_judge.specs.declared.given.Given.{Given}
use Rattle.pg_judge.specs.declared.old.Old.{Old}
use Rattle.pg_judge.specs.declared.ruling.Evidence.TheVariants.{Several, Another, Shorter}
use Rattle.pg_judge.specs.declared.ruling.Ruling.{Ruling}

-- ---- games
-- the longest game at the front of a game is that game
longest_is : (ms game : List Move) → IsLongestGame ms game → IsFromArray ms → game ≡ ms
longest_is ms game l h =
    let low : length ms ≤ length game = l.longest ms [] (sym (append-nil ms)) h in
    let e : length ms ≡ length game + length l.rest = ap (λ (x : List Move). length x) l.is ∙ length-append game l.rest in
    let none : l.rest ≡ [] = nil_from_length l.rest (omega (arith, low, e)) in
    sym (l.is ∙ ap (λ (x : List Move). game ++ x) none ∙ append-nil game)

pub whole : (ms : List Move) (a b : Option (List ℕ)) → IsFromArray ms → AddsLongest ms a b → AddsSome (IsMovetext ms) a b
whole ms a b h (game, long, adds) = subst (λ (x : List Move). AddsSome (IsMovetext x) a b) (longest_is ms game long h) adds

pub second : (games : List (List Move)) (a b c : Option (List ℕ)) → AddsSome (IsNth games 1) a b → Appends b c (pair_text (codes "; they part") games (codes "")) → AddsSome (IsSecond games) a c
second games a b c (y, is, first) more = (
  y ++ pair_text (codes "; they part") games (codes ""),
  (y, is, refl),
  Appends-trans a b c y (pair_text (codes "; they part") games (codes "")) first more,
)

pub pair : (games : List (List Move)) (a b c e : Option (List ℕ)) → AddsSome (IsNth games 0) a b → Appends b c (codes "; ") → AddsSome (IsSecond games) c e
    → AddsSome (ArePair games) a e
pair games a b c e (x, is, first) mark (y, has, second) = (
  x ++ (codes "; " ++ y),
  (x, y, is, has, refl),
  Appends-trans a b e x (codes "; " ++ y) first (Appends-trans b c e (codes "; ") y mark second),
)

-- ---- lists
pub more_shown : (words : List ℕ) (games : List (List Move)) (n : ℕ) (a b c : Option (List ℕ)) → n ≡ length games → 2 ≤ length games
    → Appends a b (decimal n ++ words) → AddsSome (ArePair games) b c → AddsSome (AreShown words games) a c
more_shown words [] n a b c is many first h = absurd (omega (arith, many))
more_shown words (g ∷ []) n a b c is many first h = absurd (omega (arith, many))
more_shown words (x ∷ y ∷ more) n a b c is many first (both, are, second) =
    let k : Appends a b (decimal (length (x ∷ y ∷ more)) ++ words) = subst (λ (m : ℕ). Appends a b (decimal m ++ words)) is first in
    let all : Appends a c ((decimal (length (x ∷ y ∷ more)) ++ words) ++ both) = Appends-trans a b c (decimal (length (x ∷ y ∷ more)) ++ words) both k second in (
      decimal (length (x ∷ y ∷ more)) ++ (words ++ both),
      (both, are, refl),
      subst (λ (t : List ℕ). Appends a c t) (append_assoc (decimal (length (x ∷ y ∷ more))) words both) all,
    )

-- ---- evidence
pub told : (label : List ℕ) (game : List Move) (a b c : Option (List ℕ)) → Appends a b label → AddsSome (IsMovetext game) b c → AddsSome (IsTold label game) a c
told label game a b c first (moves, is, second) = (label ++ moves, (moves, is, refl), Appends-trans a b c label moves first second)

-- another game, and where it parts from the first of the author's
pub other : (author : List (List Move)) (game : List Move) (a b c : Option (List ℕ)) → AddsSome (IsTold (codes "another game: ") game) a b → Appends b c (apart_text (codes "; they part") author game (codes ""))
    → AddsSome (IsOther author game) a c
other author game a b c (told, is, first) more = (
  told ++ apart_text (codes "; they part") author game (codes ""),
  (told, is, refl),
  Appends-trans a b c told (apart_text (codes "; they part") author game (codes "")) first more,
)

-- ---- what may be written
from_array : (d : Placement) (n : ℕ) (g : List Move) → IsSolution d n g → IsFromArray g
unfolding IsFromArray
from_array d n g (long, (r, is, same)) = (r, is)

evidence_written : (d : Placement) (n : ℕ) (author : List (List Move)) (e : Evidence) → IsFinding d n author (NotSound e) → IsWritable e
evidence_written d n author (Several games) h = tt
evidence_written d n author (Another game) h = from_array d n game.items h.1.0
evidence_written d n author (Shorter game) h = from_array d (length game.items) game.items h.1.1

-- what is found is of games from the array
pub written : (d : Placement) (n : ℕ) (author : List (List Move)) (f : Finding) → IsFinding d n author f → IsWritten f
written d n author (Settled verdict games) h = tt
written d n author (NotSound e) h = evidence_written d n author e h
written d n author (NotSettled known) h = tt

-- ---- a row
pub row : (entry : Entry) (ruling : Ruling) (old : Old) (given : Given) (a b c e : Option (List ℕ))
    → IsGiven entry given
    → Appends a b (head_text entry.name.now entry.problem.length given ruling old) → AddsSome (IsDetail entry.games ruling.finding) b c
    → Appends c e (codes "\n") → AddsSome (IsRowOf entry ruling old) a e
row entry ruling old given a b c e is first (detail, tells, second) last =
    let head = head_text entry.name.now entry.problem.length given ruling old in (
      head ++ (detail ++ codes "\n"),
      (given, is, record { detail = detail; is_detail = tells; is = refl }),
      Appends-trans a b e head (detail ++ codes "\n") first (Appends-trans b c e detail (codes "\n") second last),
    )

-- ---- what is known
pub below_grows : (o : Option ℕ) (n : ℕ) (t : List ℕ) (a b c : Option (List ℕ)) → o ≡ Some n → t ≡ length_text n → Appends a b (codes "; none below ") → Appends b c t
    → Appends a c (below_text o)
below_grows o n t a b c is same first second =
    subst (λ (m : Option ℕ). Appends a c (below_text m)) (sym is)
    (Appends-trans a b c (codes "; none below ") (length_text n) first (subst (λ (x : List ℕ). Appends b c x) same second))

pub cooks_grow : (o : Option ℕ) (n m : ℕ) (said : List ℕ) (a b : Option (List ℕ)) → o ≡ Some n → m ≡ n → said ≡ foreign_text n
    → Appends a b (codes "; no cook with at most " ++ (decimal m ++ said)) → Appends a b (cooks_text o)
cooks_grow o n m said a b is same words h =
    subst (λ (x : Option ℕ). Appends a b (cooks_text x)) (sym is)
    (subst (λ (t : List ℕ). Appends a b (codes "; no cook with at most " ++ (decimal n ++ t))) words
    (subst (λ (k : ℕ). Appends a b (codes "; no cook with at most " ++ (decimal k ++ said))) same h))

-- ---- reports
-- the author's games, and what is found behind them
pub beside : (d : Placement) (n : ℕ) (author : List (List Move)) (Is : List ℕ → Type 0) (a b c : Option (List ℕ)) → AddsSome (IsKnownText d n author) a b → AddsSome Is b c
    → AddsSome (IsBeside d n author Is) a c
beside d n author Is a b c (front, known, first) (last, is, second) =
    (front ++ last, (front, last, known, is, refl), Appends-trans a b c front last first second)

pub beside_one : (d : Placement) (n : ℕ) (author : List (List Move)) (line : List ℕ) (a b c : Option (List ℕ)) → AddsSome (IsKnownText d n author) a b → Appends b c line
    → AddsSome (IsBeside d n author (λ (last : List ℕ). last ≡ line)) a c
beside_one d n author line a b c first second = beside d n author (λ (last : List ℕ). last ≡ line) a b c first (line, refl, second)
