-- The walk from square to square of those that the move which a text names may leave.
use Rattle.pg_san.proofs.Common.{◌≡◌, ◌≢◌, ℕ, ◌+◌, ◌<◌, ◌≤◌, Some, List, true, false, sym, ap, subst, arith, ◌∙◌, inl, inr, Result, Ok, Err, cases_lt, has, HasNoneFrom, IsFirstFrom, State, Move, IsLegal, on_board, SanFault, Shape, NoSuchMove, Ambiguous, Said, said_of, Fits, Matches, HoldsSources, NoneLeaves, IsFoundAt, NoneFits, IsFirstFit, IsSaidReading, IsTextReading}
use Rattle.pg_san.specs.declared.reading.Found.{Found}
use Rattle.pg_san.proofs.EndLemmas.{said_again}
use Rattle.pg_san.proofs.TextFoundLemmas.{said_found}

-- ---- a step of the walk
-- each legal move from the square start on that is as the text says leaves a square from at on
pub record WalkedTo (p : State) (said : Said) (start at : ℕ) : Type 0 where
  pub reached : start ≤ at
  pub left : (n : Move) → IsLegal p n → start ≤ n.from → Fits p said n → at ≤ n.from

pub walk_start : (p : State) (said : Said) (start : ℕ) → WalkedTo p said start start
walk_start p said start = record { reached = omega arith; left = λ n l reached fits. reached }

-- it leaves the first square of the set from there on, or a later one
no_earlier : (p : State) (said : Said) (set start at from : ℕ) (n : Move) → HoldsSources p said set → WalkedTo p said start at → IsFirstFrom set at from → IsLegal p n → start ≤ n.from → Fits p said n → from ≤ n.from
unfolding HoldsSources
no_earlier p said set start at from n holds w first l reached fits = elim (cases_lt n.from from) [
  | inl low ↦
      (let on : has set n.from ≡ true = holds n (on_board p n l).0 fits in
      let off : has set n.from ≡ false = first.before n.from (w.left n l reached fits) low in
      absurd (cc))
  | inr high ↦ high
]

pub walk_on : (p : State) (said : Said) (set start at from next : ℕ) → HoldsSources p said set → WalkedTo p said start at → IsFirstFrom set at from → NoneLeaves p said from → next ≡ from + 1 → WalkedTo p said start next
unfolding NoneLeaves
walk_on p said set start at from next holds w first none e = record {
  reached = omega (arith, w.reached, first.reached);
  left = λ n l reached fits. (
      let high : from ≤ n.from = no_earlier p said set start at from n holds w first l reached fits in
      let other : n.from ≢ from = λ same. none n l same fits in
      omega arith);
}

pub walk_found : (p : State) (said : Said) (set start at from : ℕ) (f : Found) → HoldsSources p said set → WalkedTo p said start at → IsFirstFrom set at from → IsFoundAt p said from f → IsFirstFit p said start f
walk_found p said set start at from f holds w first found =
    let here : f.m.from ≡ from = found.only.from_is in
    record {
      legal = found.legal;
      reached = omega (arith, w.reached, first.reached);
      fits = found.fits;
      first = λ n l reached fits. (
          let high : from ≤ n.from = no_earlier p said set start at from n holds w first l reached fits in
          elim (cases_lt from n.from) [
            | inl later ↦ inr (omega arith)
            | inr low ↦ inl (found.only.only n (omega arith) fits)
          ]);
    }

pub walk_end : (p : State) (said : Said) (set start at : ℕ) → HoldsSources p said set → WalkedTo p said start at → HasNoneFrom set at → NoneFits p said start
unfolding NoneFits HoldsSources
walk_end p said set start at holds w none = λ n l reached fits.
    (let low : n.from < 64 = (on_board p n l).0 in
    let on : has set n.from ≡ true = holds n low fits in
    let off : has set n.from ≡ false = none n.from (w.left n l reached fits) low in
    absurd (cc))

-- ---- what the walk concludes
pub said_none : (p : State) (said : Said) → NoneFits p said 0 → IsSaidReading p said (Err NoSuchMove)
unfolding NoneFits
said_none p said none = λ n l fits. none n l (omega arith) fits

pub said_two : (p : State) (said : Said) (f g : Found) → IsFirstFit p said 0 f → IsFirstFit p said (f.m.from + 1) g → IsSaidReading p said (Err Ambiguous)
said_two p said f g a b =
    let differ : f.m ≢ g.m = λ same. (let here : f.m.from ≡ g.m.from = ap (λ (x : Move). x.from) same in let high : f.m.from + 1 ≤ g.m.from = b.reached in omega arith) in
    (f.m, g.m, differ, ((f.next, a.legal), a.fits), ((g.next, b.legal), b.fits))

pub said_one : (p : State) (said : Said) (f : Found) → IsFirstFit p said 0 f → NoneFits p said (f.m.from + 1) → IsSaidReading p said (Ok f)
unfolding NoneFits
said_one p said f a none = (
  a.legal,
  a.fits,
  λ n l h. elim (a.first n l (omega arith) h) [
    | inl same ↦ same
    | inr later ↦ absurd (none n l (omega (arith, later)) h)
  ],
)

-- ---- what reading concludes
fits_of : (p : State) (text : List ℕ) (said : Said) (n : Move) → said_of text ≡ Some said → Matches p text n → Fits p said n
unfolding Matches
fits_of p text said n e (other, f, h) = let same : Some other ≡ Some said = sym (said_again text other f) ∙ e in let s : other ≡ said = cc in subst (λ (x : Said). Fits p x n) s h

matches_of : (p : State) (text : List ℕ) (said : Said) (n : Move) → said_of text ≡ Some said → Fits p said n → Matches p text n
unfolding Matches
matches_of p text said n e h = (said, said_found text said e, h)

pub read_so : (p : State) (text : List ℕ) (said : Said) (result : Result Found SanFault) → said_of text ≡ Some said → IsSaidReading p said result → IsTextReading p text result
read_so p text said (Ok f) e h = (((f.next, h.0), matches_of p text said f.m e h.1, λ n l y. h.2 n l (fits_of p text said n e y)), h.0)
read_so p text said (Err Shape) e h = absurd h
read_so p text said (Err NoSuchMove) e h = ((said, said_found text said e), λ n l y. h n l (fits_of p text said n e y))
read_so p text said (Err Ambiguous) e (m, n, differ, a, b) = (m, n, differ, (a.0, matches_of p text said m e a.1), (b.0, matches_of p text said n e b.1))
