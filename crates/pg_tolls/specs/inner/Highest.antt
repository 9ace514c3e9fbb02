-- Of the tables that are closed one has the highest numbers, so there is one alone.
use Rattle.std.specs.Prelude.{◌≡◌, ◌≢◌, ℕ, suc, ◌+◌, ◌*◌, ◌<◌, ◌≤◌, true, min, List, [], ◌++◌, length, get_or}
use Rattle.pg_board.specs.Bits.{has}
use Rattle.pg_board.specs.declared.man.Color.{Color}
use Rattle.pg_board.specs.declared.man.Kind.{Kind}
use Rattle.pg_board.specs.declared.man.Kind.TheVariants.{Pawn, Knight, Bishop, Rook, Queen, King}
use Rattle.pg_board.specs.Men.{other}
use Rattle.pg_board.specs.Squares.{rank}
use Rattle.pg_position.specs.Squares.{last_rank}
use Rattle.pg_position.specs.Step.{IsPiece}
use Rattle.pg_journeys.specs.Facts.{Facts}
use Rattle.pg_journeys.specs.Journeys.{IsLeg}
use Rattle.pg_journeys.specs.lemmas.Turns.{leg}
use Rattle.pg_journeys.specs.inner.Grounds.{Pushes, Captures}
use Rattle.pg_journeys.specs.inner.Sides.{square_at, kind_at}
use Rattle.pg_journeys.specs.declared.men.Men.{Men}
use Rattle.pg_tolls.specs.Tariffs.{Tariff}
use Rattle.pg_tolls.specs.inner.Tables.{entry, raised, IsWithin}
use Rattle.pg_tolls.specs.inner.Closing.{nth, cell, AreGrown}
use Rattle.pg_tolls.specs.declared.filling.Layer.{Layer}

-- ---- numbers
-- one for each number of marks, kind, square and column, and those of a kind, by square and column
abbrev pub Numbers : Type 0
Numbers = ℕ → Kind → ℕ → ℕ → ℕ

-- those of a piece, or of any kind, are within those behind his steps
abbrev pub AreWithinSteps : Facts → Color → Kind → (ℕ → ℕ → ℕ) → (ℕ → ℕ → ℕ) → (ℕ → ℕ) → Type 0
AreWithinSteps f c k before behind charge =
    (s q e : ℕ) → s < 64 → q < 64 → e < 16 → IsLeg f c (leg k s k q) → IsWithin (before s e) (behind q e) (charge q)

abbrev pub AreWithinPushes : Facts → Color → (ℕ → ℕ → ℕ) → ℕ → Type 0
AreWithinPushes f c numbers weight =
    (s q e : ℕ) → s < 64 → q < 64 → e < 16 → Pushes f c s q → IsWithin (numbers s e) (numbers q e) weight

abbrev pub AreWithinCaptures : Facts → Color → (ℕ → ℕ → ℕ) → (ℕ → ℕ → ℕ) → (ℕ → ℕ) → Type 0
AreWithinCaptures f c before behind charge =
    (s q e : ℕ) → s < 64 → q < 64 → e < 16 → Captures f c s q → IsWithin (before s e) (behind q e) (charge q)

-- no number is above the one that stands for none
abbrev pub AreNumbers : (ℕ → ℕ → ℕ) → Type 0
AreNumbers numbers = (s e : ℕ) → numbers s e ≤ 65535

-- they are at most those of a list of rows
abbrev pub AreBelow : (ℕ → ℕ → ℕ) → List (List ℕ) → Type 0
AreBelow numbers rows = (s e : ℕ) → s < 64 → e < 16 → numbers s e ≤ cell rows s e

-- a row that is offered to the squares of a set is not below theirs
abbrev pub IsOffer : (ℕ → ℕ → ℕ) → ℕ → List ℕ → Type 0
IsOffer numbers squares offered = (s e : ℕ) → s < 64 → e < 16 → has squares s ≡ true → numbers s e ≤ nth offered e

-- what is counted where a mark more is left over
abbrev pub AreLeftOver : List (List ℕ) → List (List ℕ) → ℕ → Type 0
AreLeftOver rows over n = (s : ℕ) → s < n → AreGrown (get_or rows s []) 128 (get_or over s []) 16

-- ---- closed numbers
-- the numbers are closed with j marks left, as a table is
pub record AreClosedAt (t : Tariff) (f : Facts) (c : Color) (goals : Men) (u : Numbers) (j : ℕ) : Type 0 where
  pub numbers : (k : Kind) → AreNumbers (u j k)
  pub ends : (e : ℕ) → e < goals.count → u j (kind_at goals e) (square_at goals e) e ≤ 128 * j
  pub falls : goals.count < 16 → (k : Kind) → k ≢ King → (s : ℕ) → s < 64 → f.lands (other c) s ≡ true →
      u j k s 15 + raised t (other c) s ≤ 128 * j + 255
  pub plain : (k : Kind) → k ≢ Pawn → AreWithinSteps f c k (u j k) (u j k) (λ q. t.weight c)
  pub take : (i : ℕ) → j ≡ suc i → (k : Kind) → k ≢ Pawn → AreWithinSteps f c k (u j k) (u i k) (λ q. t.weight c + raised t c q)
  pub pushed : AreWithinPushes f c (u j Pawn) (t.weight c)
  pub captured : (i : ℕ) → j ≡ suc i → AreWithinCaptures f c (u j Pawn) (u i Pawn) (λ q. t.weight c + raised t c q)
  pub promoted : (k : Kind) (q e : ℕ) → IsPiece k → q < 64 → e < 16 → rank q ≡ last_rank c → u j Pawn q e ≤ u j k q e

-- and so with up to n marks
abbrev pub AreClosedTo : Tariff → Facts → Color → Men → Numbers → ℕ → Type 0
AreClosedTo t f c goals u n = (j : ℕ) → j ≤ n → AreClosedAt t f c goals u j

-- ---- rows above numbers
-- whatever numbers are within those behind the steps of a piece, and below some rows, are below others
abbrev pub KeepsSteps : Facts → Color → Kind → ℕ → List (List ℕ) → List (List ℕ) → Type 0
KeepsSteps f c k weight old new =
    (b : ℕ → ℕ → ℕ) → AreNumbers b → AreWithinSteps f c k b b (λ q. weight) → AreBelow b old → AreBelow b new

-- the same of his marked steps, behind which stand numbers below the rows with a mark less
abbrev pub KeepsTakes : Tariff → Facts → Color → Kind → List (List ℕ) → List (List ℕ) → List (List ℕ) → Type 0
KeepsTakes t f c k before old new =
    (a b : ℕ → ℕ → ℕ) → AreNumbers b → AreWithinSteps f c k b a (λ q. t.weight c + raised t c q) → AreBelow a before → AreBelow b old → AreBelow b new

-- of the steps of pawns
abbrev pub KeepsPawns : Facts → Color → ℕ → List (List ℕ) → List (List ℕ) → List (List ℕ) → Type 0
KeepsPawns f c weight taken old new =
    (a b : ℕ → ℕ → ℕ) → AreNumbers b → AreWithinPushes f c b weight → AreWithinCaptures f c b a (λ q. weight) → AreBelow a taken → AreBelow b old → AreBelow b new

-- of pawns who are another man on the last rank
abbrev pub KeepsPromoted : Color → List (List ℕ) → List (List ℕ) → List (List ℕ) → Type 0
KeepsPromoted c piece old new =
    (a b : ℕ → ℕ → ℕ) → ((q e : ℕ) → q < 64 → e < 16 → rank q ≡ last_rank c → b q e ≤ a q e) → AreBelow a piece → AreBelow b old → AreBelow b new

-- of being captured by no step
abbrev pub KeepsFalls : Tariff → Facts → Color → List (List ℕ) → List (List ℕ) → Type 0
KeepsFalls t f c old new =
    (b : ℕ → ℕ → ℕ) → ((s : ℕ) → s < 64 → f.lands (other c) s ≡ true → b s 15 + raised t (other c) s ≤ 255) → AreBelow b old → AreBelow b new

-- and of all walks of no step
abbrev pub KeepsEnds : Tariff → Facts → Color → Men → Kind → List (List ℕ) → List (List ℕ) → Type 0
KeepsEnds t f c goals k old new =
    (b : ℕ → ℕ → ℕ) → (goals.count < 16 → k ≢ King → (s : ℕ) → s < 64 → f.lands (other c) s ≡ true → b s 15 + raised t (other c) s ≤ 255) →
    ((e : ℕ) → e < goals.count → kind_at goals e ≡ k → b (square_at goals e) e ≤ 0) → AreBelow b old → AreBelow b new

-- ---- the highest
-- no number is in the rows
abbrev pub AreBlank : List (List ℕ) → Type 0
AreBlank rows = (s e : ℕ) → s < 64 → e < 16 → 65535 ≤ cell rows s e

pub record IsBlank (x : Layer) : Type 0 where
  pub pawns : AreBlank x.pawns
  pub knights : AreBlank x.knights
  pub bishops : AreBlank x.bishops
  pub rooks : AreBlank x.rooks
  pub queens : AreBlank x.queens
  pub kings : AreBlank x.kings

-- the rows of a piece, with j marks left, are as high as those of all closed numbers
abbrev pub AreHigh : Tariff → Facts → Color → Men → ℕ → Kind → List (List ℕ) → Type 0
AreHigh t f c goals j k rows = (u : Numbers) → AreClosedTo t f c goals u j → AreBelow (u j k) rows

-- the numbers are below the rows of all kinds
pub record IsOver (u : Numbers) (j : ℕ) (x : Layer) : Type 0 where
  pub pawns : AreBelow (u j Pawn) x.pawns
  pub knights : AreBelow (u j Knight) x.knights
  pub bishops : AreBelow (u j Bishop) x.bishops
  pub rooks : AreBelow (u j Rook) x.rooks
  pub queens : AreBelow (u j Queen) x.queens
  pub kings : AreBelow (u j King) x.kings

abbrev pub IsHigh : Tariff → Facts → Color → Men → ℕ → Layer → Type 0
IsHigh t f c goals j x = (u : Numbers) → AreClosedTo t f c goals u j → IsOver u j x

-- with pawns whose captures lead to numbers below the taken rows, the numbers are below the rows of all kinds once more
abbrev pub KeepsOver : Tariff → Facts → Color → List (List ℕ) → Layer → Layer → Type 0
KeepsOver t f c taken old new =
    (goals : Men) (u : Numbers) (j : ℕ) (a : ℕ → ℕ → ℕ) → AreClosedAt t f c goals u j → AreWithinCaptures f c (u j Pawn) a (λ q. t.weight c) →
    AreBelow a taken → IsOver u j old → IsOver u j new

-- there is a row for each square
pub record AreLong (x : Layer) : Type 0 where
  pub pawns : length x.pawns ≡ 64
  pub knights : length x.knights ≡ 64
  pub bishops : length x.bishops ≡ 64
  pub rooks : length x.rooks ≡ 64
  pub queens : length x.queens ≡ 64
  pub kings : length x.kings ≡ 64

-- a table with the rows of a layer behind its own
abbrev pub with_layer : List (List ℕ) → Layer → List (List ℕ)
with_layer table x = (((((table ++ x.pawns) ++ x.knights) ++ x.bishops) ++ x.rooks) ++ x.queens) ++ x.kings

-- the first n layers of a table are as high as all closed numbers
abbrev pub AreHighest : Tariff → Facts → Color → Men → ℕ → List (List ℕ) → Type 0
AreHighest t f c goals n table =
    (u : Numbers) (j : ℕ) → j < n → AreClosedTo t f c goals u j → (k : Kind) (s e : ℕ) → s < 64 → e < 16 → u j k s e ≤ entry table j k s e

-- the numbers of a table; 65535 stands for all that is more
abbrev pub numbers_of : List (List ℕ) → Numbers
numbers_of rows j k s e = min (entry rows j k s e) 65535

-- with up to n marks it is closed, and as high as all that are
pub record AreTight (t : Tariff) (f : Facts) (c : Color) (goals : Men) (n : ℕ) (rows : List (List ℕ)) : Type 0 where
  pub closed : AreClosedTo t f c goals (numbers_of rows) n
  pub highest : AreHighest t f c goals (suc n) rows
