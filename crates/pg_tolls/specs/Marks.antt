-- Counted walks: paths some of whose steps are marked. A mark stands for a capture.
use Rattle.std.specs.Prelude.{◌≡◌, ℕ, ◌+◌, ◌<◌, ◌≤◌, Bool, true, cond, Option, List, [], ◌∷◌}
use Rattle.pg_board.specs.declared.man.Color.{Color}
use Rattle.pg_board.specs.declared.man.Kind.{Kind}
use Rattle.pg_board.specs.declared.man.Kind.TheVariants.{Pawn}
use Rattle.pg_board.specs.Placement.{Placement}
use Rattle.pg_position.specs.declared.rights.Wing.{Wing}
use Rattle.pg_position.specs.declared.state.State.{State}
use Rattle.pg_position.specs.Position.{Stands}
use Rattle.pg_captures.specs.Owed.{victims}
use Rattle.pg_journeys.specs.Facts.{Facts}
use Rattle.pg_journeys.specs.Journeys.{Leg, may_take, Fate, Arrives, Falls, Journeys}

-- whether a step is marked: only one that may be a capture is, and a pawn's diagonal step always is
pub record IsMark (f : Facts) (c : Color) (l : Leg) (b : Bool) : Type 0 where
  pub may : b ≡ true → may_take f c l ≡ true
  pub must : l.kind ≡ Pawn → may_take f c l ≡ true → b ≡ true

-- a mark, or none, for each step of a path
abbrev pub AreMarks : Facts → Color → List Leg → List Bool → Type 0
AreMarks f c [] [] = Unit {0}
AreMarks f c [] (b ∷ bs) = ⊥
AreMarks f c (l ∷ ls) [] = ⊥
AreMarks f c (l ∷ ls) (b ∷ bs) = IsMark f c l b × AreMarks f c ls bs

-- the sum of a number over the squares that marked steps go to
abbrev pub marked : (ℕ → ℕ) → List Leg → List Bool → ℕ
marked h [] bs = 0
marked h (l ∷ ls) [] = 0
marked h (l ∷ ls) (b ∷ bs) = cond b (h l.to) 0 + marked h ls bs

-- how many steps are marked
abbrev pub marks_of : List Leg → List Bool → ℕ
marks_of ls bs = marked (λ q. 1) ls bs

-- the number of the square on which a man is captured; 0 for who is not
abbrev pub fallen : (ℕ → ℕ) → Fate → ℕ
fallen h (Arrives t) = 0
fallen h (Falls u) = h u

-- journeys of counted walks: in each walk at most as many steps are marked as c owes captures
pub record CountedJourneys (f : Facts) (d : Placement) (p : State) (c : Color) (way : Option Wing) : Type 0 where
  pub journeys : Journeys f d p c way
  pub marks : ℕ → List Bool
  pub counted : (k : Kind) (s : ℕ) → s < 64 → Stands p.board c k s → AreMarks f c (journeys.path s) (marks s)
  pub capped : (k : Kind) (s : ℕ) → s < 64 → Stands p.board c k s →
      marks_of (journeys.path s) (marks s) + victims c d ≤ victims c p.board
