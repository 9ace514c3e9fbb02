-- What steps count by a measure, and paths whose last step may be a capture.
use Rattle.std.specs.Prelude.{◌≡◌, ℕ, ◌+◌, ◌&&◌, Bool, true, cond, List}
use Rattle.pg_board.specs.declared.man.Color.{Color}
use Rattle.pg_board.specs.declared.man.Kind.{Kind}
use Rattle.pg_journeys.specs.Facts.{Facts}
use Rattle.pg_journeys.specs.Journeys.{Leg, IsLeg, IsPath, may_take}
use Rattle.pg_journeys.specs.lemmas.DecidingPaths.{weigh}
pub use Rattle.pg_journeys.specs.inner.Counts.{of_kind}

-- what a step counts: 1, but 0 in quiet moves where it may be a capture
abbrev pub counts : Facts → Color → Bool → Leg → ℕ
counts f c quiet l = cond (quiet && may_take f c l) 0 1

-- the man of kind k on s comes to be a man of kind j on t by a path whose last step may be a capture, and that counts n
abbrev pub ComesTaking : Facts → Color → Bool → Kind → ℕ → Kind → ℕ → ℕ → Type 0
ComesTaking f c quiet k s j t n =
    (ls : List Leg) × (l : Leg) × IsPath f c k s ls l.kind l.from × IsLeg f c l × (may_take f c l ≡ true) × (l.into ≡ j) × (l.to ≡ t)
    × (weigh (counts f c quiet) ls + counts f c quiet l ≡ n)
