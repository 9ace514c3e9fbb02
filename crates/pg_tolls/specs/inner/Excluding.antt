-- The bound by the halves of both colours.
use Rattle.std.specs.Prelude.{ℕ, ◌+◌, ◌*◌, ◌-◌, ◌<◌, ◌≤◌, ◌⊎◌, ◌≡◌, Option, None, Some, ℤ, pos, ◌+ℤ◌}
use Rattle.pg_board.specs.declared.man.Color.{Color}
use Rattle.pg_board.specs.Placement.{Placement}
use Rattle.pg_position.specs.declared.state.State.{State}
use Rattle.pg_captures.specs.Counting.{men, any_man}
use Rattle.pg_captures.specs.Owed.{plies_left}
use Rattle.pg_journeys.specs.FirstFacts.{HasWalls}
use Rattle.pg_journeys.specs.Rounds.{HasFew}
use Rattle.pg_tolls.specs.inner.Values.{marks_for, IsCost}
use Rattle.pg_tolls.specs.declared.half.Half.{Half}

-- what tables count too much: 128 for each mark of each man, and 127 for each man who is captured
abbrev pub surplus : Half → Placement → State → ℕ
surplus x d p = 128 * (marks_for x d p.board * men x.color any_man p.board) + 127 * (men x.color any_man p.board - x.goals.count)

-- what the plies of a colour pay for: its steps, and what tables count too much
abbrev pub share : Half → Placement → State → ℕ → ℕ
share x d p k = x.weight * plies_left p.side x.color k + surplus x d p

abbrev pub limit : Half → Half → Placement → State → ℕ → ℕ
limit white black d p k = share white d p k + share black d p k

-- what the men of both colours cost, each in some way, is paid for
abbrev pub IsPaidFor : Half → Half → Placement → State → ℕ → Type 0
IsPaidFor white black d p k =
    (v : ℕ) × (w : ℕ) × IsCost white d p v × IsCost black d p w × (v + w ≤ limit white black d p k)

-- what the men of a colour cost at least, in some way, less what tables count too much; none where they have no cost
abbrev pub IsCheapest : Half → Placement → State → Option ℤ → Type 0
IsCheapest x d p None = (v : ℕ) → IsCost x d p v → ⊥
IsCheapest x d p (Some z) = (v : ℕ) × ((z +ℤ pos (surplus x d p)) ≡ pos v) × ((w : ℕ) → IsCost x d p w → v ≤ w)

-- the bound: a wall of d has lost its pawn in p; or p has fewer men of a colour than d; or no colour has more than sixteen men
-- in p, and both together are not paid for
unfoldable pub HalvesExclude : Half → Half → Placement → State → ℕ → Type 0
HalvesExclude white black d p k =
    (¬ HasWalls d p)
    ⊎ (((c : Color) × (men c any_man p.board < men c any_man d))
    ⊎ (HasFew p × ¬ IsPaidFor white black d p k))
