-- What paths may count, and what is shown of a side as said of its position. Leads to the contracts of `budgets_of`, `shown_of` and `is_dead`.
use Rattle.pg_journeys.proofs.Common.{◌≡◌, ℕ, ◌+◌, ◌<◌, ◌≤◌, inl, inr, Option, sym, subst, arith, ◌∙◌, MatchOption, cases_lt, Color, total, Placement, State, men, any_man, plies_left, victims, charge, Facts, Journeys, quiet, known, Moves, QuietMoves, IsPaid, facts_of, IsBudget, AreBudgets, IsDead, IsShownBy, Shows, Side, Shown}
use Rattle.pg_journeys.specs.declared.course.Course.{Course}
use Rattle.pg_journeys.specs.declared.facts.Facts.{Facts as FactSets}

-- who owes more captures than he has plies has no way alive
pub owes_too_much : (f : Facts) (d : Placement) (p : State) (k : ℕ) (c : Color) → plies_left p.side c k + victims c d < victims c p.board → IsDead f d p k c
owes_too_much f d p k c less way alive =
    let plan : (g : Journeys f d p c way) × IsPaid f d p k c way QuietMoves g = alive.1 QuietMoves in
    let h : charge way + total (λ s. quiet f c (plan.0.path s)) 64 + victims c p.board ≤ plies_left p.side c k + victims c d = plan.1 in
    omega arith

pub budgets_of : (d : Placement) (x : Side) (k : ℕ) (p : State) (c : Color) (m q most fewest : ℕ) → x.position ≡ p → x.terrain.color ≡ c → m ≡ most → q ≡ fewest → most ≡ plies_left p.side c k → fewest + victims c p.board ≡ plies_left p.side c k + victims c d → AreBudgets d x k m q
budgets_of d x k p c m q most fewest ep ec em eq all few =
    let a : IsBudget d p k c Moves m = em ∙ all in
    let b : IsBudget d p k c QuietMoves q = (let e : fewest + victims c p.board ≡ plies_left p.side c k + victims c d = few in omega arith) in
    record {
      all = subst (λ (z : Color). IsBudget d x.position k z Moves m) (sym ec) (subst (λ (z : State). IsBudget d z k c Moves m) (sym ep) a);
      few = subst (λ (z : Color). IsBudget d x.position k z QuietMoves q) (sym ec) (subst (λ (z : State). IsBudget d z k c QuietMoves q) (sym ep) b);
    }

-- none shown where no way is alive
abbrev pub IsShown : Facts → Placement → State → ℕ → Color → Option Shown → Type 0
IsShown f d p k c o = MatchOption o (IsDead f d p k c) (λ a. Shows f d p k c a)

pub shown_here : (d : Placement) (x : Side) (k : ℕ) (f : FactSets) (p : State) (c : Color) (o : Option Shown) → x.position ≡ p → x.terrain.facts ≡ f → x.terrain.color ≡ c → IsShown (facts_of x) d x.position k x.terrain.color o → IsShown (known f) d p k c o
shown_here d x k f p c o ep ef ec h =
    subst (λ (z : Color). IsShown (known f) d p k z o) ec (subst (λ (z : State). IsShown (known f) d z k x.terrain.color o) ep (subst (λ (z : FactSets). IsShown (known z) d x.position k x.terrain.color o) ef h))

-- on a course the colour has as many men as in the diagram
pub enough_of : (x : Course) (c : Color) → men c any_man x.diagram.now ≤ men c any_man x.position.now.board
enough_of x c = elim (cases_lt (men c any_man x.position.now.board) (men c any_man x.diagram.now)) [ inl less ↦ absurd (x.enough (c, less)) | inr more ↦ more ]

-- what is shown of the same side by as many counts
pub shown_as : (x y : Side) (m q most fewest : ℕ) (o : Option Shown) → y ≡ x → m ≡ most → q ≡ fewest → IsShownBy y m q o → IsShownBy x most fewest o
shown_as x y m q most fewest o ex em eq h = subst (λ (z : Side). IsShownBy z most fewest o) ex (subst (λ (n : ℕ). IsShownBy y n fewest o) em (subst (λ (n : ℕ). IsShownBy y m n o) eq h))
