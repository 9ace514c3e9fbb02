-- Moves that leave their king attacked, since they take no man that attacks him and stand in no attack's way, and moves
-- that leave him unattacked, since of each man that attacks him they do one or the other.
use Rattle.std.specs.Prelude.{◌≡◌, ◌≢◌, ℕ, ◌<◌, ◌⊎◌, Some, true, false}
use Rattle.pg_board.specs.declared.man.Color.{Color}
use Rattle.pg_board.specs.declared.man.Kind.{Kind}
use Rattle.pg_board.specs.declared.man.Kind.TheVariants.{Pawn, Knight, Bishop, Rook, Queen, King}
use Rattle.pg_board.specs.Bits.{has}
use Rattle.pg_board.specs.Men.{man, other}
use Rattle.pg_board.specs.Placement.{Placement, get, without}
use Rattle.pg_position.specs.declared.state.State.{State}
use Rattle.pg_position.specs.Geometry.{InPattern, IsBetween}
use Rattle.pg_position.specs.Attack.{Reaches, AttacksFrom}
use Rattle.pg_position.specs.Position.{IsOnlyKing}

-- a man of the colour attacks h, and would with a man on s too: he does not stand there, and it is not in between
unfoldable pub StaysAttacked : Placement → Color → ℕ → ℕ → Type 0
StaysAttacked b f h s = (x : ℕ) × (x < 64) × AttacksFrom b f x h × (x ≢ s) × ¬ IsBetween x s h

-- with the man on r gone to s his king would be attacked
unfoldable pub IsInVain : State → ℕ → ℕ → Type 0
IsInVain p r s = (h : ℕ) × IsOnlyKing p.board p.side h × StaysAttacked (without p.board r) (other p.side) h s

-- each man of the colour that attacks h stands on s, or s is in between
unfoldable pub IsParried : Placement → Color → ℕ → ℕ → Type 0
IsParried b f h s = (x : ℕ) → x < 64 → AttacksFrom b f x h → (x ≡ s) ⊎ IsBetween x s h

-- with the man on r gone to s his king would not be attacked
unfoldable pub IsInShelter : State → ℕ → ℕ → Type 0
IsInShelter p r s = (h : ℕ) × IsOnlyKing p.board p.side h × IsParried (without p.board r) (other p.side) h s

-- rooks and bishops, each with the queens; and the men of one step
abbrev pub IsLineKind : Kind → Type 0
IsLineKind k = (k ≡ Rook) ⊎ (k ≡ Bishop)

abbrev pub IsStepKind : Kind → Type 0
IsStepKind k = (k ≡ Pawn) ⊎ (k ≡ Knight) ⊎ (k ≡ King)

-- a man of the colour on x, of the kind or a queen, is seen from h along the lines of the kind
abbrev pub IsLineAttacker : Placement → Color → Kind → ℕ → ℕ → Type 0
IsLineAttacker b f k h x = Reaches b f k h x × ((get b x ≡ Some (man f k)) ⊎ (get b x ≡ Some (man f Queen)))

-- a man of the colour and kind on x is where a man of the kind and of the other colour on h would attack
abbrev pub IsStepAttacker : Placement → Color → Kind → ℕ → ℕ → Type 0
IsStepAttacker b f k h x = Reaches b (other f) k h x × (get b x ≡ Some (man f k))

-- off the set the colour goes on to attack h; to its squares a man comes by taking each of the attackers A or by standing
-- in between
pub record AreParries (b : Placement) (f : Color) (h : ℕ) (A : ℕ → Type 0) (set : ℕ) : Type 0 where
  pub vain : (s : ℕ) → s < 64 → has set s ≡ false → StaysAttacked b f h s
  pub safe : (s : ℕ) → s < 64 → has set s ≡ true → (x : ℕ) → x < 64 → A x → (x ≡ s) ⊎ IsBetween x s h

-- a man of the other colour would attack h along a line of the kind, and r alone is between
unfoldable pub IsPinnedAlong : Placement → Color → Kind → ℕ → ℕ → Type 0
IsPinnedAlong b c k h r = (x : ℕ) × (x < 64) × AttacksFrom (without b r) (other c) x h × IsBetween x r h × InPattern (other c) k h x
