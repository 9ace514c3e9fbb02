-- Men met by a search, by kind: those met so far, those still to be looked at, and those that one count more meets.
use Rattle.std.specs.Prelude.{◌≡◌, ℕ, ◌<◌, ◌⊎◌, ◌&&◌, ◌||◌, Bool, true, false, not, cond, List}
use Rattle.pg_board.specs.Bits.{has}
use Rattle.pg_board.specs.declared.man.Kind.{Kind}
use Rattle.pg_board.specs.declared.man.Kind.TheVariants.{Pawn}
use Rattle.pg_board.specs.declared.man.Color.{Color}
use Rattle.pg_captures.specs.FreeSteps.{Becomes}
use Rattle.pg_board.specs.Men.{kind_eq}
use Rattle.pg_journeys.specs.inner.Counts.{of_kind}
use Rattle.pg_journeys.specs.declared.fronts.Front.{Front}

-- a set was joined to the set of a kind
abbrev pub IsJoined : Kind → ℕ → List ℕ → List ℕ → Type 0
IsJoined k set old new =
    (j : Kind) (t : ℕ) → has (of_kind new j) t ≡ (has (of_kind old j) t || (kind_eq j k && has set t))

-- ---- fronts
abbrev pub is_met : Front → Kind → ℕ → Bool
is_met f k s = has (of_kind f.met k) s

abbrev pub is_due : Front → Kind → ℕ → Bool
is_due f k s = has (of_kind f.due k) s

abbrev pub is_next : Front → Kind → ℕ → Bool
is_next f k s = has (of_kind f.next k) s

-- those of a kind on a set of squares, by a count of 1 or of 0
abbrev pub OnSet : Kind → ℕ → Bool → Kind → ℕ → ℕ → Type 0
OnSet k set b j t w = (j ≡ k) × (has set t ≡ true) × (w ≡ cond b 1 0)

-- pawns on a set of squares, as what they are there, by a count of 1 or of 0
abbrev pub PawnsOn : Color → ℕ → Bool → Kind → ℕ → ℕ → Type 0
PawnsOn c set b j t w = (has set t ≡ true) × Becomes c Pawn t j × (w ≡ cond b 1 0)

-- whom S meets by a count of 0 is met now, and due where he was not met before; whom it meets by a count of 1 is next
pub record IsMeeting (S : Kind → ℕ → ℕ → Type 0) (old new : Front) : Type 0 where
  pub met : (j : Kind) (t : ℕ) → t < 64 → is_met old j t ≡ true → is_met new j t ≡ true
  pub due : (j : Kind) (t : ℕ) → t < 64 → is_due old j t ≡ true → is_due new j t ≡ true
  pub next : (j : Kind) (t : ℕ) → t < 64 → is_next old j t ≡ true → is_next new j t ≡ true
  pub free : (j : Kind) (t : ℕ) → t < 64 → S j t 0 → is_met new j t ≡ true
  pub counted : (j : Kind) (t : ℕ) → t < 64 → S j t 1 → is_next new j t ≡ true
  pub new_met : (j : Kind) (t : ℕ) → t < 64 → is_met new j t ≡ true → (is_met old j t ≡ true) ⊎ (is_due new j t ≡ true)
  pub new_due : (j : Kind) (t : ℕ) → t < 64 → is_due new j t ≡ true →
      (is_due old j t ≡ true) ⊎ ((is_met old j t ≡ false) × S j t 0)
  pub new_next : (j : Kind) (t : ℕ) → t < 64 → is_next new j t ≡ true → (is_next old j t ≡ true) ⊎ S j t 1

-- the men of kind k on the set, one or more, were due and are no longer
pub record AreTakenDue (k : Kind) (set : ℕ) (old new : Front) : Type 0 where
  pub some : (s : ℕ) × (s < 64) × (has set s ≡ true)
  pub was : (t : ℕ) → t < 64 → has set t ≡ true → is_due old k t ≡ true
  pub gone : (t : ℕ) → t < 64 → has set t ≡ true → is_due new k t ≡ false
  pub rest : (j : Kind) (t : ℕ) → t < 64 → is_due new j t ≡ true → is_due old j t ≡ true
  pub each : (j : Kind) (t : ℕ) → t < 64 → is_due old j t ≡ true → ((j ≡ k) × (has set t ≡ true)) ⊎ (is_due new j t ≡ true)

-- nobody is due
abbrev pub NoneDue : Front → Type 0
NoneDue f = (j : Kind) (t : ℕ) → t < 64 → is_due f j t ≡ false

-- who was next is met now, and due where he was not met before; nobody is next
pub record IsAdvanced (old new : Front) (j : Kind) (t : ℕ) : Type 0 where
  pub met : is_met new j t ≡ (is_met old j t || is_next old j t)
  pub due : is_due new j t ≡ (is_next old j t && not (is_met old j t))
  pub next : is_next new j t ≡ false

-- those of a kind are as they were
pub record IsUnchanged (old new : Front) (j : Kind) (t : ℕ) : Type 0 where
  pub met : is_met new j t ≡ is_met old j t
  pub due : is_due new j t ≡ is_due old j t
  pub next : is_next new j t ≡ is_next old j t

abbrev pub HasAdvanced : Front → Front → Type 0
HasAdvanced old new = (j : Kind) (t : ℕ) → t < 64 → IsAdvanced old new j t
