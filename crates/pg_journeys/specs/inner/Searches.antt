-- A search by counts: men are met from a start by steps that count 0 or 1, those of a lower count first.
use Rattle.std.specs.Prelude.{◌≡◌, ℕ, ◌+◌, ◌<◌, ◌⊎◌, Bool, true, List}
use Rattle.pg_board.specs.Bits.{has}
use Rattle.pg_board.specs.declared.man.Color.{Color}
use Rattle.pg_board.specs.declared.man.Kind.{Kind}
use Rattle.pg_journeys.specs.Facts.{Facts}
use Rattle.pg_journeys.specs.inner.Counts.{of_kind}
use Rattle.pg_journeys.specs.inner.Fronts.{is_met, is_due, is_next}
use Rattle.pg_journeys.specs.inner.Levels.{Men, Steps, Within, BackStart, BackStep, BackWithin, AheadStart, AheadStep, AheadWithin}
use Rattle.pg_journeys.specs.inner.Reached.{TakeStep, TakesAfter}
use Rattle.pg_journeys.specs.declared.fronts.Front.{Front}

-- whoever is due was met
abbrev pub AreDueMet : Front → Type 0
AreDueMet front = (k : Kind) (s : ℕ) → s < 64 → is_due front k s ≡ true → is_met front k s ≡ true

-- before the count n: all whom fewer counts meet were met and looked at
pub record IsBefore (start : Men) (step : Steps) (within : Within) (n : ℕ) (front : Front) : Type 0 where
  pub met : (k : Kind) (s : ℕ) → s < 64 → is_met front k s ≡ true → (m : ℕ) × (m < n) × within m k s
  pub all : (m : ℕ) (k : Kind) (s : ℕ) → s < 64 → m < n → within m k s → is_met front k s ≡ true
  pub next : (k : Kind) (s : ℕ) → s < 64 → is_next front k s ≡ true → within n k s
  pub started : (k : Kind) (s : ℕ) → s < 64 → start k s → (is_met front k s ≡ true) ⊎ (is_next front k s ≡ true)
  pub free : (k : Kind) (s : ℕ) (j : Kind) (t : ℕ) → s < 64 → t < 64 → is_met front k s ≡ true → step k s j t 0 →
      is_met front j t ≡ true
  pub counted : (k : Kind) (s : ℕ) (j : Kind) (t : ℕ) → s < 64 → t < 64 → is_met front k s ≡ true → step k s j t 1 →
      (is_met front j t ≡ true) ⊎ (is_next front j t ≡ true)

-- in the midst of the count n: those who are due are still to be looked at
pub record IsAmid (start : Men) (step : Steps) (within : Within) (n : ℕ) (front : Front) : Type 0 where
  pub met : (k : Kind) (s : ℕ) → s < 64 → is_met front k s ≡ true → within n k s
  pub due : AreDueMet front
  pub next : (k : Kind) (s : ℕ) → s < 64 → is_next front k s ≡ true → within (n + 1) k s
  pub started : (k : Kind) (s : ℕ) → s < 64 → start k s → is_met front k s ≡ true
  pub all : (m : ℕ) (k : Kind) (s : ℕ) → s < 64 → m < n → within m k s → is_met front k s ≡ true
  pub carried : (m : ℕ) (k : Kind) (s : ℕ) (j : Kind) (t : ℕ) → s < 64 → t < 64 → m < n → within m k s → step k s j t 1 →
      is_met front j t ≡ true
  pub free : (k : Kind) (s : ℕ) (j : Kind) (t : ℕ) → s < 64 → t < 64 → is_met front k s ≡ true → step k s j t 0 →
      (is_due front k s ≡ true) ⊎ (is_met front j t ≡ true)
  pub counted : (k : Kind) (s : ℕ) (j : Kind) (t : ℕ) → s < 64 → t < 64 → is_met front k s ≡ true → step k s j t 1 →
      (is_due front k s ≡ true) ⊎ ((is_met front j t ≡ true) ⊎ (is_next front j t ≡ true))

-- ---- backwards, from goals
abbrev pub IsBackBefore : Facts → Color → Bool → List ℕ → ℕ → Front → Type 0
IsBackBefore f c quiet goals n front = IsBefore (BackStart goals) (BackStep f c quiet) (BackWithin f c quiet goals) n front

abbrev pub IsBackAmid : Facts → Color → Bool → List ℕ → ℕ → Front → Type 0
IsBackAmid f c quiet goals n front = IsAmid (BackStart goals) (BackStep f c quiet) (BackWithin f c quiet goals) n front

-- ---- onwards, from the man of kind k on s
abbrev pub IsAheadBefore : Facts → Color → Bool → Kind → ℕ → ℕ → Front → Type 0
IsAheadBefore f c quiet k s n front = IsBefore (AheadStart k s) (AheadStep f c quiet) (AheadWithin f c quiet k s) n front

abbrev pub IsAheadAmid : Facts → Color → Bool → Kind → ℕ → ℕ → Front → Type 0
IsAheadAmid f c quiet k s n front = IsAmid (AheadStart k s) (AheadStep f c quiet) (AheadWithin f c quiet k s) n front

-- before the count n the sets show where steps that may be captures lead those who were met
pub record AreTakenBefore (f : Facts) (c : Color) (quiet : Bool) (k : Kind) (s n : ℕ) (front : Front) (sets : List ℕ) : Type 0 where
  pub sound : (j : Kind) (t : ℕ) → t < 64 → has (of_kind sets j) t ≡ true → (m : ℕ) × (m < n) × TakesAfter f c quiet k s m j t
  pub all : (i : Kind) (x : ℕ) (j : Kind) (t : ℕ) → x < 64 → t < 64 → is_met front i x ≡ true → TakeStep f c i x j t →
      has (of_kind sets j) t ≡ true

-- in the midst of the count n they show this but for those who are due
pub record AreTakenAmid (f : Facts) (c : Color) (quiet : Bool) (k : Kind) (s n : ℕ) (front : Front) (sets : List ℕ) : Type 0 where
  pub sound : (j : Kind) (t : ℕ) → t < 64 → has (of_kind sets j) t ≡ true → TakesAfter f c quiet k s n j t
  pub all : (i : Kind) (x : ℕ) (j : Kind) (t : ℕ) → x < 64 → t < 64 → is_met front i x ≡ true → TakeStep f c i x j t →
      (is_due front i x ≡ true) ⊎ (has (of_kind sets j) t ≡ true)
