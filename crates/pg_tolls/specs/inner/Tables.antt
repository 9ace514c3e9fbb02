-- Tables of what walks are charged: by the marks that are left, the kind and the square of a man, a row with a number for
-- each man of the diagram whom he may become, and the last one for being captured. A mark that is left counts 128, as does
-- a marked step beside its toll, so that no number is below 0.
use Rattle.std.specs.Prelude.{◌≡◌, ◌≢◌, ℕ, ◌+◌, ◌*◌, ◌<◌, ◌≤◌, suc, true, false, pos, ◌+ℤ◌, List, [], get_or}
use Rattle.pg_board.specs.declared.man.Color.{Color}
use Rattle.pg_board.specs.declared.man.Kind.{Kind}
use Rattle.pg_board.specs.declared.man.Kind.TheVariants.{King}
use Rattle.pg_board.specs.Men.{number_of_kind, other}
use Rattle.pg_journeys.specs.Facts.{Facts}
use Rattle.pg_journeys.specs.Journeys.{Leg, IsLeg}
use Rattle.pg_journeys.specs.inner.Sides.{square_at, kind_at}
use Rattle.pg_journeys.specs.declared.men.Men.{Men}
use Rattle.pg_tolls.specs.Tariffs.{Tariff, above}
use Rattle.pg_tolls.specs.Marks.{IsMark}

-- the number of a row, with j marks left
abbrev pub entry : List (List ℕ) → ℕ → Kind → ℕ → ℕ → ℕ
entry rows j k s e = get_or (get_or rows ((j * 6 + number_of_kind k) * 64 + s) []) e 0

-- a toll, counted from 128
abbrev pub raised : Tariff → Color → ℕ → ℕ
raised t c q = above (t.toll c q +ℤ pos 128)

-- what stands before a step is at most what stands behind it and the charge, and is no number only if that is none
abbrev pub IsWithin : ℕ → ℕ → ℕ → Type 0
IsWithin before behind charge = (before ≤ behind + charge) × (behind < 65535 → before < 65535)

-- the table is closed under the steps of c, for up to `most` marks: it is at most what each walk is charged
pub record IsClosed (t : Tariff) (f : Facts) (c : Color) (goals : Men) (most : ℕ) (rows : List (List ℕ)) : Type 0 where
  pub goal : (j e : ℕ) → j ≤ most → e < goals.count → entry rows j (kind_at goals e) (square_at goals e) e ≤ 128 * j
  pub fall : (j s : ℕ) (k : Kind) → j ≤ most → s < 64 → k ≢ King → goals.count < 16 → f.lands (other c) s ≡ true →
      entry rows j k s 15 + raised t (other c) s ≤ 128 * j + 255
  pub plain : (j e : ℕ) (l : Leg) → j ≤ most → e < 16 → IsLeg f c l → IsMark f c l false →
      IsWithin (entry rows j l.kind l.from e) (entry rows j l.into l.to e) (t.weight c)
  pub take : (j e : ℕ) (l : Leg) → j < most → e < 16 → IsLeg f c l → IsMark f c l true →
      IsWithin (entry rows (suc j) l.kind l.from e) (entry rows j l.into l.to e) (t.weight c + raised t c l.to)
