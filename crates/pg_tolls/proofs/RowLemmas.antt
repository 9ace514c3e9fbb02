-- Rows of numbers, and loops that make them. Leads to the contracts of rows.
use Rattle.pg_tolls.proofs.Common.{◌≡◌, ℕ, ◌+◌, ◌<◌, ◌≤◌, true, false, List, [], get_or, min, inl, inr, sym, subst, arith, ◌∙◌, eqb_tells, has, IsFirstFrom, AreAll, IsWithout, all_left, other_than, IsWithin, nth, cell, grown_by, AreLesser, IsNoLess}

-- ---- what is within a charge
-- what is at most a number grown from one at most `behind`
pub step_within : (before grown least behind charge : ℕ) → before ≤ grown → grown ≡ grown_by least charge → least ≤ behind → IsWithin before behind charge
step_within before grown least behind charge low e le = (omega arith, λ l. omega arith)

pub within_behind : (before behind y charge : ℕ) → behind ≤ y → IsWithin before behind charge → IsWithin before y charge
within_behind before behind y charge le h = (let a : before ≤ behind + charge = h.0 in omega arith, λ l. h.1 (omega arith))

-- ---- the least rows of a set
-- what is least of the squares that were taken out
abbrev pub IsLeastBut : List (List ℕ) → ℕ → ℕ → List ℕ → Type 0
IsLeastBut rows squares left least = (q : ℕ) → q < 64 → has squares q ≡ true → has left q ≡ false → (e : ℕ) → e < 16 → nth least e ≤ cell rows q e

-- a row so far: the squares that are left are of the set, and it is the least of the others
pub record IsLeastSoFar (rows : List (List ℕ)) (squares left : ℕ) (least : List ℕ) : Type 0 where
  pub part : AreAll (λ q. has squares q ≡ true) left
  pub low : IsLeastBut rows squares left least
  pub high : IsNoLess rows squares least

pub least_next : (rows : List (List ℕ)) (squares left rest square place : ℕ) (least lower : List ℕ) → place ≡ square → IsFirstFrom left 0 square → IsWithout left rest square → AreLesser least (get_or rows place []) lower 16 →
    IsLeastSoFar rows squares left least → IsLeastSoFar rows squares rest lower
least_next rows squares left rest square place least lower at is without lesser_there h =
    let lesser : AreLesser least (get_or rows square []) lower 16 = subst (λ (i : ℕ). AreLesser least (get_or rows i []) lower 16) at lesser_there in
    record {
      part = all_left (λ q. has squares q ≡ true) left rest square h.part without;
      low = λ q lq on off e le. elim (eqb_tells q square) [
        | inl w ↦
            (let a : nth lower e ≡ min (nth least e) (cell rows square e) = lesser e le in
            subst (λ (x : ℕ). nth lower e ≤ cell rows x e) (sym w.1) (omega arith))
        | inr w ↦
            (let a : nth lower e ≡ min (nth least e) (cell rows square e) = lesser e le in
            omega (arith, h.low q lq on (sym (other_than left rest square q without lq w.1) ∙ off) e le))
      ];
      high = λ m e le low all.
          (let a : nth lower e ≡ min (nth least e) (cell rows square e) = lesser e le in
          omega (arith, h.high m e le low all, all square is.on_board (h.part square is.on_board is.member)));
    }
