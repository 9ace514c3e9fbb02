-- The sum of a list with a number for each man, as a sum over the squares.
use Rattle.std.proofs.Common.{◌≡◌, ℕ, zero, suc, ◌+◌, ◌≤◌, Bool, true, false, cond, refl, sym, ap, arith, ◌∙◌, List, length, get_or, take}
use Rattle.std.specs.Prelude.{sum}
use Rattle.std.proofs.lemmas.List.{take_all}
use Rattle.std.proofs.lemmas.List.Sums.{sum_by_more}
use Rattle.pg_board.specs.declared.man.Color.{Color}
use Rattle.pg_board.specs.declared.man.Kind.{Kind}
use Rattle.pg_board.specs.Tally.{total, one, count_below, tally, tally_below}
use Rattle.pg_board.specs.lemmas.Sums.{total-suc}
use Rattle.pg_board.specs.Placement.{Placement}
use Rattle.pg_captures.specs.Counting.{on, is_there}
use Rattle.pg_captures.specs.PriceLists.{price, IsPriced}

-- the squares below n that pass a test take the first numbers of the list, one after another
abbrev TakenBelow : List ℕ → (ℕ → Bool) → ℕ → Type 0
TakenBelow xs q n = total (on q (λ s. get_or xs (count_below q s) 0)) n ≡ sum (take (count_below q n) xs)

taken_more : (xs : List ℕ) (q : ℕ → Bool) (n : ℕ) → count_below q (suc n) ≤ length xs → TakenBelow xs q n → (b : Bool) → q n ≡ b → TakenBelow xs q (suc n)
taken_more xs q n room i false e =
    let sums : total (on q (λ s. get_or xs (count_below q s) 0)) (suc n) ≡ total (on q (λ s. get_or xs (count_below q s) 0)) n + on q (λ s. get_or xs (count_below q s) 0) n = total-suc (on q (λ s. get_or xs (count_below q s) 0)) n in
    let more : count_below q (suc n) ≡ count_below q n + one (q n) = total-suc (λ k. one (q k)) n in
    let z : one (q n) ≡ 0 = ap one e in
    let k : count_below q (suc n) ≡ count_below q n = omega arith in
    let v : on q (λ s. get_or xs (count_below q s) 0) n ≡ 0 = ap (λ (b : Bool). cond b (get_or xs (count_below q n) 0) 0) e in
    let w : sum (take (count_below q (suc n)) xs) ≡ sum (take (count_below q n) xs) = ap (λ (m : ℕ). sum (take m xs)) k in
    omega arith
taken_more xs q n room i true e =
    let sums : total (on q (λ s. get_or xs (count_below q s) 0)) (suc n) ≡ total (on q (λ s. get_or xs (count_below q s) 0)) n + on q (λ s. get_or xs (count_below q s) 0) n = total-suc (on q (λ s. get_or xs (count_below q s) 0)) n in
    let more : count_below q (suc n) ≡ count_below q n + one (q n) = total-suc (λ k. one (q k)) n in
    let z : one (q n) ≡ 1 = ap one e in
    let k : count_below q (suc n) ≡ count_below q n + 1 = omega arith in
    let v : on q (λ s. get_or xs (count_below q s) 0) n ≡ get_or xs (count_below q n) 0 = ap (λ (b : Bool). cond b (get_or xs (count_below q n) 0) 0) e in
    let w : sum (take (count_below q (suc n)) xs) ≡ sum (take (count_below q n + 1) xs) = ap (λ (m : ℕ). sum (take m xs)) k in
    let y : sum (take (count_below q n + 1) xs) ≡ sum (take (count_below q n) xs) + get_or xs (count_below q n) 0 = sum_by_more (λ x. x) xs (count_below q n) 0 (omega arith) in
    omega arith

taken : (xs : List ℕ) (q : ℕ → Bool) (n : ℕ) → count_below q n ≤ length xs → TakenBelow xs q n
unfolding total
taken xs q zero room = refl
taken xs q (suc n) room = taken_more xs q n room (taken xs q n (omega arith)) (q n) refl

-- the prices of all these men are the whole list
pub sum_of_prices : (xs : List ℕ) (c : Color) (f : ℕ → Kind → Bool) (b : Placement) → IsPriced xs c f b → total (on (is_there c f b) (price xs c f b)) 64 ≡ sum xs
unfolding tally tally_below
sum_of_prices xs c f b len =
    let room : count_below (is_there c f b) 64 ≤ length xs = omega (arith, len) in
    taken xs (is_there c f b) 64 room ∙ ap (λ (m : ℕ). sum (take m xs)) (sym len) ∙ ap sum (take_all (length xs) xs (omega arith))
