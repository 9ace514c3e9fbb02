-- The bound by the halves of both colours can be decided.
use Rattle.std.proofs.Common.{◌≡◌, ℕ, suc, ◌+◌, ◌-◌, ◌<◌, ◌≤◌, ◌↔◌, Bool, true, IsTrue, arith}
use Rattle.pg_board.specs.Placement.{Placement}
use Rattle.pg_board.specs.lemmas.Decisions.{dec_along, dec_and, dec_or, dec_not, dec_at_most, dec_less, dec_some_below, dec_colors, answer, answer_tells, answer_is}
use Rattle.pg_position.specs.declared.state.State.{State}
use Rattle.pg_captures.specs.Counting.{men, any_man}
use Rattle.pg_journeys.specs.lemmas.DecidingRounds.{dec_each_color, dec_walls}
use Rattle.pg_tolls.specs.inner.Values.{IsCost}
use Rattle.pg_tolls.specs.inner.Excluding.{limit, HalvesExclude}
use Rattle.pg_tolls.specs.lemmas.DecidingCosts.{dec_cost_within}
use Rattle.pg_tolls.specs.declared.half.Half.{Half}

-- the men of a colour cost at most n together
abbrev CostWithin : Half → Placement → State → ℕ → Type 0
CostWithin x d p n = (v : ℕ) × IsCost x d p v × (v ≤ n)

parts_fit : (v w a n : ℕ) → a < suc n → v ≤ a → w ≤ n - a → v + w ≤ n
parts_fit v w a n low l m = omega arith

first_fits : (v w n : ℕ) → v + w ≤ n → v < suc n
first_fits v w n le = omega arith

rest_fits : (v w n : ℕ) → v + w ≤ n → w ≤ n - v
rest_fits v w n le = omega arith

no_more : (v : ℕ) → v ≤ v
no_more v = omega arith

-- some part of a sum is enough for the one colour, and the rest for the other
dec_both : (x y : Half) (d : Placement) (p : State) (n : ℕ) → Dec ((v : ℕ) × (w : ℕ) × IsCost x d p v × IsCost y d p w × (v + w ≤ n))
dec_both x y d p n =
    dec_along forth back
    (dec_some_below (λ a. CostWithin x d p a × CostWithin y d p (n - a)) (λ a. dec_and (dec_cost_within x d p a) (dec_cost_within y d p (n - a))) (suc n))
  where
    forth : (a : ℕ) × (a < suc n) × (CostWithin x d p a × CostWithin y d p (n - a)) → (v : ℕ) × (w : ℕ) × IsCost x d p v × IsCost y d p w × (v + w ≤ n)
    forth (a, low, (h, g)) = (h.0, g.0, h.1, g.1, parts_fit h.0 g.0 a n low h.2 g.2)

    back : (v : ℕ) × (w : ℕ) × IsCost x d p v × IsCost y d p w × (v + w ≤ n) → (a : ℕ) × (a < suc n) × (CostWithin x d p a × CostWithin y d p (n - a))
    back (v, w, h, g, le) = (v, first_fits v w n le, ((v, h, no_more v), (w, g, rest_fits v w n le)))

-- whether the halves exclude
pub dec_halves : (white black : Half) (d : Placement) (p : State) (k : ℕ) → Dec (HalvesExclude white black d p k)
unfolding HalvesExclude
dec_halves white black d p k =
    dec_or (dec_not (dec_walls d p))
    (dec_or (dec_colors (λ c. men c any_man p.board < men c any_man d) (λ c. dec_less (men c any_man p.board) (men c any_man d)))
    (dec_and (dec_each_color (λ c. men c any_man p.board ≤ 16) (λ c. dec_at_most (men c any_man p.board) 16))
    (dec_not (dec_both white black d p (limit white black d p k)))))

-- the bound as a Bool
unfoldable pub halves_test : Half → Half → Placement → State → ℕ → Bool
halves_test white black d p k = answer (dec_halves white black d p k)

pub halves_tells : (white black : Half) (d : Placement) (p : State) (k : ℕ) → (halves_test white black d p k ≡ true) ↔ HalvesExclude white black d p k
unfolding halves_test
halves_tells white black d p k = answer_tells (dec_halves white black d p k)

-- what is true exactly where the halves exclude is the test
pub halves_is : (white black : Half) (d : Placement) (p : State) (k : ℕ) (b : Bool) → IsTrue b ↔ HalvesExclude white black d p k → b ≡ halves_test white black d p k
unfolding halves_test
halves_is white black d p k b h = answer_is b h (dec_halves white black d p k)
