-- The laws of counting men: by a loop over the squares, and where one square is written.
use Rattle.std.specs.Prelude.{◌≡◌, ℕ, ◌+◌, ◌<◌, ◌≤◌, Bool, Option, refl}
use Rattle.std.proofs.Common.{ap, ◌∙◌}
use Rattle.pg_board.specs.declared.man.Man.{Man}
use Rattle.pg_board.specs.Men.{passes}
use Rattle.pg_board.specs.Placement.{Placement, get, write}
use Rattle.pg_board.specs.Tally.{total, one, tally, tally_below}
use Rattle.pg_board.specs.lemmas.Sums.{count_below-le, total_changed, total-more}
use Rattle.pg_board.specs.lemmas.Placements.{get-write_same, get-write_other}

pub tally_below-none : (f : ℕ → Man → Bool) (b : Placement) → tally_below f b 0 ≡ 0
unfolding tally_below total
tally_below-none f b = refl

pub tally_below-more : (f : ℕ → Man → Bool) (b : Placement) (n : ℕ) → tally_below f b (n + 1) ≡ tally_below f b n + one (passes (f n) (get b n))
unfolding tally_below
tally_below-more f b n = total-more (λ s. one (passes (f s) (get b s))) n

pub tally_below-all : (f : ℕ → Man → Bool) (b : Placement) (n : ℕ) → n ≡ 64 → tally_below f b n ≡ tally f b
unfolding tally
tally_below-all f b n e = ap (tally_below f b) e

pub tally_below-le : (f : ℕ → Man → Bool) (b : Placement) (n : ℕ) → tally_below f b n ≤ n
unfolding tally_below
tally_below-le f b n = count_below-le (λ s. passes (f s) (get b s)) n

pub tally-le : (f : ℕ → Man → Bool) (b : Placement) → tally f b ≤ 64
unfolding tally
tally-le f b = tally_below-le f b 64

-- a count before and after one square is written
pub tally-write : (f : ℕ → Man → Bool) (b : Placement) (s : ℕ) (o : Option Man) → s < 64 →
    tally f (write b s o) + one (passes (f s) (get b s)) ≡ tally f b + one (passes (f s) o)
unfolding tally tally_below
tally-write f b s o low =
    let g : Placement → ℕ → ℕ = λ p t. one (passes (f t) (get p t)) in
    let e : total (g (write b s o)) 64 + g b s ≡ total (g b) 64 + g (write b s o) s =
    total_changed (g b) (g (write b s o)) 64 s low (λ t below ne. ap (λ x. one (passes (f t) x)) (get-write_other b s o t ne)) in
    let w : g (write b s o) s ≡ one (passes (f s) o) = ap (λ x. one (passes (f s) x)) (get-write_same b s o low) in
    e ∙ ap (λ (x : ℕ). total (g b) 64 + x) w

-- the steps of a loop that counts men, for `grind`
pub ruleset tallies = (tally_below-none, tally_below-more, tally_below-all, tally_below-le)
