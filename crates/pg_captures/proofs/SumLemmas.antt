-- Sums of lists of numbers. Leads to the contract of the sum of prices.
use Rattle.pg_captures.proofs.Common.{◌≡◌, ℕ, ◌+◌, ◌<◌, ◌≤◌, List, length, get_or, take, refl, ap, sum}
use Rattle.std.proofs.lemmas.List.{take_all}
use Rattle.std.proofs.lemmas.List.Sums.{sum_by_more}

pub first_sum : (xs : List ℕ) → sum (take 0 xs) ≡ 0
first_sum xs = refl

pub more_sum : (xs : List ℕ) (i d : ℕ) → i < length xs → sum (take (i + 1) xs) ≡ sum (take i xs) + get_or xs i d
more_sum xs i d l = sum_by_more (λ x. x) xs i d l

pub whole_sum : (xs : List ℕ) (n : ℕ) → length xs ≤ n → sum (take n xs) ≡ sum xs
whole_sum xs n l = ap sum (take_all n xs l)
