-- When price lists can be spelled, as a test.
use Rattle.std.proofs.Common.{ℕ, zero, suc, ◌<◌, Bool, List, [], ◌∷◌, length, arith}
use Rattle.std.specs.Prelude.{All}
use Rattle.std.specs.Bool.{Decides}
use Rattle.pg_board.specs.lemmas.Decisions.{dec_and, dec_along, dec_equal, dec_at_most, answer, answer_tells, dec_less}
use Rattle.pg_captures.specs.PriceLists.{PriceList}
use Rattle.pg_price_lists.specs.PriceRecords.{sources, targets}
use Rattle.pg_certificate.specs.Spelling.{AreBytes, IsPriceList, ArePrices}

dec_bytes : (bytes : List ℕ) → Dec (AreBytes bytes)
dec_bytes [] = yes (λ i. omega arith)
dec_bytes (b ∷ bytes) = dec_along each (λ h. (h 0, λ i. h (suc i))) (dec_and (dec_less b 256) (dec_bytes bytes))
  where
    each : (b < 256) × AreBytes bytes → AreBytes (b ∷ bytes)
    each h zero = h.0
    each h (suc i) = h.1 i

dec_list : (a b : ℕ) (l : PriceList) → Dec (IsPriceList a b l)
dec_list a b l =
    dec_along (λ h. record { sources = h.0; targets = h.1.0; source_bytes = h.1.1.0; target_bytes = h.1.1.1 })
    (λ h. (h.sources, (h.targets, (h.source_bytes, h.target_bytes))))
    (dec_and (dec_equal (length l.u) a) (dec_and (dec_equal (length l.v) b) (dec_and (dec_bytes l.u) (dec_bytes l.v))))

dec_lists : (a b : ℕ) (ls : List PriceList) → Dec (All (λ l. IsPriceList a b l) ls)
dec_lists a b [] = yes (λ k d low. absurd (omega arith))
dec_lists a b (l ∷ ls) =
    dec_along each (λ h. (h 0 l (omega arith), λ k d low. h (suc k) d (omega arith)))
    (dec_and (dec_list a b l) (dec_lists a b ls))
  where
    each : IsPriceList a b l × All (λ x. IsPriceList a b x) ls → All (λ x. IsPriceList a b x) (l ∷ ls)
    each h zero d low = h.0
    each h (suc k) d low = h.1 k d (omega arith)

pub dec_prices : (prices : List PriceList) → Dec (ArePrices prices)
dec_prices prices =
    dec_along
    (λ h. record { some = h.0; few = h.1.0; few_sources = h.1.1.0; few_targets = h.1.1.1.0; lists = h.1.1.1.1 })
    (λ h. (h.some, (h.few, (h.few_sources, (h.few_targets, h.lists)))))
    (dec_and (dec_less 0 (length prices)) (dec_and (dec_at_most (length prices) 3)
    (dec_and (dec_at_most (sources prices) 64) (dec_and (dec_at_most (targets prices) 64)
    (dec_lists (sources prices) (targets prices) prices)))))

-- whether the lists can be spelled
unfoldable pub are_prices : List PriceList → Bool
are_prices prices = answer (dec_prices prices)

pub are_prices_decides : (prices : List PriceList) → Decides (are_prices prices) (ArePrices prices)
unfolding are_prices
are_prices_decides prices = answer_tells (dec_prices prices)
