-- The test of price lists of travel as a yes or a no.
use Rattle.std.proofs.Common.{◌≡◌, ◌↔◌, ℕ, ◌+◌, ◌-◌, ◌<◌, ◌≤◌, inl, inr, Bool, true, IsTrue, Option, List, arith, Some}
use Rattle.std.proofs.lemmas.Bool.Decides.{leb_tells}
use Rattle.pg_board.specs.declared.man.Color.{Color}
use Rattle.pg_board.specs.declared.man.Kind.{Kind}
use Rattle.pg_board.specs.Placement.{Placement}
use Rattle.pg_board.specs.Men.{man}
use Rattle.pg_board.specs.lemmas.Decisions.{dec_and, dec_along, dec_not, dec_equal, dec_implies, dec_some_below, dec_all_below, dec_all_kinds, dec_get, dec_zip, answer, answer_tells, answer_is, dec_less}
use Rattle.pg_position.specs.declared.rights.Wing.{Wing}
use Rattle.pg_position.specs.declared.state.State.{State}
use Rattle.pg_captures.specs.Counting.{any_man}
use Rattle.pg_captures.specs.PriceLists.{PriceList, price}
use Rattle.pg_travel.specs.Walks.{Walk, IsLeast, IsDistance}
use Rattle.pg_travel.specs.Origins.{counted}
use Rattle.pg_travel.specs.lemmas.Decisions.{dec_walk, least}
use Rattle.pg_travel.specs.TravelPrices.{ways_of, TravelPricesFit, WayPricesExclude, TravelPricesExclude}

-- one man of the diagram and one of the position fit: no walk is shorter than what the first pays above the other
dec_pair : (c : Color) (k j : Kind) (r t u v : ℕ) → Dec ((n : ℕ) → IsDistance c k r j t n → v ≤ u + n)
dec_pair c k j r t u v = dec_along fits back (dec_not (dec_some_below (λ n. Walk c k r n j t) (λ n. dec_walk c k r n j t) (v - u)))
  where
    fits : ¬ ((n : ℕ) × (n < v - u) × Walk c k r n j t) → (n : ℕ) → IsDistance c k r j t n → v ≤ u + n
    fits f n h = elim (leb_tells v (u + n)) [ inl w ↦ w.1 | inr w ↦ absurd (f (n, (let low : u + n < v = w.1 in omega arith), h.0)) ]

    back : ((n : ℕ) → IsDistance c k r j t n → v ≤ u + n) → ¬ ((n : ℕ) × (n < v - u) × Walk c k r n j t)
    back f (n, low, walk) =
        let m : (m : ℕ) × (m ≤ n) × IsLeast (λ i. Walk c k r i j t) m = least (λ i. Walk c k r i j t) (λ i. dec_walk c k r i j t) n walk in
        let pays : v ≤ u + m.0 = f m.0 m.2 in
        let few : m.0 ≤ n = m.1 in
        let less : n < v - u = low in
        omega arith

dec_fit : (d : Placement) (p : State) (c : Color) (way : Option Wing) (l : PriceList) → Dec (TravelPricesFit d p c way l)
unfolding TravelPricesFit
dec_fit d p c way l =
    dec_along (λ f k j s t n low lowt here there walk. f k j s low t lowt here there n walk) (λ f k j s low t lowt here there n walk. f k j s t n low lowt here there walk)
    (dec_all_kinds _ (λ k. dec_all_kinds _ (λ j. dec_all_below _ (λ s. dec_all_below _ (λ t. dec_implies (dec_get p.board s (Some (man c k))) (dec_implies (dec_get d t (Some (man c j))) (dec_pair c k j (counted c way s) t (price l.u c any_man p.board s) (price l.v c any_man d t)))) 64) 64)))

dec_way : (d : Placement) (p : State) (k : ℕ) (c : Color) (way : Option Wing) (l : PriceList) → Dec (WayPricesExclude d p k c way l)
unfolding WayPricesExclude
dec_way d p k c way l = dec_along (λ h. ((h.0, h.1.0), h.1.1.0, h.1.1.1)) (λ h. (h.0.0, (h.0.1, (h.1, h.2)))) (dec_and (dec_equal _ _) (dec_and (dec_equal _ _) (dec_and (dec_fit d p c way l) (dec_less _ _))))

pub dec_travel_prices : (d : Placement) (p : State) (k : ℕ) (c : Color) (lists : List PriceList) → Dec (TravelPricesExclude d p k c lists)
unfolding TravelPricesExclude
dec_travel_prices d p k c lists = dec_zip (λ way l. WayPricesExclude d p k c way l) (λ way l. dec_way d p k c way l) (ways_of p c) lists

-- whether price lists of travel exclude
unfoldable pub travel_prices_test : Placement → State → ℕ → Color → List PriceList → Bool
travel_prices_test d p k c lists = answer (dec_travel_prices d p k c lists)

pub travel_prices_test_tells : (d : Placement) (p : State) (k : ℕ) (c : Color) (lists : List PriceList) → travel_prices_test d p k c lists ≡ true ↔ TravelPricesExclude d p k c lists
unfolding travel_prices_test
travel_prices_test_tells d p k c lists = answer_tells (dec_travel_prices d p k c lists)

pub travel_prices_test_is : (d : Placement) (p : State) (k : ℕ) (c : Color) (lists : List PriceList) (b : Bool) → IsTrue b ↔ TravelPricesExclude d p k c lists → b ≡ travel_prices_test d p k c lists
unfolding travel_prices_test
travel_prices_test_is d p k c lists b h = answer_is b h (dec_travel_prices d p k c lists)
