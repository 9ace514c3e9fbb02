-- The test of a price list of pawn files as a yes or a no.
use Rattle.std.proofs.Common.{◌≡◌, ◌↔◌, ℕ, ◌+◌, ◌-◌, ◌≤◌, Bool, true, IsTrue, refl, sym, subst, arith, Some}
use Rattle.std.specs.Prelude.{sum, pos, ◌-ℤ◌, ◌<ℤ◌}
use Rattle.pg_board.specs.declared.man.Color.{Color}
use Rattle.pg_board.specs.declared.man.Color.TheVariants.{White, Black}
use Rattle.pg_board.specs.declared.man.Kind.TheVariants.{Pawn}
use Rattle.pg_board.specs.Squares.{file, rank}
use Rattle.pg_board.specs.Placement.{Placement}
use Rattle.pg_board.specs.Men.{man}
use Rattle.pg_board.specs.lemmas.Decisions.{dec_and, dec_along, dec_equal, dec_at_most, dec_implies, dec_all_below, dec_get, answer, answer_tells, answer_is, dec_less}
use Rattle.pg_position.specs.declared.state.State.{State}
use Rattle.pg_position.specs.Geometry.{apart, IsForward}
use Rattle.pg_captures.specs.Counting.{any_pawn}
use Rattle.pg_captures.specs.Owed.{owed}
use Rattle.pg_captures.specs.lemmas.OwedLemmas.{owed_below_less}
use Rattle.pg_captures.specs.PriceLists.{PriceList, price}
use Rattle.pg_pawns.specs.PawnPrices.{IsShift, PawnPricesFit, PawnPricesExclude}

-- the square t is at least n ranks ahead of s
dec_ahead : (c : Color) (s t n : ℕ) → Dec ((ranks : ℕ) × IsForward c ranks s t × (n ≤ ranks))
dec_ahead White s t n = dec_along (λ h. (rank t - rank s, omega (arith, h), omega (arith, h))) (λ h. (let e : rank t ≡ rank s + h.0 = h.1 in let low : n ≤ h.0 = h.2 in omega arith)) (dec_at_most (rank s + n) (rank t))
dec_ahead Black s t n = dec_along (λ h. (rank s - rank t, omega (arith, h), omega (arith, h))) (λ h. (let e : rank s ≡ rank t + h.0 = h.1 in let low : n ≤ h.0 = h.2 in omega arith)) (dec_at_most (rank t + n) (rank s))

-- one pawn of the diagram and one of the position fit
dec_pair : (c : Color) (s t u v : ℕ) → Dec ((n : ℕ) → IsShift c s t n → v ≤ u + n)
dec_pair c s t u v =
    dec_along (λ f n h. subst (λ (m : ℕ). v ≤ u + m) h.0 (f (subst (λ (m : ℕ). (ranks : ℕ) × IsForward c ranks s t × (m ≤ ranks)) (sym h.0) h.1))) (λ f h. f (apart (file s) (file t)) (refl, h))
    (dec_implies (dec_ahead c s t (apart (file s) (file t))) (dec_at_most v (u + apart (file s) (file t))))

dec_fit : (d b : Placement) (c : Color) (l : PriceList) → Dec (PawnPricesFit d b c l)
unfolding PawnPricesFit
dec_fit d b c l =
    dec_along (λ f s t n low lowt here there shift. f s low t lowt here there n shift) (λ f s low t lowt here there n shift. f s t n low lowt here there shift)
    (dec_all_below _ (λ s. dec_all_below _ (λ t. dec_implies (dec_get b s (Some (man c Pawn))) (dec_implies (dec_get d t (Some (man c Pawn))) (dec_pair c s t (price l.u c any_pawn b s) (price l.v c any_pawn d t)))) 64) 64)

dec_owed : (d b : Placement) (c : Color) (l : PriceList) → Dec (owed d b c <ℤ (pos (sum l.v) -ℤ pos (sum l.u)))
dec_owed d b c l = dec_along (owed_below_less d b c (sum l.v) (sum l.u)).1 (owed_below_less d b c (sum l.v) (sum l.u)).0 (dec_less _ _)

pub dec_pawn_prices : (d : Placement) (p : State) (c : Color) (l : PriceList) → Dec (PawnPricesExclude d p c l)
unfolding PawnPricesExclude
dec_pawn_prices d p c l = dec_along (λ h. ((h.0, h.1.0), h.1.1.0, h.1.1.1)) (λ h. (h.0.0, (h.0.1, (h.1, h.2)))) (dec_and (dec_equal _ _) (dec_and (dec_equal _ _) (dec_and (dec_fit d p.board c l) (dec_owed d p.board c l))))

-- whether a price list of pawn files excludes
unfoldable pub pawn_prices_test : Placement → State → Color → PriceList → Bool
pawn_prices_test d p c l = answer (dec_pawn_prices d p c l)

pub pawn_prices_test_tells : (d : Placement) (p : State) (c : Color) (l : PriceList) →
    pawn_prices_test d p c l ≡ true ↔ PawnPricesExclude d p c l
unfolding pawn_prices_test
pawn_prices_test_tells d p c l = answer_tells (dec_pawn_prices d p c l)

pub pawn_prices_test_is : (d : Placement) (p : State) (c : Color) (l : PriceList) (b : Bool) →
    IsTrue b ↔ PawnPricesExclude d p c l → b ≡ pawn_prices_test d p c l
unfolding pawn_prices_test
pawn_prices_test_is d p c l b h = answer_is b h (dec_pawn_prices d p c l)
