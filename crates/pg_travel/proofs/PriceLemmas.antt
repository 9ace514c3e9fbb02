-- The tests of price lists, from sources and targets to all lists. Leads to the contract of `prices_exclude`.
use Rattle.pg_travel.proofs.Common.{◌≡◌, ◌↔◌, ℕ, ◌+◌, ◌<◌, cond, Bool, true, false, IsTrue, Option, Some, None, List, [], ◌∷◌, ◌++◌, length, refl, subst, arith, sum, Color, Placement, Wing, KingSide, QueenSide, State, holds, any_man, plies_left, PriceList, IsFor, charge, PairFits, AllFit, Each, EachExcludes}
use Rattle.std.specs.List.{AllZip}
use Rattle.pg_price_lists.specs.PriceRecords.{list_at}
use Rattle.pg_travel.specs.TravelPrices.{ways_of, TravelPricesFit, WayPricesExclude, TravelPricesExclude}

-- ---- all sources and targets
pub fit_all : (p : State) (d : Placement) (c : Color) (way : Option Wing) (l : PriceList) (b : Bool) → IsTrue b ↔ AllFit p.board d c way l.u l.v → IsTrue b ↔ TravelPricesFit d p c way l
unfolding AllFit PairFits TravelPricesFit
fit_all p d c way l b tells = ((λ y k j s t n ls lt hs ht dist. tells.0 y j k s t ls lt hs ht n dist), (λ y. tells.1 (λ j k s t ls lt hs ht n dist. y k j s t n ls lt hs ht dist)))

-- ---- a list
pub way_wrong : (p : State) (d : Placement) (k : ℕ) (c : Color) (way : Option Wing) (l : PriceList) → (IsFor l c any_man p.board d → plies_left p.side c k + sum l.u < sum l.v + charge way → ⊥) → IsTrue false ↔ WayPricesExclude d p k c way l
unfolding WayPricesExclude
way_wrong p d k c way l wrong = ((λ y. cc), (λ y. absurd (wrong y.0 y.2)))

pub way_at : (p : State) (d : Placement) (k : ℕ) (c : Color) (way : Option Wing) (l : PriceList) (b : Bool) → IsFor l c any_man p.board d → plies_left p.side c k + sum l.u < sum l.v + charge way → IsTrue b ↔ AllFit p.board d c way l.u l.v → IsTrue b ↔ WayPricesExclude d p k c way l
unfolding WayPricesExclude
way_at p d k c way l b for above tells = let fits : IsTrue b ↔ TravelPricesFit d p c way l = fit_all p d c way l b tells in ((λ y. (for, fits.0 y, above)), (λ y. fits.1 y.1))

-- ---- the lists of all ways
pub one_way : (R : Option Wing → PriceList → Type 0) (ls : List PriceList) (b : Bool) → IsTrue b ↔ ((length ls ≡ 1) × R None (list_at ls 0)) → IsTrue b ↔ AllZip R (None ∷ []) ls
one_way R [] b t = ((λ y. absurd (let e = (t.0 y).0 in cc)), (λ y. absurd y))
one_way R (x ∷ []) b t = ((λ y. ((t.0 y).1, tt)), (λ y. t.1 (refl, y.0)))
one_way R (x ∷ (y ∷ ys)) b t = ((λ h. absurd (let e = (t.0 h).0 in omega arith)), (λ h. absurd h.1))

pub two_ways : (R : Option Wing → PriceList → Type 0) (w : Wing) (ls : List PriceList) (b : Bool) → IsTrue b ↔ ((length ls ≡ 2) × R None (list_at ls 0) × R (Some w) (list_at ls 1)) → IsTrue b ↔ AllZip R (None ∷ (Some w ∷ [])) ls
two_ways R w [] b t = ((λ y. absurd (let e = (t.0 y).0 in cc)), (λ y. absurd y))
two_ways R w (x ∷ []) b t = ((λ y. absurd (let e = (t.0 y).0 in omega arith)), (λ y. absurd y.1))
two_ways R w (x ∷ (y ∷ [])) b t = ((λ h. ((t.0 h).1, ((t.0 h).2, tt))), (λ h. t.1 (refl, h.0, h.1.0)))
two_ways R w (x ∷ (y ∷ (z ∷ zs))) b t = ((λ h. absurd (let e = (t.0 h).0 in omega arith)), (λ h. absurd h.1.1))

pub three_ways : (R : Option Wing → PriceList → Type 0) (ls : List PriceList) (b : Bool) → IsTrue b ↔ ((length ls ≡ 3) × R None (list_at ls 0) × R (Some KingSide) (list_at ls 1) × R (Some QueenSide) (list_at ls 2)) → IsTrue b ↔ AllZip R (None ∷ (Some KingSide ∷ (Some QueenSide ∷ []))) ls
three_ways R [] b t = ((λ y. absurd (let e = (t.0 y).0 in cc)), (λ y. absurd y))
three_ways R (x ∷ []) b t = ((λ y. absurd (let e = (t.0 y).0 in omega arith)), (λ y. absurd y.1))
three_ways R (x ∷ (y ∷ [])) b t = ((λ h. absurd (let e = (t.0 h).0 in omega arith)), (λ h. absurd h.1.1))
three_ways R (x ∷ (y ∷ (z ∷ []))) b t = ((λ h. ((t.0 h).1, ((t.0 h).2, ((t.0 h).3, tt)))), (λ h. t.1 (refl, h.0, h.1.0, h.1.1.0)))
three_ways R (x ∷ (y ∷ (z ∷ (w ∷ ws)))) b t = ((λ h. absurd (let e = (t.0 h).0 in omega arith)), (λ h. absurd h.1.1.1))

not_held : {A : Type 0} → false ≡ true → A
not_held e = cc

each_zip : (R : Option Wing → PriceList → Type 0) (s l : Bool) (ls : List PriceList) (b : Bool) → IsTrue b ↔ Each R s l ls → IsTrue b ↔ AllZip R (None ∷ (cond s (Some KingSide ∷ []) [] ++ cond l (Some QueenSide ∷ []) [])) ls
each_zip R false false ls b t = one_way R ls b ((λ y. ((t.0 y).0, (t.0 y).1)), (λ h. t.1 (h.0, h.1, (λ e. not_held e), (λ e. not_held e))))
each_zip R true false ls b t = two_ways R KingSide ls b ((λ y. ((t.0 y).0, (t.0 y).1, (t.0 y).2 refl)), (λ h. t.1 (h.0, h.1, (λ e. h.2), (λ e. not_held e))))
each_zip R false true ls b t = two_ways R QueenSide ls b ((λ y. ((t.0 y).0, (t.0 y).1, (t.0 y).3 refl)), (λ h. t.1 (h.0, h.1, (λ e. not_held e), (λ e. h.2))))
each_zip R true true ls b t = three_ways R ls b ((λ y. ((t.0 y).0, (t.0 y).1, (t.0 y).2 refl, (t.0 y).3 refl)), (λ h. t.1 (h.0, h.1, (λ e. h.2), (λ e. h.3))))

pub each_told : (d e : Placement) (p : State) (k : ℕ) (c : Color) (ls : List PriceList) (b : Bool) → d ≡ e → IsTrue b ↔ EachExcludes d p k c ls → IsTrue b ↔ TravelPricesExclude e p k c ls
unfolding TravelPricesExclude
each_told d e p k c ls b same tells = subst (λ (x : Placement). IsTrue b ↔ AllZip (λ way l. WayPricesExclude x p k c way l) (ways_of p c) ls) same (each_zip (λ way l. WayPricesExclude d p k c way l) (holds p.rights c KingSide) (holds p.rights c QueenSide) ls b tells)

-- ---- the same board under another name
pub fit_moved : (a b d : Placement) (c : Color) (way : Option Wing) (u v : List ℕ) (r : Bool) → a ≡ b → IsTrue r ↔ AllFit a d c way u v → IsTrue r ↔ AllFit b d c way u v
fit_moved a b d c way u v r e x = subst (λ (y : Placement). IsTrue r ↔ AllFit y d c way u v) e x
