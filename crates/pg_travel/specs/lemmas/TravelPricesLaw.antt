-- The law of travel prices: where they exclude, no game of k plies ends on the diagram.
use Rattle.std.proofs.Common.{◌≡◌, ℕ, ◌+◌, ◌<◌, ◌≤◌, Bool, true, false, cond, Option, Some, None, ap, subst, arith, List, [], ◌∷◌, ◌++◌, length}
use Rattle.std.specs.Prelude.{sum}
use Rattle.std.specs.List.{AllZip}
use Rattle.pg_board.specs.declared.man.Color.{Color}
use Rattle.pg_board.specs.declared.man.Kind.{Kind}
use Rattle.pg_board.specs.Tally.{total}
use Rattle.pg_board.specs.Placement.{Placement}
use Rattle.pg_position.specs.declared.rights.Wing.{Wing}
use Rattle.pg_position.specs.declared.rights.Wing.TheVariants.{KingSide, QueenSide}
use Rattle.pg_position.specs.declared.state.State.{State}
use Rattle.pg_position.specs.Position.{Stands, holds, IsPosition}
use Rattle.pg_position.specs.Game.{Barren}
use Rattle.pg_captures.specs.Counting.{any_man, sum_over, on, is_there}
use Rattle.pg_captures.specs.Owed.{plies_left}
use Rattle.pg_travel.specs.Origins.{IsWayOf, charge, Origins}
use Rattle.pg_travel.specs.Needs.{TakesDistances}
use Rattle.pg_travel.specs.lemmas.SumLemmas.{there_man, man_there}
use Rattle.pg_travel.specs.lemmas.NeedLemmas.{distances_of_game}
use Rattle.pg_captures.specs.lemmas.Duality.{Sends, weak_duality}
use Rattle.pg_captures.specs.PriceLists.{PriceList, price}
use Rattle.pg_captures.specs.lemmas.PriceSums.{sum_of_prices}
use Rattle.pg_travel.specs.TravelPrices.{ways_of, TravelPricesFit, WayPricesExclude, TravelPricesExclude}

-- an origin map whose walks are shortest pays at least the value of a list that fits
paid : (p : State) (d : Placement) (c : Color) (way : Option Wing) (l : PriceList) (k : ℕ) (o : Origins d p c way) → TakesDistances d p c way o → WayPricesExclude d p k c way l → charge way + sum_over c any_man d o.plies ≤ plies_left p.side c k → ⊥
unfolding WayPricesExclude TravelPricesFit
paid p d c way l k o least excl bound =
    let us : ℕ → ℕ = price l.u c any_man p.board in
    let vs : ℕ → ℕ = price l.v c any_man d in
    let targets : ℕ → Bool = is_there c any_man d in
    let sources : ℕ → Bool = is_there c any_man p.board in
    let sends : Sends (is_there c any_man d) o.from 64 64 = record {
      low = λ t low h. o.low (there_man c d t h).0 t low (there_man c d t h).1;
      different = λ t w lt lw ht hw e. o.different (there_man c d t ht).0 (there_man c d w hw).0 t w lt lw (there_man c d t ht).1 (there_man c d w hw).1 e;
    } in
    let fits : (t : ℕ) → t < 64 → is_there c any_man d t ≡ true → price l.v c any_man d t ≤ on (is_there c any_man p.board) (price l.u c any_man p.board) (o.from t) + o.plies t =
    λ t low h. fit t low (there_man c d t h) in
    let duality : total (on (is_there c any_man d) (price l.v c any_man d)) 64 ≤ total (on (is_there c any_man p.board) (price l.u c any_man p.board)) 64 + total (on (is_there c any_man d) o.plies) 64 =
    weak_duality (on (is_there c any_man p.board) (price l.u c any_man p.board)) (price l.v c any_man d) o.plies (is_there c any_man d) o.from 64 64 sends fits in
    let a : total (on (is_there c any_man p.board) (price l.u c any_man p.board)) 64 ≡ sum l.u = sum_of_prices l.u c any_man p.board excl.0.0 in
    let b : total (on (is_there c any_man d) (price l.v c any_man d)) 64 ≡ sum l.v = sum_of_prices l.v c any_man d excl.0.1 in
    let above : plies_left p.side c k + sum l.u < sum l.v + charge way = excl.2 in
    omega arith
  where
    fit : (t : ℕ) → t < 64 → (j : Kind) × Stands d c j t → price l.v c any_man d t ≤ on (is_there c any_man p.board) (price l.u c any_man p.board) (o.from t) + o.plies t
    fit t low (j, h) =
        let a : price l.v c any_man d t ≤ price l.u c any_man p.board (o.from t) + o.plies t = excl.1 (o.kind t) j (o.from t) t (o.plies t) (o.low j t low h) low (o.stood j t low h) h (least j t low h) in
        let e : on (is_there c any_man p.board) (price l.u c any_man p.board) (o.from t) ≡ price l.u c any_man p.board (o.from t) = ap (λ (x : Bool). cond x (price l.u c any_man p.board (o.from t)) 0) (man_there c p.board (o.kind t) (o.from t) (o.stood j t low h)) in
        omega arith

-- each way has its list
list_of : (R : Option Wing → PriceList → Type 0) (p : State) (c : Color) (lists : List PriceList) → AllZip R (ways_of p c) lists → (way : Option Wing) → IsWayOf p c way → (l : PriceList) × R way l
list_of R p c lists h None held = first (holds p.rights c KingSide) (holds p.rights c QueenSide) lists h
  where
    first : (a b : Bool) (ls : List PriceList) → AllZip R (None ∷ (cond a (Some KingSide ∷ []) [] ++ cond b (Some QueenSide ∷ []) [])) ls → (l : PriceList) × R None l
    first a b [] h = absurd h
    first a b (x ∷ xs) h = (x, h.0)
list_of R p c lists h (Some KingSide) held = king (holds p.rights c KingSide) (holds p.rights c QueenSide) lists held h
  where
    king : (a b : Bool) (ls : List PriceList) → a ≡ true → AllZip R (None ∷ (cond a (Some KingSide ∷ []) [] ++ cond b (Some QueenSide ∷ []) [])) ls → (l : PriceList) × R (Some KingSide) l
    king true b [] e h = absurd h
    king true b (x ∷ []) e h = absurd h.1
    king true b (x ∷ (y ∷ ys)) e h = (y, h.1.0)
    king false b ls e h = cc
list_of R p c lists h (Some QueenSide) held = queen (holds p.rights c KingSide) (holds p.rights c QueenSide) lists held h
  where
    queen : (a b : Bool) (ls : List PriceList) → b ≡ true → AllZip R (None ∷ (cond a (Some KingSide ∷ []) [] ++ cond b (Some QueenSide ∷ []) [])) ls → (l : PriceList) × R (Some QueenSide) l
    queen true true [] e h = absurd h
    queen true true (x ∷ []) e h = absurd h.1
    queen true true (x ∷ (y ∷ [])) e h = absurd h.1.1
    queen true true (x ∷ (y ∷ (z ∷ zs))) e h = (z, h.1.1.0)
    queen false true [] e h = absurd h
    queen false true (x ∷ []) e h = absurd h.1
    queen false true (x ∷ (y ∷ ys)) e h = (y, h.1.0)
    queen a false ls e h = cc

-- the law, with which a yes means that no game of k plies ends on the diagram
abbrev pub TravelPricesLaw : Type 0
TravelPricesLaw = (d : Placement) (p : State) (k : ℕ) (c : Color) (lists : List PriceList) → IsPosition p → TravelPricesExclude d p k c lists → Barren d p k

pub travel_prices_barren : TravelPricesLaw
unfolding Barren TravelPricesExclude
travel_prices_barren d p k c lists pos excl ms q len game same =
    let found : (way : Option Wing) × IsWayOf p c way × ((o : Origins d p c way) × TakesDistances d p c way o × (charge way + sum_over c any_man d o.plies ≤ plies_left p.side c k)) =
    subst (λ (n : ℕ). (way : Option Wing) × IsWayOf p c way × ((o : Origins d p c way) × TakesDistances d p c way o × (charge way + sum_over c any_man d o.plies ≤ plies_left p.side c n))) len
    (subst (λ (x : Placement). (way : Option Wing) × IsWayOf p c way × ((o : Origins x p c way) × TakesDistances x p c way o × (charge way + sum_over c any_man x o.plies ≤ plies_left p.side c (length ms)))) same
    (distances_of_game p ms q c pos game)) in
    let l : (l : PriceList) × WayPricesExclude d p k c found.0 l = list_of (λ way l. WayPricesExclude d p k c way l) p c lists excl found.0 found.1 in
    paid p d c found.0 l.0 k found.2.0 found.2.1 l.1 found.2.2
