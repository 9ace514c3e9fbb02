-- The test of a price list of pawn files. Leads to the contract of `prices_exclude`.
use Rattle.pg_pawns.proofs.Common.{◌≡◌, ◌↔◌, ℕ, ◌+◌, ◌-◌, ◌<◌, ◌≤◌, Bool, true, false, IsTrue, List, refl, sym, ap, subst, arith, ◌∙◌, sum, Color, Pawn, Man, has, man, is_man, file, rank, Placement, get, apart, Stands, any_pawn, victims, owed_below_less, PriceList, price, IsFor, IsAhead, PairFits, SourceFits, AllFit}
use Rattle.pg_board.specs.declared.man.Color.TheVariants.{White, Black}
use Rattle.pg_board.specs.lemmas.Equalities.{is_man_decides}
use Rattle.pg_position.specs.declared.state.State.{State}
use Rattle.pg_pawns.specs.PawnPrices.{IsShift, PawnPricesFit, PawnPricesExclude}

-- ---- a pair
pub pair_low : (c : Color) (s u t v : ℕ) → v ≤ u → IsTrue true ↔ PairFits c s u t v
unfolding PairFits
pair_low c s u t v l = ((λ y n h. omega arith), (λ y. refl))

ahead_shift : (c : Color) (s t n : ℕ) → IsShift c s t n → IsAhead c (rank s) (rank t) n
ahead_shift White s t n (e, (k, f, l)) = omega arith
ahead_shift Black s t n (e, (k, f, l)) = omega arith

shift_ahead : (c : Color) (s t n : ℕ) → apart (file s) (file t) ≡ n → IsAhead c (rank s) (rank t) n → IsShift c s t n
shift_ahead White s t n e l = (e, (rank t - rank s, omega arith, omega arith))
shift_ahead Black s t n e l = (e, (rank s - rank t, omega arith, omega arith))

pub pair_none : (c : Color) (s u t v x f g : ℕ) → x ≡ apart (file s) (file t) → f ≡ rank s → g ≡ rank t → ¬ IsAhead c f g x → IsTrue true ↔ PairFits c s u t v
unfolding PairFits
pair_none c s u t v x f g is a b off = ((λ y n h. absurd (off (back n h))), (λ y. refl))
  where
    back : (n : ℕ) → IsShift c s t n → IsAhead c f g x
    back n h =
        let e : n ≡ x = sym h.0 ∙ sym is in
        let k : IsAhead c (rank s) (rank t) x = subst (λ (y : ℕ). IsAhead c (rank s) (rank t) y) e (ahead_shift c s t n h) in
        subst (λ (y : ℕ). IsAhead c y g x) (sym a) (subst (λ (y : ℕ). IsAhead c (rank s) y x) (sym b) k)

pub pair_at : (c : Color) (s u t v x f g : ℕ) (r : Bool) → x ≡ apart (file s) (file t) → f ≡ rank s → g ≡ rank t → IsAhead c f g x → IsTrue r ↔ (v ≤ u + x) → IsTrue r ↔ PairFits c s u t v
unfolding PairFits
pair_at c s u t v x f g r is a b ahead tells = ((λ y n h. forth (tells.0 y) n h), (λ y. tells.1 (y x (shift_ahead c s t x (sym is) (subst (λ (z : ℕ). IsAhead c z (rank t) x) a (subst (λ (z : ℕ). IsAhead c f z x) b ahead))))))
  where
    forth : v ≤ u + x → (n : ℕ) → IsShift c s t n → v ≤ u + n
    forth l n h = let e : n ≡ x = sym h.0 ∙ sym is in omega arith

-- ---- a source
pub own_pawns : (b : Placement) (c : Color) (m : Man) (set : ℕ) → m ≡ man c Pawn → ((q : ℕ) → q < 64 → has set q ≡ is_man m (get b q)) → (q : ℕ) → q < 64 → has set q ≡ is_man (man c Pawn) (get b q)
own_pawns b c m set e h q l = h q l ∙ ap (λ (x : Man). is_man x (get b q)) e

pub off_board : (b : Placement) (c : Color) (set q : ℕ) → has set q ≡ is_man (man c Pawn) (get b q) → has set q ≡ false → ¬ Stands b c Pawn q
off_board b c set q h off s = let y : is_man (man c Pawn) (get b q) ≡ true = (is_man_decides (man c Pawn) (get b q)).1 s in cc

pub on_board : (b : Placement) (c : Color) (set q : ℕ) → has set q ≡ is_man (man c Pawn) (get b q) → has set q ≡ true → Stands b c Pawn q
on_board b c set q h on = (is_man_decides (man c Pawn) (get b q)).0 (sym h ∙ on)

pub source_all : (d : Placement) (c : Color) (s u : ℕ) (v : List ℕ) → ((t : ℕ) → t < 64 → Stands d c Pawn t → PairFits c s u t (price v c any_pawn d t)) → IsTrue true ↔ SourceFits d c s u v
unfolding SourceFits
source_all d c s u v all = ((λ y. all), (λ y. refl))

pub source_not : (d : Placement) (c : Color) (s u : ℕ) (v : List ℕ) (t : ℕ) → t < 64 → Stands d c Pawn t → ¬ PairFits c s u t (price v c any_pawn d t) → IsTrue false ↔ SourceFits d c s u v
unfolding SourceFits
source_not d c s u v t low there wrong = ((λ y. cc), (λ y. absurd (wrong (y t low there))))

-- ---- all sources and targets
pub all_all : (b d : Placement) (c : Color) (u v : List ℕ) → ((s : ℕ) → s < 64 → Stands b c Pawn s → SourceFits d c s (price u c any_pawn b s) v) → IsTrue true ↔ AllFit b d c u v
unfolding AllFit
all_all b d c u v all = ((λ y. all), (λ y. refl))

pub all_not : (b d : Placement) (c : Color) (u v : List ℕ) (s : ℕ) → s < 64 → Stands b c Pawn s → ¬ SourceFits d c s (price u c any_pawn b s) v → IsTrue false ↔ AllFit b d c u v
unfolding AllFit
all_not b d c u v s low there wrong = ((λ y. cc), (λ y. absurd (wrong (y s low there))))

-- ---- the list
pub list_wrong : (d : Placement) (p : State) (c : Color) (l : PriceList) → (IsFor l c any_pawn p.board d → victims c p.board + sum l.u < sum l.v + victims c d → ⊥) → IsTrue false ↔ PawnPricesExclude d p c l
unfolding PawnPricesExclude
list_wrong d p c l wrong = ((λ y. cc), (λ y. absurd (wrong y.0 ((owed_below_less d p.board c (sum l.v) (sum l.u)).0 y.2))))

pub list_at : (d : Placement) (p : State) (c : Color) (l : PriceList) (b : Placement) (f : Placement) (r : Bool) → IsFor l c any_pawn p.board d → victims c p.board + sum l.u < sum l.v + victims c d → b ≡ p.board → f ≡ d → IsTrue r ↔ AllFit b f c l.u l.v → IsTrue r ↔ PawnPricesExclude d p c l
unfolding PawnPricesExclude PawnPricesFit AllFit SourceFits PairFits
list_at d p c l b f r for above e g tells =
    let moved : IsTrue r ↔ AllFit p.board d c l.u l.v = subst (λ (y : Placement). IsTrue r ↔ AllFit y d c l.u l.v) e (subst (λ (y : Placement). IsTrue r ↔ AllFit b y c l.u l.v) g tells) in
    ((λ y. (for, (λ s t n ls lt hs ht cost. moved.0 y s ls hs t lt ht n cost), (owed_below_less d p.board c (sum l.v) (sum l.u)).1 above)), (λ y. moved.1 (λ s ls hs t lt ht n cost. y.1 s t n ls lt hs ht cost)))
