-- The number is the value of the way.
use Rattle.std.proofs.Common.{◌≡◌, ◌≢◌, ℕ, zero, suc, ◌+◌, ◌<◌, ◌≤◌, ◌⊎◌, inl, inr, Option, Some, None, cond, Bool, true, false, refl, sym, ap, subst, arith, ◌∙◌}
use Rattle.std.proofs.lemmas.Bool.Decides.{eqb_tells, leb_tells}
use Rattle.pg_board.specs.declared.man.Color.{Color}
use Rattle.pg_board.specs.declared.man.Color.TheVariants.{White, Black}
use Rattle.pg_board.specs.declared.man.Kind.{Kind}
use Rattle.pg_position.specs.declared.rights.Wing.{Wing}
use Rattle.pg_position.specs.declared.rights.Wing.TheVariants.{KingSide, QueenSide}
use Rattle.pg_board.specs.declared.man.Man.{Man}
use Rattle.pg_board.specs.Placement.{Placement, get}
use Rattle.pg_board.specs.lemmas.Placements.{get_on}
use Rattle.pg_position.specs.declared.state.State.{State}
use Rattle.pg_board.specs.Men.{man, color_eq}
use Rattle.pg_board.specs.lemmas.Equalities.{color_decides}
use Rattle.pg_position.specs.Position.{Stands}
use Rattle.pg_position.specs.Squares.{king_home, rook_home, king_crossed, king_target}
use Rattle.pg_travel.specs.Walks.{Walk, IsLeast}
use Rattle.pg_travel.specs.Origins.{charge, counted}
use Rattle.pg_captures.specs.Counting.{any_man, is_there}
use Rattle.pg_travel.specs.lemmas.SumLemmas.{man_there, over_all}
use Rattle.pg_travel.specs.Needs.{Comes, IsValue}
use Rattle.pg_travel.specs.inner.Formulas.{least_of, distance_of}
use Rattle.pg_travel.specs.inner.Costs.{reach_of, nearest, cost_of, cost, SumLaw}
use Rattle.pg_travel.specs.lemmas.Pawns.{walk_bounds, some_by_steps}

pub least_at_most : (f : ℕ → ℕ) (n t : ℕ) → t < n → least_of f n ≤ f t
unfolding least_of
least_at_most f zero t low = absurd (omega arith)
least_at_most f (suc n) t low = elim (eqb_tells t n) [ inl w ↦ (let e : f t ≡ f n = ap f w.1 in omega arith) | inr w ↦ (let ne : t ≢ n = w.1 in omega (arith, least_at_most f n t (omega arith))) ]

abbrev pub Reached : (ℕ → ℕ) → ℕ → Type 0
Reached f n = (least_of f n ≡ 64) ⊎ ((t : ℕ) × (t < n) × (least_of f n ≡ f t))

pub least_reached : (f : ℕ → ℕ) (n : ℕ) → Reached f n
unfolding least_of
least_reached f zero = inl refl
least_reached f (suc n) = elim (leb_tells (least_of f n) (f n)) [
  | inl w ↦ elim (least_reached f n) [ inl e ↦ inl (let a : least_of f n ≤ f n = w.1 in omega arith) | inr g ↦ inr (g.0, (let low : g.0 < n = g.1 in omega arith), (let a : least_of f n ≤ f n = w.1 in let e : least_of f n ≡ f g.0 = g.2 in omega arith)) ]
  | inr w ↦ inr (n, omega arith, (let a : f n < least_of f n = w.1 in omega arith))
]

pub counted_low : (c : Color) (way : Option Wing) (o : ℕ) → o < 64 → counted c way o < 64
counted_low c None o low = low
counted_low c (Some w) o low = elim (eqb_tells o (king_home c)) [
  | inl u ↦ rw u.0 (target_low c w)
  | inr u ↦ elim (eqb_tells o (rook_home c w)) [ inl z ↦ rw (u.0, z.0) (crossed_low c w) | inr z ↦ rw (u.0, z.0) low ]
]
  where
    target_low : (c : Color) (w : Wing) → king_target c w < 64
    target_low White KingSide = omega arith
    target_low White QueenSide = omega arith
    target_low Black KingSide = omega arith
    target_low Black QueenSide = omega arith

    crossed_low : (c : Color) (w : Wing) → king_crossed c w < 64
    crossed_low White KingSide = omega arith
    crossed_low White QueenSide = omega arith
    crossed_low Black KingSide = omega arith
    crossed_low Black QueenSide = omega arith

-- from one square
reach_bound : (b : Placement) (c : Color) (way : Option Wing) (j : Kind) (t o : ℕ) (k : Kind) (n : ℕ) → o < 64 → t < 64 → Stands b c k o → Walk c k (counted c way o) n j t → (reach_of c way j t o (get b o) ≤ n) × (reach_of c way j t o (get b o) < 64)
reach_bound b c way j t o k n lo lt h w =
    let d : (distance_of c j k (counted c way o) t ≤ n) × (distance_of c j k (counted c way o) t < 64) = walk_bounds c k (counted c way o) j t n (counted_low c way o lo) lt w in
    let e : reach_of c way j t o (get b o) ≡ distance_of c j k (counted c way o) t = ap (reach_of c way j t o) h ∙ ap (λ (x : Bool). cond x (distance_of c j k (counted c way o) t) 64) ((color_decides c c).1 refl) in
    (omega arith, omega arith)

reach_walk : (c : Color) (way : Option Wing) (j : Kind) (t o : ℕ) (m : Option Man) → o < 64 → t < 64 → reach_of c way j t o m ≢ 64 → (k : Kind) × (m ≡ Some (man c k)) × Walk c k (counted c way o) (reach_of c way j t o m) j t
reach_walk c way j t o None lo lt ne = absurd (ne refl)
reach_walk c way j t o (Some m) lo lt ne = go (color_eq c m.color) refl
  where
    go : (x : Bool) → color_eq c m.color ≡ x → (k : Kind) × (Some m ≡ Some (man c k)) × Walk c k (counted c way o) (reach_of c way j t o (Some m)) j t
    go false e = absurd (ne (ap (λ (x : Bool). cond x (distance_of m.color j m.kind (counted c way o) t) 64) e))
    go true e =
        (let f : reach_of c way j t o (Some m) ≡ distance_of m.color j m.kind (counted c way o) t = ap (λ (x : Bool). cond x (distance_of m.color j m.kind (counted c way o) t) 64) e in
        let g : c ≡ m.color = (color_decides c m.color).0 e in
        let h : distance_of m.color j m.kind (counted c way o) t ≢ 64 = λ z. ne (f ∙ z) in
        let w : Walk m.color m.kind (counted c way o) (distance_of m.color j m.kind (counted c way o) t) j t = (some_by_steps m.color m.kind (counted c way o) j t (distance_of m.color j m.kind (counted c way o) t) (counted_low c way o lo) lt refl h).0 in
        let w' : Walk m.color m.kind (counted c way o) (reach_of c way j t o (Some m)) j t = subst (λ (n : ℕ). Walk m.color m.kind (counted c way o) n j t) (sym f) w in
        (m.kind, ap (λ (x : Color). Some (man x m.kind)) (sym g), subst (λ (x : Color). Walk x m.kind (counted c way o) (reach_of c way j t o (Some m)) j t) (sym g) w'))

-- from the nearest
nearest_bound : (p : State) (c : Color) (way : Option Wing) (j : Kind) (t n : ℕ) → t < 64 → Comes p c way j t n → (nearest p.board c way j t ≤ n) × (nearest p.board c way j t < 64)
unfolding nearest
nearest_bound p c way j t n lt (o, k, lo, h, w) =
    let a : (reach_of c way j t o (get p.board o) ≤ n) × (reach_of c way j t o (get p.board o) < 64) = reach_bound p.board c way j t o k n lo lt h w in
    let b : nearest p.board c way j t ≤ reach_of c way j t o (get p.board o) = least_at_most (λ x. reach_of c way j t x (get p.board x)) 64 o lo in
    (omega arith, omega arith)

nearest_comes : (p : State) (c : Color) (way : Option Wing) (j : Kind) (t : ℕ) → t < 64 → nearest p.board c way j t ≢ 64 → Comes p c way j t (nearest p.board c way j t)
unfolding nearest
nearest_comes p c way j t lt ne = elim (least_reached (λ x. reach_of c way j t x (get p.board x)) 64) [
  | inl e ↦ absurd (ne e)
  | inr g ↦
      (let e : nearest p.board c way j t ≡ reach_of c way j t g.0 (get p.board g.0) = g.2 in
      let w : (k : Kind) × (get p.board g.0 ≡ Some (man c k)) × Walk c k (counted c way g.0) (reach_of c way j t g.0 (get p.board g.0)) j t = reach_walk c way j t g.0 (get p.board g.0) g.1 lt (λ f. ne (e ∙ f)) in
      (g.0, w.0, g.1, w.1, subst (λ (n : ℕ). Walk c w.0 (counted c way g.0) n j t) (sym e) w.2))
]

-- what a man of d costs

pub cost_man : (b d : Placement) (c : Color) (way : Option Wing) (j : Kind) (t : ℕ) → Stands d c j t → cost b d c way t ≡ nearest b c way j t
unfolding cost
cost_man b d c way j t h = ap (cost_of b c way t) h ∙ ap (λ (x : Bool). cond x (nearest b c way j t) 0) ((color_decides c c).1 refl)

cost_cases : (b : Placement) (c : Color) (way : Option Wing) (t : ℕ) (m : Option Man) → (cost_of b c way t m ≡ 0) ⊎ ((j : Kind) × (m ≡ Some (man c j)))
cost_cases b c way t None = inl refl
cost_cases b c way t (Some m) = go (color_eq c m.color) refl
  where
    go : (x : Bool) → color_eq c m.color ≡ x → (cost_of b c way t (Some m) ≡ 0) ⊎ ((j : Kind) × (Some m ≡ Some (man c j)))
    go false e = inl (ap (λ (x : Bool). cond x (nearest b c way m.kind t) 0) e)
    go true e = inr (m.kind, ap (λ (x : Color). Some (man x m.kind)) (sym ((color_decides c m.color).0 e)))

cost_idle : (b d : Placement) (c : Color) (way : Option Wing) (t : ℕ) → is_there c any_man d t ≡ false → cost b d c way t ≡ 0
unfolding cost
cost_idle b d c way t none = elim (cost_cases b c way t (get d t)) [
  | inl e ↦ e
  | inr h ↦ (let there : is_there c any_man d t ≡ true = man_there c d h.0 t h.1 in cc)
]

cost_none : (p : State) (d : Placement) (c : Color) (way : Option Wing) (t v : ℕ) → t < 64 → cost p.board d c way t ≡ 64 → ¬ IsValue d p c way v
unfolding cost
cost_none p d c way t v lt e value = elim (cost_cases p.board c way t (get d t)) [
  | inl z ↦ omega arith
  | inr h ↦
      (let n : (nearest p.board c way h.0 t ≤ value.0 t) × (nearest p.board c way h.0 t < 64) = nearest_bound p c way h.0 t (value.0 t) lt (value.1 h.0 t lt h.1).0 in
      let f : cost p.board d c way t ≡ nearest p.board c way h.0 t = cost_man p.board d c way h.0 t h.1 in
      omega arith)
]

cost_least : (p : State) (d : Placement) (c : Color) (way : Option Wing) (j : Kind) (t : ℕ) → t < 64 → Stands d c j t → cost p.board d c way t < 64 → IsLeast (Comes p c way j t) (cost p.board d c way t)
cost_least p d c way j t lt h low =
    let f : cost p.board d c way t ≡ nearest p.board c way j t = cost_man p.board d c way j t h in
    subst (λ (n : ℕ). IsLeast (Comes p c way j t) n) (sym f)
    (nearest_comes p c way j t lt (omega arith), λ m w. (nearest_bound p c way j t m lt w).0)

pub sum_is_value : SumLaw
sum_is_value p d c way None (t, lt, e) = λ v. cost_none p d c way t v lt e
sum_is_value p d c way (Some v) (low, e) = (cost p.board d c way, (λ j t lt h. cost_least p d c way j t lt h (low t lt)), e ∙ ap (λ (n : ℕ). charge way + n) (sym (over_all c d (cost p.board d c way) (λ t lt none. cost_idle p.board d c way t none))))

-- a man of the diagram that stands where it is to be costs nothing
nearest_home : (b : Placement) (c : Color) (way : Option Wing) (k : Kind) (t : ℕ) → t < 64 → Stands b c k t → counted c way t ≡ t → nearest b c way k t ≡ 0
unfolding nearest
nearest_home b c way k t lt h e =
    let a : (reach_of c way k t t (get b t) ≤ 0) × (reach_of c way k t t (get b t) < 64) = reach_bound b c way k t t k 0 lt lt h (refl, e) in
    let l : nearest b c way k t ≤ reach_of c way k t t (get b t) = least_at_most (λ x. reach_of c way k t x (get b x)) 64 t lt in
    omega arith

pub cost_home : (b d : Placement) (c : Color) (way : Option Wing) (t : ℕ) (m : Man) → get d t ≡ Some m → get b t ≡ Some m → color_eq c m.color ≡ true → counted c way t ≡ t → 0 ≡ cost b d c way t
cost_home b d c way t m e f g h =
    let lt : t < 64 = get_on d t m e in
    let same : c ≡ m.color = (color_decides c m.color).0 g in
    let own : Some m ≡ Some (man c m.kind) = ap (λ (x : Color). Some (man x m.kind)) (sym same) in
    sym (cost_man b d c way m.kind t (e ∙ own) ∙ nearest_home b c way m.kind t lt (f ∙ own) h)
