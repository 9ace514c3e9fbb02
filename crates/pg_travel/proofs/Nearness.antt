-- The nearest man that comes to be of a kind is of that kind, or a pawn; and how soon a pawn can be one.
use Rattle.pg_travel.proofs.Common.{◌≡◌, ◌≢◌, eqb, ℕ, zero, suc, ◌+◌, ◌<◌, ◌≤◌, ◌⊎◌, inl, inr, Option, Some, None, cond, min, Bool, true, false, refl, sym, ap, subst, arith, ◌∙◌, eqb_tells, nat_tests, Color, White, Black, Kind, Pawn, Knight, Bishop, Rook, Queen, King, Man, man, kind_eq, is_man, kind_decides, Placement, get, has, Wing, KingSide, QueenSide, IsFirstFrom, counted, rank_for, pawn_steps, last_at, least_of, pawn_to, soonest, knight, bishop, rook, queen, distance_of, is_promoted, least_steps, reach_of, reach_from, BeyondFar, nearest, nearest_man, by_other, some_by_steps, least_of_more, least_of_none}
use Rattle.pg_travel.proofs.Skips.{least_le, least_skip}

-- two least numbers make one
least_both : (F f g : ℕ → ℕ) (n : ℕ) → ((q : ℕ) → min (F q) 64 ≡ min (min (f q) (g q)) 64) → least_of F n ≡ min (least_of f n) (least_of g n)
unfolding least_of
least_both F f g zero h = refl
least_both F f g (suc n) h = omega (arith, least_both F f g n h, h n, least_le F n, least_le f n, least_le g n)

abbrev KindTells : Kind → Kind → Type 0
KindTells k j = ((kind_eq k j ≡ true) × (k ≡ j)) ⊎ ((kind_eq k j ≡ false) × (k ≢ j))

kind_tells : (k j : Kind) → KindTells k j
kind_tells k j = go (kind_eq k j) refl
  where
    go : (b : Bool) → kind_eq k j ≡ b → KindTells k j
    go true e = inl (e, (kind_decides k j).0 e)
    go false e = inr (e, λ f. (let t : kind_eq k j ≡ true = (kind_decides k j).1 f in cc))

-- what is neither of the kind nor a pawn does not come to be of it
kinds : (c : Color) (j k : Kind) (r s : ℕ) → min (distance_of c j k r s) 64 ≡ min (min (cond (kind_eq k j) (distance_of c j j r s) 64) (cond (kind_eq k Pawn) (distance_of c j Pawn r s) 64)) 64
kinds c j k r s = elim (kind_tells k j) [
  | inl u ↦ elim (kind_tells k Pawn) [ inl v ↦ (let a = own u.0 in let b = pawn v.0 in let e = same u.1 in let f = same_pawn v.1 in omega arith) | inr v ↦ (let a = own u.0 in let b = pawn v.0 in let e = same u.1 in omega arith) ]
  | inr u ↦ elim (kind_tells k Pawn) [ inl v ↦ (let a = own u.0 in let b = pawn v.0 in let f = same_pawn v.1 in omega arith) | inr v ↦ (let a = own u.0 in let b = pawn v.0 in let e : distance_of c j k r s ≡ 64 = by_other c j k r s v.1 u.1 in omega arith) ]
]
  where
    own : {b : Bool} → kind_eq k j ≡ b → cond (kind_eq k j) (distance_of c j j r s) 64 ≡ cond b (distance_of c j j r s) 64
    own e = ap (λ (x : Bool). cond x (distance_of c j j r s) 64) e

    pawn : {b : Bool} → kind_eq k Pawn ≡ b → cond (kind_eq k Pawn) (distance_of c j Pawn r s) 64 ≡ cond b (distance_of c j Pawn r s) 64
    pawn e = ap (λ (x : Bool). cond x (distance_of c j Pawn r s) 64) e

    same : k ≡ j → distance_of c j k r s ≡ distance_of c j j r s
    same e = ap (λ (x : Kind). distance_of c j x r s) e

    same_pawn : k ≡ Pawn → distance_of c j k r s ≡ distance_of c j Pawn r s
    same_pawn e = ap (λ (x : Kind). distance_of c j x r s) e

reach_split : (c : Color) (way : Option Wing) (j : Kind) (t q : ℕ) (o : Option Man) → min (reach_of c way j t q o) 64 ≡ min (min (reach_from (man c j) way j t q o) (reach_from (man c Pawn) way j t q o)) 64
reach_split c way j t q None = refl
reach_split c way j t q (Some m) = split c m.color
  where
    split : (a d : Color) → min (reach_of a way j t q (Some (man d m.kind))) 64 ≡ min (min (reach_from (man a j) way j t q (Some (man d m.kind))) (reach_from (man a Pawn) way j t q (Some (man d m.kind)))) 64
    split White White = kinds White j m.kind (counted White way q) t
    split Black Black = kinds Black j m.kind (counted Black way q) t
    split White Black = refl
    split Black White = refl

nearest_split : (b : Placement) (c : Color) (way : Option Wing) (j : Kind) (t : ℕ) → nearest b c way j t ≡ min (nearest_man b (man c j) way j t) (nearest_man b (man c Pawn) way j t)
unfolding nearest nearest_man
nearest_split b c way j t = least_both (λ o. reach_of c way j t o (get b o)) (λ o. reach_from (man c j) way j t o (get b o)) (λ o. reach_from (man c Pawn) way j t o (get b o)) 64 (λ q. reach_split c way j t q (get b q))

either_way : (n : ℕ) (x : Bool) → cond x n n ≡ n
either_way n true = refl
either_way n false = refl

-- a king comes from no pawn
no_king : (b : Placement) (c : Color) (way : Option Wing) (t n : ℕ) → least_of (λ o. reach_from (man c Pawn) way King t o (get b o)) n ≡ 64
unfolding least_of
no_king b c way t zero = refl
no_king b c way t (suc n) = omega (arith, no_king b c way t n, either_way 64 (is_man (man c Pawn) (get b n)))

-- from men of the kind, and pawns where they can become of it
pub nearest_promoted : (b : Placement) (c : Color) (way : Option Wing) (j : Kind) (t : ℕ) → is_promoted j ≡ true → nearest b c way j t ≡ min (min 64 (nearest_man b (man c j) way j t)) (nearest_man b (man c Pawn) way j t)
unfolding nearest_man
nearest_promoted b c way j t e = omega (arith, nearest_split b c way j t, least_le (λ o. reach_from (man c j) way j t o (get b o)) 64)

pub nearest_plain : (b : Placement) (c : Color) (way : Option Wing) (j : Kind) (t : ℕ) → is_promoted j ≡ false → nearest b c way j t ≡ min 64 (nearest_man b (man c j) way j t)
unfolding nearest_man
nearest_plain b c way Pawn t e = omega (arith, nearest_split b c way Pawn t, least_le (λ o. reach_from (man c Pawn) way Pawn t o (get b o)) 64)
nearest_plain b c way King t e = omega (arith, nearest_split b c way King t, no_king b c way t 64)
nearest_plain b c way Knight t e = cc
nearest_plain b c way Bishop t e = cc
nearest_plain b c way Rook t e = cc
nearest_plain b c way Queen t e = cc

-- each pawn's way to the last rank takes at least `soonest` steps

pub least_above : (f : ℕ → ℕ) (n x : ℕ) → x ≤ 64 → ((q : ℕ) → q < n → x ≤ f q) → x ≤ least_of f n
unfolding least_of
least_above f zero x low h = low
least_above f (suc n) x low h = omega (arith, least_above f n x low (λ q l. h q (omega arith)), h n (omega arith))

last_rank_is : (c : Color) (f : ℕ) → f < 8 → rank_for c (last_at c f) ≡ 8
last_rank_is White f low = omega arith
last_rank_is Black f low = omega arith

steps_above : (c : Color) (r s : ℕ) → rank_for c s ≡ 8 → soonest c r ≤ pawn_steps c r s
unfolding pawn_steps
steps_above c r s e = grind (arith)

soonest_low : (c : Color) (r : ℕ) → soonest c r ≤ 64
soonest_low c r = grind (arith)

pawn_to_above : (to : ℕ → ℕ → ℕ) (c : Color) (r s : ℕ) → soonest c r ≤ pawn_to to c r s
unfolding pawn_to
pawn_to_above to c r s = elim (eqb_tells (rank_for c r) 8) [
  | inl w ↦ (let e : pawn_to to c r s ≡ 64 = ap (λ (x : Bool). cond x 64 over) w.0 in omega (arith, soonest_low c r))
  | inr w ↦ (let e : pawn_to to c r s ≡ over = ap (λ (x : Bool). cond x 64 over) w.0 in omega (arith, above))
]
  where
    over : ℕ
    over = least_of (λ f. pawn_steps c r (last_at c f) + to (last_at c f) s) 8

    above : soonest c r ≤ least_of (λ f. pawn_steps c r (last_at c f) + to (last_at c f) s) 8
    above = least_above (λ f. pawn_steps c r (last_at c f) + to (last_at c f) s) 8 (soonest c r) (soonest_low c r) (λ q low. omega (arith, steps_above c r (last_at c q) (last_rank_is c q low)))

-- a man that stands elsewhere takes a step
moved : (c : Color) (j k : Kind) (r s : ℕ) → r < 64 → s < 64 → r ≢ s → 1 ≤ distance_of c j k r s
moved c j k r s lr ls away = elim (eqb_tells (distance_of c j k r s) 0) [
  | inl z ↦ absurd (away (some_by_steps c k r j s 0 lr ls (sym z.1) (λ f. cc)).0.1)
  | inr z ↦ (let ne : distance_of c j k r s ≢ 0 = z.1 in omega arith)
]

one_apart : (c : Color) (j k : Kind) (r s : ℕ) → r < 64 → s < 64 → cond (eqb r s) 0 1 ≤ distance_of c j k r s
one_apart c j k r s lr ls = elim (eqb_tells r s) [
  | inl w ↦ (let e : cond {A = ℕ} (eqb r s) 0 1 ≡ 0 = ap (λ (x : Bool). cond {A = ℕ} x 0 1) w.0 in omega arith)
  | inr w ↦ (let e : cond {A = ℕ} (eqb r s) 0 1 ≡ 1 = ap (λ (x : Bool). cond {A = ℕ} x 0 1) w.0 in let some : 1 ≤ distance_of c j k r s = moved c j k r s lr ls w.1 in omega arith)
]

pub no_sooner : (c : Color) (j k : Kind) (r s : ℕ) → r < 64 → s < 64 → least_steps c j k r s ≤ distance_of c j k r s
no_sooner c Knight Pawn r s lr ls = pawn_to_above knight c r s
no_sooner c Bishop Pawn r s lr ls = pawn_to_above bishop c r s
no_sooner c Rook Pawn r s lr ls = pawn_to_above rook c r s
no_sooner c Queen Pawn r s lr ls = pawn_to_above queen c r s
no_sooner c Pawn Pawn r s lr ls = one_apart c Pawn Pawn r s lr ls
no_sooner c King Pawn r s lr ls = one_apart c King Pawn r s lr ls
no_sooner c j Knight r s lr ls = one_apart c j Knight r s lr ls
no_sooner c j Bishop r s lr ls = one_apart c j Bishop r s lr ls
no_sooner c j Rook r s lr ls = one_apart c j Rook r s lr ls
no_sooner c j Queen r s lr ls = one_apart c j Queen r s lr ls
no_sooner c j King r s lr ls = one_apart c j King r s lr ls

-- squares without the man leave the least as it is
pub least_reached_from : (b : Placement) (m : Man) (way : Option Wing) (j : Kind) (t own low high : ℕ) → ((q : ℕ) → q < 64 → has own q ≡ is_man m (get b q)) → low ≤ high → high ≤ 64 → ((q : ℕ) → low ≤ q → q < high → has own q ≡ false) → least_of (λ o. reach_from m way j t o (get b o)) high ≡ least_of (λ o. reach_from m way j t o (get b o)) low
least_reached_from b m way j t own low high is up most off =
    least_skip (λ o. reach_from m way j t o (get b o)) low high up
    (λ q x y. ap (λ (z : Bool). cond z (distance_of m.color j m.kind (counted m.color way q) t) 64) (sym (is q (omega arith)) ∙ off q x y))

-- a square with the man counts
pub least_reached_at : (b : Placement) (m : Man) (way : Option Wing) (j : Kind) (t own q : ℕ) → ((q : ℕ) → q < 64 → has own q ≡ is_man m (get b q)) → q < 64 → has own q ≡ true → least_of (λ o. reach_from m way j t o (get b o)) (q + 1) ≡ min (least_of (λ o. reach_from m way j t o (get b o)) q) (distance_of m.color j m.kind (counted m.color way q) t)
least_reached_at b m way j t own q is low on =
    let e : reach_from m way j t q (get b q) ≡ distance_of m.color j m.kind (counted m.color way q) t = ap (λ (z : Bool). cond z (distance_of m.color j m.kind (counted m.color way q) t) 64) (sym (is q low) ∙ on) in
    omega (arith, e, least_of_more (λ o. reach_from m way j t o (get b o)) q)

-- ---- a band of squares
-- castling leaves the rank
pub soonest_counted : (c : Color) (way : Option Wing) (q : ℕ) → soonest c (counted c way q) ≡ soonest c q
soonest_counted c None q = refl
soonest_counted White (Some KingSide) q = grind (arith, nat_tests)
soonest_counted White (Some QueenSide) q = grind (arith, nat_tests)
soonest_counted Black (Some KingSide) q = grind (arith, nat_tests)
soonest_counted Black (Some QueenSide) q = grind (arith, nat_tests)

-- numbers of at least x are no nearer than that
pub least_beyond : (f : ℕ → ℕ) (a b x : ℕ) → a ≤ b → ((q : ℕ) → a ≤ q → q < b → x ≤ f q) → min x (least_of f b) ≡ min x (least_of f a)
unfolding least_of
least_beyond f a zero x h far = let e : 0 ≡ a = omega arith in ap (λ (n : ℕ). min x (least_of f n)) e
least_beyond f a (suc b) x h far = elim (eqb_tells (suc b) a) [
  | inl w ↦ ap (λ (n : ℕ). min x (least_of f n)) w.1
  | inr w ↦ (let ne : suc b ≢ a = w.1 in let l : a ≤ b = omega arith in omega (arith, least_beyond f a b x l (λ q y z. far q y (omega arith)), far b l (omega arith)))
]

-- the squares before the band change nothing
pub band_first : (b : Placement) (m : Man) (way : Option Wing) (j : Kind) (t best first past : ℕ) → best ≤ 64 → BeyondFar b m way j t best first past → best ≡ min best (least_of (λ o. reach_from m way j t o (get b o)) first)
unfolding BeyondFar
band_first b m way j t best first past low far =
    let f : ℕ → ℕ = λ o. reach_from m way j t o (get b o) in
    let z : 64 ≡ least_of f 0 = least_of_none f in
    let most : first ≤ 64 = far.0 in
    let e : min best (least_of f first) ≡ min best (least_of f 0) = least_beyond f 0 first best (omega arith) (λ q x y. far.1 q (omega arith) (inl y)) in
    omega arith

-- nor do those past it
pub band_past : (b : Placement) (m : Man) (way : Option Wing) (j : Kind) (t own low o best first past : ℕ) → ((q : ℕ) → q < 64 → has own q ≡ is_man m (get b q)) → BeyondFar b m way j t best first past → IsFirstFrom own low o → past ≤ o → min best (least_of (λ o. reach_from m way j t o (get b o)) 64) ≡ min best (least_of (λ o. reach_from m way j t o (get b o)) low)
unfolding BeyondFar
band_past b m way j t own low o best first past is far next over =
    let f : ℕ → ℕ = λ o. reach_from m way j t o (get b o) in
    let here : o < 64 = next.on_board in
    let e : least_of f o ≡ least_of f low = least_reached_from b m way j t own low o is next.reached (omega arith) next.before in
    let g : min best (least_of f 64) ≡ min best (least_of f o) = least_beyond f o 64 best (omega arith) (λ q x y. far.1 q y (inr (omega arith))) in
    g ∙ ap (min best) e

either_least : (best d : ℕ) (x : Bool) → best ≤ d → best ≤ 64 → best ≤ cond x d 64
either_least best d true l m = l
either_least best d false l m = m

pub pawn_soonest : (c : Color) (j : Kind) (r t : ℕ) → is_promoted j ≡ true → soonest c r ≤ distance_of c j Pawn r t
pawn_soonest c Knight r t e = pawn_to_above knight c r t
pawn_soonest c Bishop r t e = pawn_to_above bishop c r t
pawn_soonest c Rook r t e = pawn_to_above rook c r t
pawn_soonest c Queen r t e = pawn_to_above queen c r t
pawn_soonest c Pawn r t e = absurd cc
pawn_soonest c King r t e = absurd cc

-- pawns outside of the band are no nearer than that
pub pawns_beyond : (b : Placement) (c : Color) (way : Option Wing) (j : Kind) (m : Man) (t best first past : ℕ) → m ≡ man c Pawn → first ≤ 64 → best ≤ 64 → is_promoted j ≡ true → ((q : ℕ) → q < 64 → (q < first) ⊎ (past ≤ q) → best ≤ soonest c q) → BeyondFar b m way j t best first past
unfolding BeyondFar
pawns_beyond b c way j m t best first past is low most promoted outside =
    subst (λ (x : Man). (first ≤ 64) × ((o : ℕ) → o < 64 → (o < first) ⊎ (past ≤ o) → best ≤ reach_from x way j t o (get b o))) (sym is)
    (low, λ o l out. either_least best (distance_of c j Pawn (counted c way o) t) (is_man (man c Pawn) (get b o)) (omega (arith, outside o l out, soonest_counted c way o, pawn_soonest c j (counted c way o) t promoted)) most)

-- nothing is outside of the whole board
pub whole_beyond : (b : Placement) (m : Man) (way : Option Wing) (j : Kind) (t best first past : ℕ) → first ≡ 0 → past ≡ 64 → BeyondFar b m way j t best first past
unfolding BeyondFar
whole_beyond b m way j t best first past f p = (omega arith, λ o l out. elim out [ inl x ↦ absurd (omega arith) | inr x ↦ absurd (omega arith) ])

pub band_low : (b : Placement) (m : Man) (way : Option Wing) (j : Kind) (t best first past : ℕ) → BeyondFar b m way j t best first past → first ≤ 64
unfolding BeyondFar
band_low b m way j t best first past far = far.0
