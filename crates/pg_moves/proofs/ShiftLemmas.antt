-- Sets shifted along the board, and the squares that pawns go from.
use Rattle.pg_moves.proofs.Common.{arith, ◌≡◌, ◌≢◌, ℕ, zero, suc, ◌+◌, ◌-◌, ◌*◌, ◌/◌, ◌%◌, ◌^◌, ◌<◌, ◌≤◌, Bool, true, not, ◌&&◌, eqb, pow-suc, None, Some, refl, sym, ap, ap₂, ◌∙◌, subst, Color, White, Black, file, rank, is_held, is_of, other, Placement, get, has, one, total, count_below, total-none, total-suc, IsSetOf, IsVacant, IsEnemy, home_rank, and_true, set_like, set_of_both, set_of_rest, PawnMoves, forward, IsInside, AreInside, moves_from}
use Rattle.std.specs.Int.{bit_at}
use Rattle.std.proofs.lemmas.Nat.{shr-shr}
use Rattle.std.proofs.lemmas.Nat.Bits.{bit_at_cat_low, bit_at_cat_high}
use Rattle.pg_moves.proofs.TargetLemmas.{enemy_set, held_set}

-- ---- shifts
pub has_down : (n k q : ℕ) → has (n / 2 ^ k) q ≡ has n (q + k)
has_down n k q = let e : k + q ≡ q + k = omega arith in ap (λ x. eqb (x % 2) 1) (shr-shr n k q) ∙ ap (has n) e

pub has_up : (n k q : ℕ) → k ≤ q → q < 64 → has (n * 2 ^ k % 2 ^ 64) q ≡ has n (q - k)
has_up n k q from low =
    let x : ℕ = n * 2 ^ k in
    let split : x ≡ x / 2 ^ 64 * 2 ^ 64 + x % 2 ^ 64 = omega arith in
    let whole : bit_at x q ≡ bit_at (x % 2 ^ 64) q = ap (λ y. bit_at y q) split ∙ bit_at_cat_low (x / 2 ^ 64) 64 (x % 2 ^ 64) q low in
    let plain : x ≡ n * 2 ^ k + 0 = omega arith in
    let moved : bit_at x q ≡ bit_at n (q - k) = ap (λ y. bit_at y q) plain ∙ bit_at_cat_high n k 0 q (power k) from in
    ap (λ y. eqb y 1) (sym whole ∙ moved)
  where
    power : (j : ℕ) → 0 < 2 ^ j
    power zero = omega arith
    power (suc j) = omega (arith, power j, pow-suc 2 j)

pub ahead_white : (c : Color) (set k : ℕ) → c ≡ White → (q : ℕ) → q < 64 → IsInside c k q → has (set / 2 ^ k) q ≡ has set (forward c k q)
ahead_white c set k e q low inside = has_down set k q ∙ ap (λ (d : Color). has set (forward d k q)) (sym e)

pub ahead_black : (c : Color) (set k : ℕ) → c ≡ Black → (q : ℕ) → q < 64 → IsInside c k q → has (set * 2 ^ k % 2 ^ 64) q ≡ has set (forward c k q)
ahead_black c set k e q low inside = let from : k ≤ q = subst (λ (d : Color). IsInside d k q) e inside in has_up set k q from low ∙ ap (λ (d : Color). has set (forward d k q)) (sym e)

pub nearer : (c : Color) (q k : ℕ) → k ≤ 16 → IsInside c 16 q → IsInside c k q
nearer White q k le h = omega arith
nearer Black q k le h = omega arith

pub inside_low : (c : Color) (q k : ℕ) → q < 64 → IsInside c k q → forward c k q < 64
inside_low White q k l h = h
inside_low Black q k l h = omega arith

-- ---- sets
none_held : (b : Placement) (q : ℕ) → ¬ (get b q ≢ None) → IsVacant b q
none_held b q h = elim (get b q) as (λ o. get b q ≡ o → IsVacant b q) [
  | None ↦ λ e. e
  | Some m ↦ λ e. absurd (h (λ f. let g : None ≡ Some m = sym f ∙ e in cc))
] refl

pub itself : (n : ℕ) → IsSetOf n (λ q. has n q ≡ true)
itself n q l = (λ e. e, λ e. e)

pub vacant_set : (b : Placement) (full held n : ℕ) → ((q : ℕ) → q < 64 → has full q ≡ true) → ((q : ℕ) → q < 64 → has held q ≡ is_held (get b q)) → ((q : ℕ) → q < 64 → has n q ≡ has full q && not (has held q)) → IsSetOf n (IsVacant b)
vacant_set b full held n all h rest = set_like n
    (λ q _ f. none_held b q f.1)
    (λ q l e. (all q l, λ o. o e))
    (set_of_rest n full held rest (itself full) (held_set b held h))

-- the squares of a set that see a square of another so far ahead
pub ahead_set : {P : ℕ → Type 0} (c : Color) (k pawns shifted set n : ℕ) → k ≤ 16 → AreInside c pawns → ((q : ℕ) → q < 64 → IsInside c k q → has shifted q ≡ has set (forward c k q)) → IsSetOf set P → ((q : ℕ) → has n q ≡ has pawns q && has shifted q) → IsSetOf n (λ q. (has pawns q ≡ true) × P (forward c k q))
ahead_set c k pawns shifted set n le inside seen is both q l = (
  λ e. (let (x, y) = and_true (has pawns q) (has shifted q) (sym (both q) ∙ e) in
      let near : IsInside c k q = nearer c q k le (inside q l x) in
      (x, (is (forward c k q) (inside_low c q k l near)).0 (sym (seen q l near) ∙ y))),
  λ h. (let near : IsInside c k q = nearer c q k le (inside q l h.0) in
      let y : has shifted q ≡ true = seen q l near ∙ (is (forward c k q) (inside_low c q k l near)).1 h.1 in
      let x : has pawns q ≡ true = h.0 in
      both q ∙ (let yes : has pawns q && has shifted q ≡ true = cc in yes)),
)

pub fewer_inside : (c : Color) (a n : ℕ) (f : ℕ → Bool) → AreInside c a → ((q : ℕ) → q < 64 → has n q ≡ has a q && f q) → AreInside c n
fewer_inside c a n f h both q l e = h q l (and_true (has a q) (f q) (sym (both q l) ∙ e)).0

-- ---- sums
pub total_add : (f g : ℕ → ℕ) (n : ℕ) → total f n + total g n ≡ total (λ q. f q + g q) n
total_add f g zero = omega (arith, total-none f, total-none g, total-none (λ q. f q + g q))
total_add f g (suc n) = let h : total f n + total g n ≡ total (λ q. f q + g q) n = total_add f g n in omega (arith, total-suc f n, total-suc g n, total-suc (λ q. f q + g q) n)

pub ways_counted : (w : PawnMoves) (i j m n : ℕ) → i ≡ count_below (has w.once) 64 → j ≡ count_below (has w.twice) 64 → m ≡ count_below (has w.west) 64 → n ≡ count_below (has w.east) 64 → (i + j) + (m + n) ≡ total (moves_from w) 64
unfolding moves_from
ways_counted w i j m n a b c d =
    let f : ℕ → ℕ = λ q. one (has w.once q) in
    let g : ℕ → ℕ = λ q. one (has w.twice q) in
    let h : ℕ → ℕ = λ q. one (has w.west q) in
    let k : ℕ → ℕ = λ q. one (has w.east q) in
    let steps : i + j ≡ total (λ q. f q + g q) 64 = ap₂ (λ (x y : ℕ). x + y) a b ∙ total_add f g 64 in
    let captures : m + n ≡ total (λ q. h q + k q) 64 = ap₂ (λ (x y : ℕ). x + y) c d ∙ total_add h k 64 in
    ap₂ (λ (x y : ℕ). x + y) steps captures ∙ total_add (λ q. f q + g q) (λ q. h q + k q) 64

-- ---- the four ways
pub home_and : (b : Placement) (c : Color) (once home both n : ℕ) → IsSetOf home (λ q. rank q ≡ home_rank c) → ((q : ℕ) → has both q ≡ has once q && has home q) → IsSetOf n (λ q. (has both q ≡ true) × IsVacant b (forward c 16 q)) → IsSetOf n (λ q. ((has once q ≡ true) × (rank q ≡ home_rank c)) × IsVacant b (forward c 16 q))
home_and b c once home both n at is h = set_like n
    (λ q l g. ((set_of_both both once home is (itself once) at q l).0 g.0, g.1))
    (λ q l g. ((set_of_both both once home is (itself once) at q l).1 g.0, g.1))
    h

pub enemies_at : (b : Placement) (c d : Color) (n : ℕ) → d ≡ other c → ((q : ℕ) → q < 64 → has n q ≡ is_of d (get b q)) → IsSetOf n (IsEnemy b c)
enemies_at b c d n e h = enemy_set b n c (λ q l. h q l ∙ ap (λ (x : Color). is_of x (get b q)) e)

-- goals where a man stands that may be captured
pub enemies_among : (b : Placement) (c d : Color) (n goals both : ℕ) → d ≡ other c → ((q : ℕ) → q < 64 → has n q ≡ is_of d (get b q)) → ((q : ℕ) → has both q ≡ has n q && has goals q) → IsSetOf both (λ q. IsEnemy b c q × (has goals q ≡ true))
enemies_among b c d n goals both e h h2 = set_of_both both n goals h2 (enemies_at b c d n e h) (itself goals)

module _ (b : Placement) (c : Color) (pawns goals : ℕ) where
  pub once_set : (once all : ℕ) → IsSetOf once (λ q. (has pawns q ≡ true) × IsVacant b (forward c 8 q)) → IsSetOf all (λ q. (has once q ≡ true) × (has goals (forward c 8 q) ≡ true)) → IsSetOf all (λ q. (has pawns q ≡ true) × IsVacant b (forward c 8 q) × (has goals (forward c 8 q) ≡ true))
  once_set once all is h = set_like _
      (λ q l g. (let o = (is q l).0 g.0 in (o.0, o.1, g.1)))
      (λ q l g. ((is q l).1 (g.0, g.1), g.2))
      h

  pub twice_set : (once twice all : ℕ) → IsSetOf once (λ q. (has pawns q ≡ true) × IsVacant b (forward c 8 q)) → IsSetOf twice (λ q. ((has once q ≡ true) × (rank q ≡ home_rank c)) × IsVacant b (forward c 16 q)) → IsSetOf all (λ q. (has twice q ≡ true) × (has goals (forward c 16 q) ≡ true)) → IsSetOf all (λ q. (has pawns q ≡ true) × IsVacant b (forward c 8 q) × (rank q ≡ home_rank c) × IsVacant b (forward c 16 q) × (has goals (forward c 16 q) ≡ true))
  twice_set once twice all is two h = set_like _
      (λ q l g. (let t = (two q l).0 g.0 in let o = (is q l).0 t.0.0 in (o.0, o.1, t.0.1, t.1, g.1)))
      (λ q l g. ((two q l).1 (((is q l).1 (g.0, g.1), g.2), g.3), g.4))
      h

  pub side_set : (k j n m edge kept enemies : ℕ) → j ≡ k → IsSetOf edge (λ q. file q ≡ m) → ((q : ℕ) → q < 64 → has kept q ≡ has pawns q && not (has edge q)) → IsSetOf enemies (λ q. IsEnemy b c q × (has goals q ≡ true)) → ((q : ℕ) → q < 64 → has pawns q ≡ true → forward c k q < 64) → IsSetOf n (λ q. (has kept q ≡ true) × (has enemies (forward c j q) ≡ true)) → IsSetOf n (λ q. (has pawns q ≡ true) × (file q ≢ m) × IsEnemy b c (forward c k q) × (has goals (forward c k q) ≡ true))
  side_set k j n m edge kept enemies e out rest are low h = set_like n
      (λ q l g. (let o = (set_of_rest kept pawns edge rest (itself pawns) out q l).0 g.0 in
      let there = (are (forward c k q) (low q l o.0)).0 (subst (λ (i : ℕ). has enemies (forward c i q) ≡ true) e g.1) in
      (o.0, o.1, there.0, there.1)))
      (λ q l g. ((set_of_rest kept pawns edge rest (itself pawns) out q l).1 (g.0, g.1), subst (λ (i : ℕ). has enemies (forward c i q) ≡ true) (sym e) ((are (forward c k q) (low q l g.0)).1 (g.2, g.3))))
      h

  pub inside_there : (k : ℕ) → k ≤ 16 → AreInside c pawns → (q : ℕ) → q < 64 → has pawns q ≡ true → forward c k q < 64
  inside_there k le inside q l e = inside_low c q k l (nearer c q k le (inside q l e))

  pub twice_inside : (once twice : ℕ) → AreInside c once → IsSetOf twice (λ q. ((has once q ≡ true) × (rank q ≡ home_rank c)) × IsVacant b (forward c 16 q)) → AreInside c twice
  twice_inside once twice inside two q l e = inside q l ((two q l).0 e).0.0

  pub once_inside : (once : ℕ) → IsSetOf once (λ q. (has pawns q ≡ true) × IsVacant b (forward c 8 q)) → AreInside c pawns → AreInside c once
  once_inside once is h q l e = h q l ((is q l).0 e).0
