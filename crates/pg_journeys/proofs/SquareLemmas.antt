-- Ranks and walls as sets of squares. Leads to the contracts of `rank_set`, `walls` and `ahead_of`.
use Rattle.pg_journeys.proofs.Common.{arith, ◌≡◌, ◌↔◌, ℕ, zero, suc, ◌+◌, ◌-◌, ◌*◌, ◌/◌, ◌%◌, ◌^◌, ◌<◌, ◌≤◌, ◌⊎◌, inl, inr, IsTrue, Bool, true, false, not, ◌&&◌, ◌||◌, eqb, pow-suc, refl, sym, ap, subst, ◌∙◌, bit_at, shr-shr, bit_at_cat_low, bit_at_cat_high, bit_at_above, Decides-at, Decides-eqb, leb_tells, Color, White, Black, Pawn, Man, has, bits_below, has-bits_below, has-none, man, is_man, Placement, get, file, rank, IsSetOf, and_true, set_like, set_of_both, set_of_union, Stands, IsWall, IsWallOf, IsAheadOf, IsEastOf, IsWestOf, false_from_ne_true, not-true, not_from_false, and_from}
use Rattle.pg_board.specs.lemmas.Equalities.{is_man_decides}
use Rattle.pg_journeys.specs.inner.Makings.{IsNext}

-- ---- ranks
rank_bits : (r : ℕ) → 1 ≤ r → r ≤ 8 → bits_below (λ s. eqb (rank s) r) 64 ≡ 255 * 2 ^ (8 * (r - 1)) % 2 ^ 64
unfolding bits_below
rank_bits zero l h = absurd (omega arith)
rank_bits (suc zero) l h = refl
rank_bits (suc (suc zero)) l h = refl
rank_bits (suc (suc (suc zero))) l h = refl
rank_bits (suc (suc (suc (suc zero)))) l h = refl
rank_bits (suc (suc (suc (suc (suc zero))))) l h = refl
rank_bits (suc (suc (suc (suc (suc (suc zero)))))) l h = refl
rank_bits (suc (suc (suc (suc (suc (suc (suc zero))))))) l h = refl
rank_bits (suc (suc (suc (suc (suc (suc (suc (suc zero)))))))) l h = refl
rank_bits (suc (suc (suc (suc (suc (suc (suc (suc (suc r))))))))) l h = absurd (omega arith)

pub rank_squares : (r n : ℕ) → 1 ≤ r → r ≤ 8 → n ≡ 255 * 2 ^ (8 * (r - 1)) % 2 ^ 64 → IsSetOf n (λ s. rank s ≡ r)
rank_squares r n low high e q l = Decides-at _ _ (ap (λ (x : ℕ). has x q) (e ∙ sym (rank_bits r low high)) ∙ has-bits_below (λ s. eqb (rank s) r) 64 q l) (Decides-eqb (rank q) r)

-- ---- walls
pawns_at : (b : Placement) (m : Man) (c : Color) (n : ℕ) → m ≡ man c Pawn → ((q : ℕ) → q < 64 → has n q ≡ is_man m (get b q)) → IsSetOf n (λ q. Stands b c Pawn q)
pawns_at b m c n e h q l = Decides-at _ _ (h q l ∙ ap (λ (x : Man). is_man x (get b q)) e) (is_man_decides (man c Pawn) (get b q))

pub walls_set : (b : Placement) (wm bm : Man) (wp wr ww bp br bw n : ℕ) → wm ≡ man White Pawn → bm ≡ man Black Pawn →
    ((q : ℕ) → q < 64 → has wp q ≡ is_man wm (get b q)) → IsSetOf wr (λ s. rank s ≡ 2) → ((q : ℕ) → has ww q ≡ has wp q && has wr q) →
    ((q : ℕ) → q < 64 → has bp q ≡ is_man bm (get b q)) → IsSetOf br (λ s. rank s ≡ 7) → ((q : ℕ) → has bw q ≡ has bp q && has br q) →
    ((q : ℕ) → has n q ≡ has ww q || has bw q) → IsSetOf n (IsWallOf b)
walls_set b wm bm wp wr ww bp br bw n we be wps wrs wws bps brs bws ns =
    let w : IsSetOf ww (λ q. Stands b White Pawn q × (rank q ≡ 2)) = set_of_both ww wp wr wws (pawns_at b wm White wp we wps) wrs in
    let k : IsSetOf bw (λ q. Stands b Black Pawn q × (rank q ≡ 7)) = set_of_both bw bp br bws (pawns_at b bm Black bp be bps) brs in
    set_like n
    (λ q _ h. elim h [ inl x ↦ (White, (x.1, x.0)) | inr x ↦ (Black, (x.1, x.0)) ])
    (λ q _ h. by_color q h.0 h.1)
    (set_of_union n ww bw ns w k)
  where
    by_color : (q : ℕ) (c : Color) → IsWall b c q → (Stands b White Pawn q × (rank q ≡ 2)) ⊎ (Stands b Black Pawn q × (rank q ≡ 7))
    by_color q White h = inl (h.1, h.0)
    by_color q Black h = inr (h.1, h.0)

-- ---- shifts
has_down : (n k q : ℕ) → has (n / 2 ^ k) q ≡ has n (q + k)
has_down n k q = let e : k + q ≡ q + k = omega arith in ap (λ x. eqb (x % 2) 1) (shr-shr n k q) ∙ ap (has n) e

power : (j : ℕ) → 0 < 2 ^ j
power zero = omega arith
power (suc j) = omega (arith, power j, pow-suc 2 j)

kept_bits : (x q : ℕ) → q < 64 → bit_at x q ≡ bit_at (x % 2 ^ 64) q
kept_bits x q low =
    let split : x ≡ x / 2 ^ 64 * 2 ^ 64 + x % 2 ^ 64 = omega arith in
    ap (λ y. bit_at y q) split ∙ bit_at_cat_low (x / 2 ^ 64) 64 (x % 2 ^ 64) q low

has_up : (n k q : ℕ) → k ≤ q → q < 64 → has (n * 2 ^ k % 2 ^ 64) q ≡ has n (q - k)
has_up n k q from low =
    let plain : n * 2 ^ k ≡ n * 2 ^ k + 0 = omega arith in
    let moved : bit_at (n * 2 ^ k) q ≡ bit_at n (q - k) = ap (λ y. bit_at y q) plain ∙ bit_at_cat_high n k 0 q (power k) from in
    ap (λ y. eqb y 1) (sym (kept_bits (n * 2 ^ k) q low) ∙ moved)

-- none comes below
none_up : (n k q : ℕ) → q < k → q < 64 → has (n * 2 ^ k % 2 ^ 64) q ≡ has 0 q
none_up n k q below low =
    let plain : n * 2 ^ k ≡ n * 2 ^ k + 0 = omega arith in
    let moved : bit_at (n * 2 ^ k) q ≡ bit_at 0 q = ap (λ y. bit_at y q) plain ∙ bit_at_cat_low n k 0 q below in
    ap (λ y. eqb y 1) (sym (kept_bits (n * 2 ^ k) q low) ∙ moved)

pub apart : (x : Bool) → x ≡ true → x ≡ false → ⊥
apart x e f = cc

next_white : (x q : ℕ) → IsNext White x q → (8 ≤ q) × (q - 8 ≡ x)
next_white x q h = let f : file x ≡ file q = h.0 in let r : rank q ≡ rank x + 1 = h.1 in (omega arith, omega arith)

white_next : (q : ℕ) → 8 ≤ q → IsNext White (q - 8) q
white_next q l = (omega arith, omega arith)

next_black : (x q : ℕ) → IsNext Black x q → q + 8 ≡ x
next_black x q h = let f : file x ≡ file q = h.0 in let r : rank x ≡ rank q + 1 = h.1 in omega arith

black_next : (q : ℕ) → IsNext Black (q + 8) q
black_next q = (omega arith, omega arith)

-- the free squares of a set shifted by a rank
pub shifted_up : (c : Color) (set bits free moved n : ℕ) → c ≡ White → bits ≡ set → moved ≡ bits * 2 ^ 8 % 2 ^ 64 → ((p : ℕ) → has n p ≡ has moved p && has free p) → IsSetOf n (IsAheadOf c set free)
shifted_up c set bits free moved n white same e is q l = subst (λ (d : Color). IsTrue (has n q) ↔ IsAheadOf d set free q) (sym white) (subst (λ (y : ℕ). IsTrue (has n q) ↔ IsAheadOf White y free q) same (
  λ t. (let x : (has moved q ≡ true) × (has free q ≡ true) = and_true (has moved q) (has free q) (sym (is q) ∙ t) in
      let m : has (bits * 2 ^ 8 % 2 ^ 64) q ≡ true = ap (λ (y : ℕ). has y q) (sym e) ∙ x.0 in
      elim (leb_tells 8 q) [
        | inl w ↦ (let low : q - 8 < 64 = omega (arith, l) in ((q - 8, low, sym (has_up bits 8 q w.1 l) ∙ m, white_next q w.1), x.1))
        | inr w ↦ absurd (apart (has 0 q) (sym (none_up bits 8 q w.1 l) ∙ m) (has-none q))
      ]),
  λ ((x, low, on, next), vacant). (let far : (8 ≤ q) × (q - 8 ≡ x) = next_white x q next in
      is q ∙ and_from (has moved q) (has free q) (ap (λ (y : ℕ). has y q) e ∙ has_up bits 8 q far.0 l ∙ ap (has bits) far.1 ∙ on) vacant),
))

pub shifted_down : (c : Color) (set bits free moved n : ℕ) → c ≡ Black → bits ≡ set → bits < 2 ^ 64 → moved ≡ bits / 2 ^ 8 → ((p : ℕ) → has n p ≡ has moved p && has free p) → IsSetOf n (IsAheadOf c set free)
shifted_down c set bits free moved n black same fits e is q l = subst (λ (d : Color). IsTrue (has n q) ↔ IsAheadOf d set free q) (sym black) (subst (λ (y : ℕ). IsTrue (has n q) ↔ IsAheadOf Black y free q) same (
  λ t. (let x : (has moved q ≡ true) × (has free q ≡ true) = and_true (has moved q) (has free q) (sym (is q) ∙ t) in
      let m : has bits (q + 8) ≡ true = sym (has_down bits 8 q) ∙ ap (λ (y : ℕ). has y q) (sym e) ∙ x.0 in
      elim (leb_tells 64 (q + 8)) [
        | inl w ↦ absurd (apart (has bits (q + 8)) m (ap (λ (y : ℕ). eqb y 1) (bit_at_above bits 64 (q + 8) fits w.1)))
        | inr w ↦ ((q + 8, w.1, m, black_next q), x.1)
      ]),
  λ ((x, low, on, next), vacant). is q ∙ and_from (has moved q) (has free q) (ap (λ (y : ℕ). has y q) e ∙ has_down bits 8 q ∙ ap (has bits) (next_black x q next) ∙ on) vacant,
))

-- ---- files
first_bits : bits_below (λ s. eqb (file s) 1) 64 ≡ 72340172838076673
unfolding bits_below
first_bits = refl

last_bits : bits_below (λ s. eqb (file s) 8) 64 ≡ 9259542123273814144
unfolding bits_below
last_bits = refl

pub first_squares : (n : ℕ) → n ≡ 72340172838076673 → IsSetOf n (λ s. file s ≡ 1)
first_squares n e q l = Decides-at _ _ (ap (λ (x : ℕ). has x q) (e ∙ sym first_bits) ∙ has-bits_below (λ s. eqb (file s) 1) 64 q l) (Decides-eqb (file q) 1)

pub last_squares : (n : ℕ) → n ≡ 9259542123273814144 → IsSetOf n (λ s. file s ≡ 8)
last_squares n e q l = Decides-at _ _ (ap (λ (x : ℕ). has x q) (e ∙ sym last_bits) ∙ has-bits_below (λ s. eqb (file s) 8) 64 q l) (Decides-eqb (file q) 8)

-- a set shifted by a square, but for those that come round to the other side
pub shifted_east : (set bits moved edge n : ℕ) → bits ≡ set → moved ≡ bits * 2 ^ 1 % 2 ^ 64 → IsSetOf edge (λ s. file s ≡ 1) → ((q : ℕ) → q < 64 → has n q ≡ (has moved q && not (has edge q))) → IsSetOf n (IsEastOf set)
shifted_east set bits moved edge n same e first is q l = subst (λ (y : ℕ). IsTrue (has n q) ↔ IsEastOf y q) same (
  λ t. (let x : (has moved q ≡ true) × (not (has edge q) ≡ true) = and_true (has moved q) (not (has edge q)) (sym (is q l) ∙ t) in
      let m : has (bits * 2 ^ 1 % 2 ^ 64) q ≡ true = ap (λ (y : ℕ). has y q) (sym e) ∙ x.0 in
      let inside : file q ≡ 1 → ⊥ = λ f. apart (has edge q) ((first q l).1 f) (not-true (has edge q) x.1) in
      elim (leb_tells 1 q) [
        | inl w ↦ (let low : q - 1 < 64 = omega (arith, l) in (q - 1, low, sym (has_up bits 1 q w.1 l) ∙ m, omega (arith, w.1), omega (arith, w.1, inside)))
        | inr w ↦ absurd (apart (has 0 q) (sym (none_up bits 1 q w.1 l) ∙ m) (has-none q))
      ]),
  λ (x, low, on, next, row). (let from : 1 ≤ q = omega arith in let back : q - 1 ≡ x = omega arith in
      is q l ∙ and_from (has moved q) (not (has edge q)) (ap (λ (y : ℕ). has y q) e ∙ has_up bits 1 q from l ∙ ap (has bits) back ∙ on)
      (not_from_false (has edge q) (false_from_ne_true (has edge q) (λ t. (let f : file q ≡ 1 = (first q l).0 t in absurd (omega (arith, f, next, row))))))),
)

pub shifted_west : (set bits moved edge n : ℕ) → bits ≡ set → bits < 2 ^ 64 → moved ≡ bits / 2 ^ 1 → IsSetOf edge (λ s. file s ≡ 8) → ((q : ℕ) → q < 64 → has n q ≡ (has moved q && not (has edge q))) → IsSetOf n (IsWestOf set)
shifted_west set bits moved edge n same fits e last is q l = subst (λ (y : ℕ). IsTrue (has n q) ↔ IsWestOf y q) same (
  λ t. (let x : (has moved q ≡ true) × (not (has edge q) ≡ true) = and_true (has moved q) (not (has edge q)) (sym (is q l) ∙ t) in
      let m : has bits (q + 1) ≡ true = sym (has_down bits 1 q) ∙ ap (λ (y : ℕ). has y q) (sym e) ∙ x.0 in
      let inside : file q ≡ 8 → ⊥ = λ f. apart (has edge q) ((last q l).1 f) (not-true (has edge q) x.1) in
      elim (leb_tells 64 (q + 1)) [
        | inl w ↦ absurd (apart (has bits (q + 1)) m (ap (λ (y : ℕ). eqb y 1) (bit_at_above bits 64 (q + 1) fits w.1)))
        | inr w ↦ (q + 1, w.1, m, refl, omega (arith, inside))
      ]),
  λ (x, low, on, next, row). is q l ∙ and_from (has moved q) (not (has edge q)) (ap (λ (y : ℕ). has y q) e ∙ has_down bits 1 q ∙ ap (has bits) (sym next) ∙ on)
      (not_from_false (has edge q) (false_from_ne_true (has edge q) (λ t. (let f : file q ≡ 8 = (last q l).0 t in absurd (omega (arith, f, next, row)))))),
)
