-- The canonical order, and the place of a move among all 64 * 64 * 7.
use Rattle.pg_moves.proofs.Common.{◌≡◌, ◌≢◌, ℕ, zero, suc, ◌/◌, ◌%◌, ◌<◌, inl, inr, Option, Some, None, List, [], ◌∷◌, ◌++◌, refl, sym, ap, subst, arith, ◌∙◌, Less, Equal, IsTotalOrder, nat_cmp_is, Contains, IsStrictlySortedBy, nat_cmp_total, on_total, then_total, eqb_tells, Contains-append_left, Contains-push, Contains-push_cases, Kind, below_seven, Pawn, Knight, Bishop, Rook, Queen, King, Move, IsOnBoard, promotion_number, move_cmp, place}
use Rattle.std.specs.Ordering.{nat_cmp, ordering_then}
use Rattle.pg_board.specs.lemmas.Kinds.{each_kind}
use Rattle.pg_moves.proofs.SortLemmas.{sorted_push, sorted_none, Contains-none}

pub move_cmp_total : IsTotalOrder move_cmp
move_cmp_total = then_total (on_total (λ (m : Move). m.from) nat_cmp_total) (then_total (on_total (λ (m : Move). m.to) nat_cmp_total) (on_total (λ (m : Move). promotion_number m.promotion) nat_cmp_total))

-- promotions by their number
pub promotion_of : ℕ → Option Kind
promotion_of zero = None
promotion_of (suc zero) = Some Pawn
promotion_of (suc (suc zero)) = Some Knight
promotion_of (suc (suc (suc zero))) = Some Bishop
promotion_of (suc (suc (suc (suc zero)))) = Some Rook
promotion_of (suc (suc (suc (suc (suc zero))))) = Some Queen
promotion_of _ = Some King

pub promotion_back : (o : Option Kind) → promotion_of (promotion_number o) ≡ o
unfolding promotion_of
promotion_back None = refl
promotion_back (Some k) = each_kind (λ j. promotion_of (promotion_number (Some j)) ≡ Some j) (refl, refl, refl, refl, refl, refl) k

pub promotion_low : (o : Option Kind) → promotion_number o < 7
promotion_low None = omega arith
promotion_low (Some k) = each_kind (λ j. promotion_number (Some j) < 7) (omega arith, omega arith, omega arith, omega arith, omega arith, omega arith) k

pub number_back : (n : ℕ) → n < 7 → promotion_number (promotion_of n) ≡ n
unfolding promotion_of
number_back = below_seven (λ n. promotion_number (promotion_of n) ≡ n) (refl, refl, refl, refl, refl, refl, refl)

-- moves that tie are one
pub same_parts : (a b : Move) → a.from ≡ b.from → a.to ≡ b.to → promotion_number a.promotion ≡ promotion_number b.promotion → a ≡ b
same_parts a b e f g i = record { from = e i; to = f i; promotion = (sym (promotion_back a.promotion) ∙ ap promotion_of g ∙ promotion_back b.promotion) i }

less_is : (x y : ℕ) → x < y → nat_cmp x y ≡ Less
less_is x y h = sym (nat_cmp_is x y Less h)

equal_is : (x y : ℕ) → x ≡ y → nat_cmp x y ≡ Equal
equal_is x y h = sym (nat_cmp_is x y Equal h)

-- on the board the order is that of the places
pub place_less : (a b : Move) → a.to < 64 → b.to < 64 → place a < place b → move_cmp a b ≡ Less
place_less a b s t h =
    let ra : promotion_number a.promotion < 7 = promotion_low a.promotion in
    let rb : promotion_number b.promotion < 7 = promotion_low b.promotion in
    elim (eqb_tells a.from b.from) [
      | inl v ↦ elim (eqb_tells a.to b.to) [
        | inl w ↦ (let low : promotion_number a.promotion < promotion_number b.promotion = (let e : a.from ≡ b.from = v.1 in let f : a.to ≡ b.to = w.1 in omega arith) in
            ap (λ o. ordering_then o (ordering_then (nat_cmp a.to b.to) (nat_cmp (promotion_number a.promotion) (promotion_number b.promotion)))) (equal_is a.from b.from v.1) ∙ ap (λ o. ordering_then o (nat_cmp (promotion_number a.promotion) (promotion_number b.promotion))) (equal_is a.to b.to w.1) ∙ less_is (promotion_number a.promotion) (promotion_number b.promotion) low)
        | inr w ↦ (let low : a.to < b.to = (let e : a.from ≡ b.from = v.1 in let f : a.to ≢ b.to = w.1 in omega arith) in
            ap (λ o. ordering_then o (ordering_then (nat_cmp a.to b.to) (nat_cmp (promotion_number a.promotion) (promotion_number b.promotion)))) (equal_is a.from b.from v.1) ∙ ap (λ o. ordering_then o (nat_cmp (promotion_number a.promotion) (promotion_number b.promotion))) (less_is a.to b.to low))
      ]
      | inr v ↦ (let low : a.from < b.from = (let e : a.from ≢ b.from = v.1 in omega arith) in
          ap (λ o. ordering_then o (ordering_then (nat_cmp a.to b.to) (nat_cmp (promotion_number a.promotion) (promotion_number b.promotion)))) (less_is a.from b.from low))
    ]

-- on the board the place tells the move
pub same_place : (a b : Move) → a.to < 64 → b.to < 64 → place a ≡ place b → a ≡ b
same_place a b s t h =
    let ra : promotion_number a.promotion < 7 = promotion_low a.promotion in
    let rb : promotion_number b.promotion < 7 = promotion_low b.promotion in
    same_parts a b (omega arith) (omega arith) (omega arith)

-- the move at a place
pub move_at : ℕ → Move
move_at n = record { from = n / 7 / 64; to = n / 7 % 64; promotion = promotion_of (n % 7) }

pub place_at : (n : ℕ) → place (move_at n) ≡ n
unfolding move_at
place_at n = let r : promotion_number (promotion_of (n % 7)) ≡ n % 7 = number_back (n % 7) (omega arith) in omega arith

pub place_low : (m : Move) → IsOnBoard m → place m < 28672
place_low m h = let r : promotion_number m.promotion < 7 = promotion_low m.promotion in let a : m.from < 64 = h.0 in let b : m.to < 64 = h.1 in omega arith

-- the first n of all moves, in order
unfoldable pub moves_below : ℕ → List Move
moves_below zero = []
moves_below (suc n) = moves_below n ++ move_at n ∷ []

pub below_has : (n : ℕ) (m : Move) → m.to < 64 → place m < n → Contains (moves_below n) m
unfolding moves_below move_at
below_has zero m s h = absurd (omega arith)
below_has (suc n) m s h = elim (eqb_tells (place m) n) [
  | inl w ↦ (let on : (move_at n).to < 64 = omega arith in let e : move_at n ≡ m = same_place (move_at n) m on s (place_at n ∙ sym w.1) in subst (λ x. Contains (moves_below n ++ move_at n ∷ []) x) e (Contains-push (moves_below n) (move_at n)))
  | inr w ↦ (let low : place m < n = (let ne : place m ≢ n = w.1 in omega arith) in Contains-append_left (moves_below n) (move_at n ∷ []) m (below_has n m s low))
]

pub below_are : (n : ℕ) (m : Move) → Contains (moves_below n) m → (m.to < 64) × (place m < n)
unfolding moves_below move_at
below_are zero m h = absurd (Contains-none m h)
below_are (suc n) m h = elim (Contains-push_cases (moves_below n) (move_at n) m h) [
  | inl g ↦ (let r : (m.to < 64) × (place m < n) = below_are n m g in (r.0, omega arith))
  | inr e ↦ (let on : (move_at n).to < 64 = omega arith in let same : place m ≡ n = sym (ap place e) ∙ place_at n in (subst (λ (x : Move). x.to < 64) e on, omega arith))
]

pub below_ascend : (n : ℕ) → IsStrictlySortedBy move_cmp (moves_below n)
unfolding moves_below move_at
below_ascend zero = sorted_none move_cmp
below_ascend (suc n) = sorted_push move_cmp (moves_below n) (move_at n) (below_ascend n)
    (λ x h. let r : (x.to < 64) × (place x < n) = below_are n x h in let on : (move_at n).to < 64 = omega arith in place_less x (move_at n) r.0 on (let e : place (move_at n) ≡ n = place_at n in let low : place x < n = r.1 in omega arith))

-- all moves: 64 * 64 * 7
unfoldable pub all_moves : List Move
all_moves = moves_below 28672

pub all_ascend : IsStrictlySortedBy move_cmp all_moves
unfolding all_moves
all_ascend = below_ascend 28672

pub all_have : (m : Move) → IsOnBoard m → Contains all_moves m
unfolding all_moves
all_have m h = below_has 28672 m h.1 (place_low m h)
