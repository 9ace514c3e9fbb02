-- What is left of the legal moves begins with the next one.
use Rattle.pg_checker.proofs.Common.{◌≡◌, ℕ, ◌<◌, ◌≤◌, Bool, true, false, not, inl, inr, Option, Some, None, List, [], ◌∷◌, ◌++◌, refl, sym, ap, subst, ◌∙◌, arith, ltb, ltb-true, ltb-false, Less, Equal, Greater, Decides, is_lt, nat_cmp, ordering_then, ordering_reverse, nat_cmp_is, Contains, AllByRecursion, filter, Contains-append_left, Contains-append_right, Contains-append_cases, Placement, State, Move, IsLegal, promotion_number, move_cmp, IsBefore, IsPast, IsNext, IsLast, move_cmp_total, Contains-head, Contains-later, Contains-cons, sorted_below, sorted_rest, sorted_same, kept_are, kept_has, moves_of, moves_of_is, Cuts, chess_with, comes_after, left_after}
use Rattle.std.specs.declared.cmp.Ordering.{Ordering}
use Rattle.std.specs.List.Sorted.{IsStrictlySortedBy}
use Rattle.std.proofs.lemmas.Cmp.{tied_itself}
use Rattle.std.proofs.lemmas.List.Kept.{IsStrictlySortedBy-filter}

less_decides : (o : Ordering) → Decides (is_lt o) (o ≡ Less)
less_decides Less = (λ _. refl, λ _. refl)
less_decides Equal = (λ e. cc, λ e. cc)
less_decides Greater = (λ e. cc, λ e. cc)

after_decides : (last : Option Move) (m : Move) → Decides (comes_after last m) (IsPast last m)
after_decides None m = (λ _. tt, λ _. refl)
after_decides (Some a) m = less_decides (move_cmp a m)

pub left_are : (p : State) (last : Option Move) (m : Move) → Contains (left_after p last) m → IsLegal p m × IsPast last m
unfolding left_after
left_are p last m h = let k = kept_are (comes_after last) (moves_of p) m h in (((moves_of_is p).has m).0 k.1, (after_decides last m).0 k.0)

left_has : (p : State) (last : Option Move) (m : Move) → IsLegal p m → IsPast last m → Contains (left_after p last) m
unfolding left_after
left_has p last m l past = kept_has (comes_after last) (moves_of p) m ((after_decides last m).1 past) (((moves_of_is p).has m).1 l)

left_ascends : (p : State) (last : Option Move) → IsStrictlySortedBy move_cmp (left_after p last)
unfolding left_after
left_ascends p last = IsStrictlySortedBy-filter move_cmp (comes_after last) (moves_of p) (moves_of_is p).ascends

-- before the first of them all are left
pub left_start : (p : State) → left_after p None ≡ moves_of p
left_start p = sorted_same move_cmp move_cmp_total (left_after p None) (moves_of p) (left_ascends p None) (moves_of_is p).ascends
    (λ m h. ((moves_of_is p).has m).1 (left_are p None m h).0)
    (λ m h. left_has p None m (((moves_of_is p).has m).0 h) tt)

past_trans : (last : Option Move) (m n : Move) → IsPast last m → IsPast (Some m) n → IsPast last n
past_trans None m n h k = tt
past_trans (Some a) m n h k = move_cmp_total.trans a m n h k

sorted_cons : (m : Move) (ms : List Move) → ((n : Move) → Contains ms n → move_cmp m n ≡ Less) → IsStrictlySortedBy move_cmp ms → IsStrictlySortedBy move_cmp (m ∷ ms)
unfolding IsStrictlySortedBy
sorted_cons m ms below s = (all ms below, s)
  where
    all : (ns : List Move) → ((n : Move) → Contains ns n → move_cmp m n ≡ Less) → AllByRecursion (λ y. move_cmp m y ≡ Less) ns
    all [] h = tt
    all (n ∷ ns) h = (h n (Contains-head n ns), all ns (λ l c. h l (Contains-later n l ns c)))

-- the next one comes first, and then what is left after it
pub left_next : (p : State) (last : Option Move) (m : Move) → IsNext p last m → left_after p last ≡ m ∷ left_after p (Some m)
left_next p last m next =
    let rest = left_after p (Some m) in
    sorted_same move_cmp move_cmp_total (left_after p last) (m ∷ rest) (left_ascends p last)
    (sorted_cons m rest (λ n h. (left_are p (Some m) n h).1) (left_ascends p (Some m)))
    (λ n h. let k = left_are p last n h in elim (next.first n k.0 k.1) [
      | inl e ↦ subst (λ z. Contains (m ∷ rest) z) e (Contains-head m rest)
      | inr less ↦ Contains-later m n rest (left_has p (Some m) n k.0 less)
    ])
    (λ n h. elim (Contains-cons m n rest h) [
      | inl e ↦ subst (λ z. Contains (left_after p last) z) e (left_has p last m next.legal next.past)
      | inr g ↦ (let k = left_are p (Some m) n g in left_has p last n k.0 (past_trans last m n next.past k.1))
    ])

-- after the last one none is left
pub left_last : (p : State) (last : Option Move) → IsLast p last → left_after p last ≡ []
left_last p last end = none (left_after p last) (λ n h. let k = left_are p last n h in end n k.0 k.1)
  where
    none : (ms : List Move) → ((n : Move) → Contains ms n → ⊥) → ms ≡ []
    none [] h = refl
    none (n ∷ ms) h = absurd (h n (Contains-head n ms))

-- ---- several moves at once
sorted_append : (xs ys : List Move) → IsStrictlySortedBy move_cmp xs → IsStrictlySortedBy move_cmp ys → ((x y : Move) → Contains xs x → Contains ys y → move_cmp x y ≡ Less) → IsStrictlySortedBy move_cmp (xs ++ ys)
sorted_append [] ys s t below = t
sorted_append (x ∷ xs) ys s t below = sorted_cons x (xs ++ ys)
    (λ y h. elim (Contains-append_cases xs ys y h) [
      | inl g ↦ sorted_below move_cmp x y xs s g
      | inr g ↦ below x y (Contains-head x xs) g
    ])
    (sorted_append xs ys (sorted_rest move_cmp x xs s) t (λ u v g k. below u v (Contains-later x u xs g) k))

never : (a b : Move) → IsBefore a b → IsBefore b a → ⊥
never a b h k = let e : move_cmp a a ≡ Equal = tied_itself move_cmp_total a in let f : move_cmp a a ≡ Less = move_cmp_total.trans a b a h k in cc

-- a move of a man on an earlier square comes before
from_before : (a b : Move) → a.from < b.from → IsBefore a b
from_before a b h = ap (λ o. ordering_then o (ordering_then (nat_cmp a.to b.to) (nat_cmp (promotion_number a.promotion) (promotion_number b.promotion)))) (sym (nat_cmp_is a.from b.from Less h))

-- what comes after one move of a man and not after another of his is a move of his
pub same_man : (a n m : Move) → n.from ≡ a.from → IsBefore a m → ¬ IsBefore n m → m.from ≡ a.from
same_man a n m same past off = go (ltb m.from a.from) (ltb a.from m.from) refl refl
  where
    go : (x y : Bool) → ltb m.from a.from ≡ x → ltb a.from m.from ≡ y → m.from ≡ a.from
    go true y s t = absurd (never a m past (from_before m a (ltb-true m.from a.from s)))
    go false true s t = absurd (off (from_before n m (let l : a.from < m.from = ltb-true a.from m.from t in omega (arith, same))))
    go false false s t = (let l : a.from ≤ m.from = ltb-false m.from a.from s in let k : m.from ≤ a.from = ltb-false a.from m.from t in omega arith)

-- whether a move does not come after another one
up_to : Move → Move → Bool
up_to n m = not (comes_after (Some n) m)

-- the legal moves after one move up to another one
unfoldable pub left_between : State → Move → Move → List Move
unfolding up_to
left_between p a n = filter (up_to n) (left_after p (Some a))

pub between_are : (p : State) (a n m : Move) → Contains (left_between p a n) m → IsLegal p m × IsBefore a m × ¬ IsBefore n m
unfolding left_between up_to
between_are p a n m h =
    let k = kept_are (up_to n) (left_after p (Some a)) m h in
    let l = left_are p (Some a) m k.1 in
    (l.0, l.1, λ less. let on : comes_after (Some n) m ≡ true = (after_decides (Some n) m).1 less in let off : not (comes_after (Some n) m) ≡ true = k.0 in go (comes_after (Some n) m) on off)
  where
    go : (b : Bool) → b ≡ true → not b ≡ true → ⊥
    go true on off = cc
    go false on off = cc

-- what is left after a move begins with those up to a later one
pub left_split : (p : State) (a n : Move) → IsBefore a n → left_after p (Some a) ≡ left_between p a n ++ left_after p (Some n)
unfolding left_between up_to
left_split p a n before =
    let between = left_between p a n in
    let rest = left_after p (Some n) in
    sorted_same move_cmp move_cmp_total (left_after p (Some a)) (between ++ rest) (left_ascends p (Some a))
    (sorted_append between rest (IsStrictlySortedBy-filter move_cmp (up_to n) (left_after p (Some a)) (left_ascends p (Some a))) (left_ascends p (Some n))
    (λ x y h k. low x y (between_are p a n x h).2 (left_are p (Some n) y k).1))
    (λ m h. to m h (comes_after (Some n) m) refl)
    (λ m h. elim (Contains-append_cases between rest m h) [
      | inl g ↦ (let k = between_are p a n m g in left_has p (Some a) m k.0 k.1)
      | inr g ↦ (let k = left_are p (Some n) m g in left_has p (Some a) m k.0 (move_cmp_total.trans a n m before k.1))
    ])
  where
    -- a move that does not come after n comes before one that does
    low : (x y : Move) → ¬ IsBefore n x → IsBefore n y → IsBefore x y
    low x y off on = go (move_cmp n x) refl
      where
        go : (o : Ordering) → move_cmp n x ≡ o → IsBefore x y
        go Less e = absurd (off e)
        go Equal e = sym (move_cmp_total.congr n x y e) ∙ on
        go Greater e = move_cmp_total.trans x n y (move_cmp_total.antisymm x n ∙ ap ordering_reverse e) on

    to : (m : Move) → Contains (left_after p (Some a)) m → (b : Bool) → comes_after (Some n) m ≡ b → Contains (left_between p a n ++ left_after p (Some n)) m
    to m h true e = Contains-append_right (left_between p a n) (left_after p (Some n)) m (left_has p (Some n) m (left_are p (Some a) m h).0 ((after_decides (Some n) m).0 e))
    to m h false e = Contains-append_left (left_between p a n) (left_after p (Some n)) m (kept_has (up_to n) (left_after p (Some a)) m (ap not e) h)

-- the moves of the rules
pub rules_start : (d : Placement) (n : ℕ) (listed : List Move → Bool) (cut : Cuts) (p : State) → (chess_with d n listed cut).moves p ≡ left_after p None
unfolding chess_with
rules_start d n listed cut p = sym (left_start p)

pub ruleset in_order = (rules_start, left_next, left_last)
