-- What `next_legal` answers is the next element of the list of the legal moves.
use Rattle.pg_moves.proofs.Common.{◌≡◌, ◌⊎◌, inl, inr, Option, Some, None, MatchOption, List, [], ◌∷◌, ◌++◌, refl, sym, ap, subst, ◌∙◌, Less, Equal, Contains, IsStrictlySortedBy, tied_itself, Contains-append_right, Contains-append_cases, State, Move, move_cmp, IsMoveList, IsNext, IsLast, first_in}
use Rattle.pg_moves.proofs.PlaceLemmas.{move_cmp_total}
use Rattle.pg_moves.proofs.SortLemmas.{Contains-head, Contains-later, Contains-cons, Contains-none, sorted_below, sorted_rest}

never : (x y : Move) → move_cmp x y ≡ Less → move_cmp y x ≡ Less → ⊥
never x y h k = let e : move_cmp x x ≡ Equal = tied_itself move_cmp_total x in let f : move_cmp x x ≡ Less = move_cmp_total.trans x y x h k in let g : Less ≡ Equal = sym f ∙ e in cc

-- what stands after a, and what stands before it
after_in : (xs ys : List Move) (a z : Move) → IsStrictlySortedBy move_cmp (xs ++ a ∷ ys) → Contains ys z → move_cmp a z ≡ Less
after_in [] ys a z s h = sorted_below move_cmp a z ys s h
after_in (x ∷ xs) ys a z s h = after_in xs ys a z (sorted_rest move_cmp x (xs ++ a ∷ ys) s) h

before_in : (xs ys : List Move) (a z : Move) → IsStrictlySortedBy move_cmp (xs ++ a ∷ ys) → Contains xs z → move_cmp z a ≡ Less
before_in [] ys a z s h = absurd (Contains-none z h)
before_in (x ∷ xs) ys a z s h = elim (Contains-cons x z xs h) [
  | inl e ↦ subst (λ (w : Move). move_cmp w a ≡ Less) e (sorted_below move_cmp x a (xs ++ a ∷ ys) s (Contains-append_right xs (a ∷ ys) a (Contains-head a ys)))
  | inr g ↦ before_in xs ys a z (sorted_rest move_cmp x (xs ++ a ∷ ys) s) g
]

tail_sorted : (xs ys : List Move) (a : Move) → IsStrictlySortedBy move_cmp (xs ++ a ∷ ys) → IsStrictlySortedBy move_cmp ys
tail_sorted [] ys a s = sorted_rest move_cmp a ys s
tail_sorted (x ∷ xs) ys a s = tail_sorted xs ys a (sorted_rest move_cmp x (xs ++ a ∷ ys) s)

-- past a stands in ys
in_tail : (xs ys : List Move) (a z : Move) → IsStrictlySortedBy move_cmp (xs ++ a ∷ ys) → Contains (xs ++ a ∷ ys) z → move_cmp a z ≡ Less → Contains ys z
in_tail xs ys a z s h less = elim (Contains-append_cases xs (a ∷ ys) z h) [
  | inl g ↦ absurd (never a z less (before_in xs ys a z s g))
  | inr g ↦ elim (Contains-cons a z ys g) [
    | inl e ↦ absurd (let self : move_cmp a a ≡ Less = subst (λ (w : Move). move_cmp a w ≡ Less) (sym e) less in never a a self self)
    | inr k ↦ k
  ]
]

-- the least of an ascending list is its first
least_first : (ys : List Move) (m : Move) → IsStrictlySortedBy move_cmp ys → Contains ys m → ((n : Move) → Contains ys n → (m ≡ n) ⊎ (move_cmp m n ≡ Less)) → first_in ys ≡ Some m
least_first [] m s h least = absurd (Contains-none m h)
least_first (y ∷ ys) m s h least = elim (Contains-cons y m ys h) [
  | inl e ↦ ap Some e
  | inr g ↦ elim (least y (Contains-head y ys)) [
    | inl e ↦ ap Some (sym e)
    | inr less ↦ absurd (never m y less (sorted_below move_cmp y m ys s g))
  ]
]

none_first : (ys : List Move) → ((n : Move) → Contains ys n → ⊥) → first_in ys ≡ None
none_first [] h = refl
none_first (y ∷ ys) h = absurd (h y (Contains-head y ys))

-- after a comes what follows it in the list
pub next_in : (p : State) (xs ys : List Move) (a : Move) (r : Option Move) → IsMoveList p (xs ++ a ∷ ys) → MatchOption r (IsLast p (Some a)) (λ m. IsNext p (Some a) m) → r ≡ first_in ys
next_in p xs ys a None h last = sym (none_first ys (λ n c. last n ((h.has n).0 (Contains-append_right xs (a ∷ ys) n (Contains-later a n ys c))) (after_in xs ys a n h.ascends c)))
next_in p xs ys a (Some m) h next = sym (least_first ys m (tail_sorted xs ys a h.ascends) (in_tail xs ys a m h.ascends ((h.has m).1 next.legal) next.past)
    (λ n c. next.first n ((h.has n).0 (Contains-append_right xs (a ∷ ys) n (Contains-later a n ys c))) (after_in xs ys a n h.ascends c)))

-- with none handed in comes the first of the list
pub next_start : (p : State) (ms : List Move) (r : Option Move) → IsMoveList p ms → MatchOption r (IsLast p None) (λ m. IsNext p None m) → r ≡ first_in ms
next_start p ms None h last = sym (none_first ms (λ n c. last n ((h.has n).0 c) tt))
next_start p ms (Some m) h next = sym (least_first ms m h.ascends ((h.has m).1 next.legal) (λ n c. next.first n ((h.has n).0 c) tt))
