-- The list of the legal moves: there is one, and no other.
use Rattle.std.specs.Result.{IfErr}
use Rattle.pg_moves.proofs.Common.{Result, Ok, Err, ◌≡◌, ◌≢◌, ℕ, zero, suc, ◌+◌, ◌<◌, ◌≤◌, ◌⊎◌, inl, inr, Bool, true, false, cond, List, [], ◌∷◌, ◌++◌, length, length-append, refl, sym, ap, subst, arith, ◌∙◌, Contains, filter, Contains-push, Contains-push_cases, Contains-append_left, eqb_tells, leb_tells, State, Move, IsLegal, IsOnBoard, Step, move_cmp, IsMoveList, place, NoneFrom, IsFirstMove, IsListBelow}
use Rattle.std.proofs.lemmas.List.Kept.{IsStrictlySortedBy-filter}
use Rattle.pg_moves.proofs.SortLemmas.{Contains-head, Contains-later, Contains-cons, Contains-none, sorted_push, sorted_none, sorted_same}
use Rattle.pg_moves.proofs.PlaceLemmas.{move_cmp_total, place_less, same_place, place_low, moves_below, all_moves, all_ascend, all_have}
use Rattle.pg_moves.proofs.DecisionLemmas.{dec_legal}

pub on_board : (p : State) (m : Move) → IsLegal p m → IsOnBoard m
unfolding Step
on_board p m (q, ((k, w, on, stands, way, e), safe)) = on

-- 1 a list that is filtered by a decided fact

pub is_yes : {A : Type 0} → Dec A → Bool
is_yes (yes a) = true
is_yes (no f) = false

pub yes_is : {A : Type 0} (d : Dec A) → is_yes d ≡ true → A
unfolding is_yes
yes_is (yes a) e = a
yes_is (no f) e = cc

pub is_so : {A : Type 0} (d : Dec A) → A → is_yes d ≡ true
unfolding is_yes
is_so (yes a) x = refl
is_so (no f) x = absurd (f x)

module _ {X : Type 0} (test : X → Bool) where
  kept_has_at : (b : Bool) (y x : X) (xs : List X) → test y ≡ b → test x ≡ true → (y ≡ x) ⊎ Contains (filter test xs) x → Contains (cond b (y ∷ filter test xs) (filter test xs)) x
  kept_has_at true y x xs is e (inl f) = subst (λ z. Contains (y ∷ filter test xs) z) f (Contains-head y (filter test xs))
  kept_has_at true y x xs is e (inr g) = Contains-later y x (filter test xs) g
  kept_has_at false y x xs is e (inl f) = absurd (let t : test y ≡ true = ap test f ∙ e in let u : true ≡ false = sym t ∙ is in cc)
  kept_has_at false y x xs is e (inr g) = g

  pub kept_has : (xs : List X) (x : X) → test x ≡ true → Contains xs x → Contains (filter test xs) x
  kept_has [] x e h = absurd (Contains-none x h)
  kept_has (y ∷ xs) x e h = kept_has_at (test y) y x xs refl e (elim (Contains-cons y x xs h) [ inl f ↦ inl f | inr g ↦ inr (kept_has xs x e g) ])

  kept_are_at : (b : Bool) (y x : X) (xs : List X) → test y ≡ b → (Contains (filter test xs) x → (test x ≡ true) × Contains xs x) → Contains (cond b (y ∷ filter test xs) (filter test xs)) x → (test x ≡ true) × Contains (y ∷ xs) x
  kept_are_at true y x xs is rest g = elim (Contains-cons y x (filter test xs) g) [
    | inl f ↦ (ap test (sym f) ∙ is, subst (λ z. Contains (y ∷ xs) z) f (Contains-head y xs))
    | inr k ↦ (let r : (test x ≡ true) × Contains xs x = rest k in (r.0, Contains-later y x xs r.1))
  ]
  kept_are_at false y x xs is rest g = let r : (test x ≡ true) × Contains xs x = rest g in (r.0, Contains-later y x xs r.1)

  pub kept_are : (xs : List X) (x : X) → Contains (filter test xs) x → (test x ≡ true) × Contains xs x
  kept_are [] x h = absurd (Contains-none x h)
  kept_are (y ∷ xs) x h = kept_are_at (test y) y x xs refl (kept_are xs x) h

-- 2 the function

unfoldable pub moves_of : State → List Move
moves_of p = filter (λ m. is_yes (dec_legal p m)) all_moves

pub moves_of_is : (p : State) → IsMoveList p (moves_of p)
unfolding moves_of
moves_of_is p = record {
  ascends = IsStrictlySortedBy-filter move_cmp (λ m. is_yes (dec_legal p m)) all_moves all_ascend;
  has = λ m. (
    λ h. (let r : (is_yes (dec_legal p m) ≡ true) × Contains all_moves m = kept_are (λ m. is_yes (dec_legal p m)) all_moves m h in yes_is (dec_legal p m) r.0),
    λ l. kept_has (λ m. is_yes (dec_legal p m)) all_moves m (is_so (dec_legal p m) l) (all_have m (on_board p m l)),
  );
}

pub one_move_list : (p : State) (ms ns : List Move) → IsMoveList p ms → IsMoveList p ns → ms ≡ ns
one_move_list p ms ns h k = sorted_same move_cmp move_cmp_total ms ns h.ascends k.ascends (λ m c. (k.has m).1 ((h.has m).0 c)) (λ m c. (h.has m).1 ((k.has m).0 c))

pub move_list_is : (p : State) (ms : List Move) → IsMoveList p ms → ms ≡ moves_of p
move_list_is p ms h = one_move_list p ms (moves_of p) h (moves_of_is p)

-- 3 a list in the making: the legal moves of the places below n

pub list_start : (p : State) → IsListBelow p 0 []
list_start p = record { ascends = sorted_none move_cmp; are = λ m h. absurd (Contains-none m h); has = λ m l h. absurd (omega arith) }

pub list_push : (p : State) (n : ℕ) (ms : List Move) (m : Move) → IsListBelow p n ms → IsLegal p m → place m ≡ n → IsListBelow p (n + 1) (ms ++ m ∷ [])
list_push p n ms m h l e = record {
  ascends = sorted_push move_cmp ms m h.ascends (λ x c. let r : IsLegal p x × (place x < n) = h.are x c in let low : place x < n = r.1 in place_less x m (on_board p x r.0).1 (on_board p m l).1 (omega arith));
  are = λ x c. elim (Contains-push_cases ms m x c) [
    | inl g ↦ (let r : IsLegal p x × (place x < n) = h.are x g in (r.0, (let low : place x < n = r.1 in omega arith)))
    | inr f ↦ (subst (λ z. IsLegal p z) f l, (let g : place m ≡ place x = ap place f in omega arith))
  ];
  has = λ x k low. elim (eqb_tells (place x) n) [
    | inl w ↦ subst (λ z. Contains (ms ++ m ∷ []) z) (same_place m x (on_board p m l).1 (on_board p x k).1 (e ∙ sym w.1)) (Contains-push ms m)
    | inr w ↦ Contains-append_left ms (m ∷ []) x (h.has x k (let ne : place x ≢ n = w.1 in omega arith))
  ];
}

-- places with no legal move are passed over
pub list_skip : (p : State) (n k : ℕ) (ms : List Move) → IsListBelow p n ms → n ≤ k → NoneFrom p n k → IsListBelow p k ms
list_skip p n k ms h le none = record {
  ascends = h.ascends;
  are = λ x c. (let r : IsLegal p x × (place x < n) = h.are x c in (r.0, (let low : place x < n = r.1 in omega arith)));
  has = λ x l low. elim (leb_tells n (place x)) [
    | inl w ↦ absurd (let far : k ≤ place x = none x l w.1 in omega arith)
    | inr w ↦ h.has x l w.1
  ];
}

pub list_whole : (p : State) (ms : List Move) → IsListBelow p 28672 ms → IsMoveList p ms
list_whole p ms h = record { ascends = h.ascends; has = λ m. (λ c. (h.are m c).0, λ l. h.has m l (place_low m (on_board p m l))) }

-- the next legal move is put at the end
pub list_more : (p : State) (low : ℕ) (ms : List Move) (m : Move) → IsListBelow p low ms → IsFirstMove p low 28672 m → IsListBelow p (place m + 1) (ms ++ m ∷ [])
list_more p low ms m h first = list_push p (place m) ms m (list_skip p low (place m) ms h first.from_low first.first) first.legal refl

-- a refusal is not told apart from another
pub if_err : {A E P : Type 0} (r : Result A E) → P → IfErr r (λ _. P)
if_err (Ok v) h = tt
if_err (Err e) h = h

-- where no legal move is left the list is whole
pub list_end : (p : State) (low : ℕ) (ms : List Move) → IsListBelow p low ms → low ≤ 28672 → NoneFrom p low 28672 → IsMoveList p ms
list_end p low ms h le none = list_whole p ms (list_skip p low 28672 ms h le none)

-- 4 no state has more than 28,672 legal moves

length_below : (n : ℕ) → length (moves_below n) ≡ n
unfolding moves_below
length_below zero = refl
length_below (suc n) = let e : length (moves_below n) ≡ n = length_below n in simp length-append (omega arith)

length_kept : {X : Type 0} (test : X → Bool) (xs : List X) → length (filter test xs) ≤ length xs
length_kept test [] = omega arith
length_kept test (x ∷ xs) = go (test x) (length_kept test xs)
  where
    go : (b : Bool) → length (filter test xs) ≤ length xs → length (cond b (x ∷ filter test xs) (filter test xs)) ≤ length (x ∷ xs)
    go true h = omega arith
    go false h = omega arith

pub few_moves : (p : State) → length (moves_of p) ≤ 28672
unfolding moves_of all_moves
few_moves p = let h : length (filter (λ m. is_yes (dec_legal p m)) (moves_below 28672)) ≤ length (moves_below 28672) = length_kept (λ m. is_yes (dec_legal p m)) (moves_below 28672) in let e : length (moves_below 28672) ≡ 28672 = length_below 28672 in omega arith
