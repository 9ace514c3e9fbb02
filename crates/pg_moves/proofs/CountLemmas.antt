-- The games of k plies, as a list, and their number.
use Rattle.pg_moves.proofs.Common.{◌≡◌, ℕ, zero, suc, ◌+◌, ◌-◌, ◌<◌, ◌≤◌, ◌^◌, inl, inr, List, [], ◌∷◌, ◌++◌, length, length-append, map, take, get_or, refl, sym, ap, ap₂, subst, arith, ◌∙◌, Contains, sum_by, Less, Equal, IsStrictlySortedBy, tied_itself, sum_by_more, sum_by_more_le, sum_by-cons, Contains-append_left, Contains-append_right, Contains-append_cases, State, Move, IsPosition, Legal, IsLegal, legal_position, move_cmp, IsMoveList, IsFollowed, IsGameOf, IsGameList, IsGameCount, IsCountFault}
use Rattle.std.proofs.lemmas.List.{length-map, take_all}
use Rattle.pg_position.specs.Game.{IsGame, IsOnce}
use Rattle.pg_moves.specs.declared.fault.CountFault.{CountFault}
use Rattle.pg_moves.specs.declared.fault.CountFault.TheVariants.{TooDeep, Overflow, Memory}
use Rattle.pg_moves.proofs.SortLemmas.{Contains-head, Contains-later, Contains-cons, Contains-none, sorted_below, sorted_rest}
use Rattle.pg_moves.proofs.PlaceLemmas.{move_cmp_total}
use Rattle.pg_moves.proofs.ListLemmas.{moves_of, moves_of_is, move_list_is}
use Rattle.pg_moves.proofs.PlayLemmas.{play_of, play_of_legal, play_of_is}

-- ---- lists in which each element stands once
module _ {A : Type 0} where
  parts : (ys : List A) (x : A) → Contains ys x → (before : List A) × (behind : List A) × (ys ≡ before ++ x ∷ behind)
  parts [] x h = absurd (Contains-none x h)
  parts (y ∷ ys) x h = elim (Contains-cons y x ys h) [
    | inl e ↦ ([], ys, ap (λ w. w ∷ ys) e)
    | inr g ↦ (let r : (before : List A) × (behind : List A) × (ys ≡ before ++ x ∷ behind) = parts ys x g in (y ∷ r.0, r.1, ap (λ w. y ∷ w) r.2))
  ]

  -- a list whose elements, each once, stand in another is no longer
  no_longer : (xs ys : List A) → IsOnce xs → ((z : A) → Contains xs z → Contains ys z) → length xs ≤ length ys
  unfolding IsOnce
  no_longer [] ys s to = omega arith
  no_longer (x ∷ xs) ys s to =
      let r : (before : List A) × (behind : List A) × (ys ≡ before ++ x ∷ behind) = parts ys x (to x (Contains-head x xs)) in
      let sub : (z : A) → Contains xs z → Contains (r.0 ++ r.1) z = (λ z h. elim (Contains-append_cases r.0 (x ∷ r.1) z (subst (λ w. Contains w z) r.2 (to z (Contains-later x z xs h)))) [
        | inl g ↦ Contains-append_left r.0 r.1 z g
        | inr g ↦ elim (Contains-cons x z r.1 g) [
          | inl f ↦ absurd (s.0 (subst (λ w. Contains xs w) (sym f) h))
          | inr k ↦ Contains-append_right r.0 r.1 z k
        ]
      ]) in
      let short : length xs ≤ length (r.0 ++ r.1) = no_longer xs (r.0 ++ r.1) s.1 sub in
      let whole : length ys ≡ length (r.0 ++ x ∷ r.1) = ap length r.2 in
      omega (arith, length-append r.0 r.1, length-append r.0 (x ∷ r.1))

  once_append : (xs ys : List A) → IsOnce xs → IsOnce ys → ((z : A) → Contains xs z → ¬ Contains ys z) → IsOnce (xs ++ ys)
  unfolding IsOnce
  once_append [] ys s t apart = t
  once_append (x ∷ xs) ys s t apart = (
    λ h. elim (Contains-append_cases xs ys x h) [ inl g ↦ s.0 g | inr g ↦ apart x (Contains-head x xs) g ],
    once_append xs ys s.1 t (λ z h. apart z (Contains-later x z xs h)),
  )

-- a move list has each move once
never : (x : Move) → move_cmp x x ≡ Less → ⊥
never x h = let e : move_cmp x x ≡ Equal = tied_itself move_cmp_total x in let f : Less ≡ Equal = sym h ∙ e in cc

once_sorted : (ms : List Move) → IsStrictlySortedBy move_cmp ms → IsOnce ms
unfolding IsOnce
once_sorted [] s = tt
once_sorted (m ∷ ms) s = (λ h. never m (sorted_below move_cmp m m ms s h), once_sorted ms (sorted_rest move_cmp m ms s))

-- ---- the games that begin with the moves of a list
unfoldable pub put_before : Move → List (List Move) → List (List Move)
put_before m games = map (λ g. m ∷ g) games

before_has : (m : Move) (games : List (List Move)) (g : List Move) → Contains (put_before m games) g → (h : List Move) × (g ≡ m ∷ h) × Contains games h
unfolding put_before
before_has m [] g c = absurd (Contains-none g c)
before_has m (x ∷ games) g c = elim (Contains-cons (m ∷ x) g (put_before m games) c) [
  | inl e ↦ (x, sym e, Contains-head x games)
  | inr d ↦ (let r : (h : List Move) × (g ≡ m ∷ h) × Contains games h = before_has m games g d in (r.0, r.1, Contains-later x r.0 games r.2))
]

before_put : (m : Move) (games : List (List Move)) (h : List Move) → Contains games h → Contains (put_before m games) (m ∷ h)
unfolding put_before
before_put m [] h c = absurd (Contains-none h c)
before_put m (x ∷ games) h c = elim (Contains-cons x h games c) [
  | inl e ↦ subst (λ w. Contains (put_before m (x ∷ games)) (m ∷ w)) e (Contains-head (m ∷ x) (put_before m games))
  | inr d ↦ Contains-later (m ∷ x) (m ∷ h) (put_before m games) (before_put m games h d)
]

before_once : (m : Move) (games : List (List Move)) → IsOnce games → IsOnce (put_before m games)
unfolding put_before IsOnce
before_once m [] s = tt
before_once m (x ∷ games) s = (
  λ c. (let r : (h : List Move) × (m ∷ x ≡ m ∷ h) × Contains games h = before_has m games (m ∷ x) c in let same : r.0 ≡ x = (let e : m ∷ x ≡ m ∷ r.0 = r.1 in cc) in s.0 (subst (λ w. Contains games w) same r.2)),
  before_once m games s.1,
)

module _ (G : Move → List (List Move)) where
  unfoldable pub level : List Move → List (List Move)
  level [] = []
  level (m ∷ ms) = put_before m (G m) ++ level ms

  level_has : (ms : List Move) (g : List Move) → Contains (level ms) g → (m : Move) × (h : List Move) × Contains ms m × (g ≡ m ∷ h) × Contains (G m) h
  unfolding level
  level_has [] g c = absurd (Contains-none g c)
  level_has (m ∷ ms) g c = elim (Contains-append_cases (put_before m (G m)) (level ms) g c) [
    | inl d ↦ (let r : (h : List Move) × (g ≡ m ∷ h) × Contains (G m) h = before_has m (G m) g d in (m, r.0, Contains-head m ms, r.1, r.2))
    | inr d ↦ (let r : (n : Move) × (h : List Move) × Contains ms n × (g ≡ n ∷ h) × Contains (G n) h = level_has ms g d in (r.0, r.1, Contains-later m r.0 ms r.2, r.3, r.4))
  ]

  level_put : (ms : List Move) (m : Move) (h : List Move) → Contains ms m → Contains (G m) h → Contains (level ms) (m ∷ h)
  unfolding level
  level_put [] m h c d = absurd (Contains-none m c)
  level_put (n ∷ ms) m h c d = elim (Contains-cons n m ms c) [
    | inl e ↦ Contains-append_left (put_before n (G n)) (level ms) (m ∷ h) (subst (λ w. Contains (put_before w (G w)) (m ∷ h)) (sym e) (before_put m (G m) h d))
    | inr f ↦ Contains-append_right (put_before n (G n)) (level ms) (m ∷ h) (level_put ms m h f d)
  ]

  level_once : (ms : List Move) → IsOnce ms → ((m : Move) → Contains ms m → IsOnce (G m)) → IsOnce (level ms)
  unfolding level IsOnce
  level_once [] s each = tt
  level_once (m ∷ ms) s each = once_append (put_before m (G m)) (level ms) (before_once m (G m) (each m (Contains-head m ms))) (level_once ms s.1 (λ n c. each n (Contains-later m n ms c)))
      (λ z c d. (let a : (h : List Move) × (z ≡ m ∷ h) × Contains (G m) h = before_has m (G m) z c in
      let b : (n : Move) × (h : List Move) × Contains ms n × (z ≡ n ∷ h) × Contains (G n) h = level_has ms z d in
      let same : b.0 ≡ m = (let e : z ≡ m ∷ a.0 = a.1 in let f : z ≡ b.0 ∷ b.1 = b.3 in cc) in
      s.0 (subst (λ w. Contains ms w) same b.2)))

  level_length : (ms : List Move) → length (level ms) ≡ sum_by (λ m. length (G m)) ms
  unfolding level put_before
  level_length [] = refl
  level_length (m ∷ ms) = length-append (put_before m (G m)) (level ms) ∙ ap₂ (λ (x y : ℕ). x + y) (length-map (G m) (λ g. m ∷ g)) (level_length ms) ∙ sym (sum_by-cons (λ n. length (G n)) m ms)

-- ---- all games of k plies
unfoldable pub games_of : ℕ → State → List (List Move)
games_of zero p = [] ∷ []
games_of (suc k) p = level (λ m. games_of k (play_of p m)) (moves_of p)

no_plies : (p : State) → IsGameList p 0 ([] ∷ [])
unfolding IsOnce
no_plies p = record {
  once = (λ c. Contains-none [] c, tt);
  has = λ ms. (
    λ c. elim (Contains-cons [] ms [] c) [ inl e ↦ subst (λ (w : List Move). IsGameOf p 0 w) e (refl, (p, refl)) | inr d ↦ absurd (Contains-none ms d) ],
    λ g. none ms g,
  );
}
  where
    none : (ms : List Move) → IsGameOf p 0 ms → Contains ([] ∷ []) ms
    none [] g = Contains-head [] []
    none (m ∷ ms) g = absurd (let e : length (m ∷ ms) ≡ 0 = g.0 in omega arith)

next_plies : (p : State) (k : ℕ) → IsPosition p → ((m : Move) → IsLegal p m → IsGameList (play_of p m) k (games_of k (play_of p m))) → IsGameList p (suc k) (level (λ m. games_of k (play_of p m)) (moves_of p))
next_plies p k pos each = record {
  once = level_once (λ m. games_of k (play_of p m)) (moves_of p) (once_sorted (moves_of p) (moves_of_is p).ascends) (λ m c. (each m (((moves_of_is p).has m).0 c)).once);
  has = λ ms. (λ c. forth ms (level_has (λ m. games_of k (play_of p m)) (moves_of p) ms c), λ g. back ms g);
}
  where
    forth : (ms : List Move) → ((m : Move) × (h : List Move) × Contains (moves_of p) m × (ms ≡ m ∷ h) × Contains (games_of k (play_of p m)) h) → IsGameOf p (suc k) ms
    forth ms (m, h, c, e, d) =
        let legal : IsLegal p m = ((moves_of_is p).has m).0 c in
        let rest : IsGameOf (play_of p m) k h = ((each m legal).has h).0 d in
        subst (λ (w : List Move). IsGameOf p (suc k) w) (sym e) (ap suc rest.0, (rest.1.0, (play_of p m, play_of_legal p m legal, rest.1.1)))

    back : (ms : List Move) → IsGameOf p (suc k) ms → Contains (level (λ m. games_of k (play_of p m)) (moves_of p)) ms
    back [] g = absurd (let e : length {A = Move} [] ≡ suc k = g.0 in omega arith)
    back (m ∷ ms) (long, (r, (q, legal, rest))) =
        let e : play_of p m ≡ q = play_of_is p m q pos legal in
        let moved : IsGame (play_of p m) ms r = subst (λ (x : State). IsGame x ms r) (sym e) rest in
        let shorter : length ms ≡ k = (let f : suc (length ms) ≡ suc k = long in omega arith) in
        level_put (λ m. games_of k (play_of p m)) (moves_of p) m ms (((moves_of_is p).has m).1 (q, legal)) (((each m (q, legal)).has ms).1 (shorter, (r, moved)))

pub games_of_is : (k : ℕ) (p : State) → IsPosition p → IsGameList p k (games_of k p)
unfolding games_of
games_of_is zero p pos = no_plies p
games_of_is (suc k) p pos = next_plies p k pos (λ m l. games_of_is k (play_of p m) (legal_position p m (play_of p m) pos (play_of_legal p m l)))

-- their number
unfoldable pub number_of : ℕ → State → ℕ
number_of k p = length (games_of k p)

pub number_more : (k : ℕ) (p : State) → number_of (suc k) p ≡ sum_by (λ m. number_of k (play_of p m)) (moves_of p)
unfolding number_of games_of
number_more k p = level_length (λ m. games_of k (play_of p m)) (moves_of p)

pub number_is : (k : ℕ) (p : State) → IsPosition p → IsGameCount p k (number_of k p)
unfolding IsGameCount number_of
number_is k p pos = (games_of k p, games_of_is k p pos, refl)

pub one_count : (p : State) (k m n : ℕ) → IsGameCount p k m → IsGameCount p k n → m ≡ n
unfolding IsGameCount
one_count p k m n (gs, g, e) (hs, h, f) =
    let a : length gs ≤ length hs = no_longer gs hs g.once (λ z c. (h.has z).1 ((g.has z).0 c)) in
    let b : length hs ≤ length gs = no_longer hs gs h.once (λ z c. (g.has z).1 ((h.has z).0 c)) in
    omega arith

pub count_is : (p : State) (k n : ℕ) → IsPosition p → IsGameCount p k n → n ≡ number_of k p
count_is p k n pos h = one_count p k n (number_of k p) h (number_is k p pos)

pub count_none : (p : State) (k : ℕ) → k ≡ 0 → IsGameCount p k 1
unfolding IsGameCount
count_none p k e = ([] ∷ [], subst (λ j. IsGameList p j ([] ∷ [])) (sym e) (no_plies p), refl)

sum_same : (f g : Move → ℕ) (ms : List Move) → ((m : Move) → Contains ms m → f m ≡ g m) → sum_by f ms ≡ sum_by g ms
sum_same f g [] h = refl
sum_same f g (m ∷ ms) h =
    let a : f m ≡ g m = h m (Contains-head m ms) in
    let b : sum_by f ms ≡ sum_by g ms = sum_same f g ms (λ n c. h n (Contains-later m n ms c)) in
    omega (arith, sum_by-cons f m ms, sum_by-cons g m ms)

pub count_more : (p : State) (k : ℕ) (ms : List Move) (after : Move → State) (games : Move → ℕ) → IsPosition p → IsMoveList p ms → ((m : Move) → Contains ms m → IsFollowed p k m (after m) (games m)) → IsGameCount p (k + 1) (sum_by games ms)
count_more p k ms after games pos list each =
    let e : ms ≡ moves_of p = move_list_is p ms list in
    let one : (m : Move) → Contains ms m → games m ≡ number_of k (play_of p m) = (λ m c. (
    let r : IsFollowed p k m (after m) (games m) = each m c in
    let there : IsPosition (after m) = legal_position p m (after m) pos r.legal in
    count_is (after m) k (games m) there r.games ∙ ap (number_of k) (sym (play_of_is p m (after m) pos r.legal)))) in
    let sum : sum_by games ms ≡ number_of (suc k) p = sum_same games (λ m. number_of k (play_of p m)) ms one ∙ ap (sum_by (λ m. number_of k (play_of p m))) e ∙ sym (number_more k p) in
    let plies : suc k ≡ k + 1 = omega arith in
    subst (λ (n : ℕ). IsGameCount p (k + 1) n) (sym sum) (subst (λ (j : ℕ). IsGameCount p j (number_of (suc k) p)) plies (number_is (suc k) p pos))

-- ---- a count on its way
-- how many games of j plies follow a move
unfoldable pub follow : State → ℕ → Move → ℕ
follow p j m = number_of j (play_of p m)

pub one_less : (k : ℕ) → 2 ≤ k → suc (k - 1) ≡ k
one_less k some = omega arith

module _ (p : State) (k j : ℕ) (ms : List Move) (pos : IsPosition p) (list : IsMoveList p ms) (less : suc j ≡ k) where
  pub whole : sum_by (follow p j) ms ≡ number_of k p
  unfolding follow
  whole = ap (sum_by (follow p j)) (move_list_is p ms list) ∙ sym (number_more j p) ∙ ap (λ i. number_of i p) less

  pub follow_is : (m : Move) (q : State) (n : ℕ) → Legal p m q → IsGameCount q j n → n ≡ follow p j m
  unfolding follow
  follow_is m q n legal h = count_is q j n (legal_position p m q pos legal) h ∙ ap (number_of j) (sym (play_of_is p m q pos legal))

  pub count_whole : (i total : ℕ) → total ≡ sum_by (follow p j) (take i ms) → length ms ≤ i → IsGameCount p k total
  count_whole i total e end =
      let all : take i ms ≡ ms = take_all i ms end in
      let is : number_of k p ≡ total = sym whole ∙ ap (sum_by (follow p j)) (sym all) ∙ sym e in
      subst (λ (n : ℕ). IsGameCount p k n) is (number_is k p pos)

  -- too many games after a part of the moves
  pub over : (i : ℕ) (m : Move) (total n : ℕ) → i < length ms → get_or ms i m ≡ m → total ≡ sum_by (follow p j) (take i ms) → n ≡ follow p j m → 2 ^ 64 ≤ total + n → k ≤ 8 → IsCountFault p k Overflow
  over i m total n low at e f big few =
      let up : sum_by (follow p j) (take i ms) + follow p j (get_or ms i m) ≤ sum_by (follow p j) ms = sum_by_more_le (follow p j) ms i m low in
      let same : follow p j (get_or ms i m) ≡ follow p j m = ap (follow p j) at in
      let all : sum_by (follow p j) ms ≡ number_of k p = whole in
      (few, (number_of k p, number_is k p pos, omega arith))

  -- a fault after one of the moves is one of the whole
  pub fault_up : (e : CountFault) (i : ℕ) (m : Move) (q : State) → i < length ms → get_or ms i m ≡ m → Legal p m q → IsCountFault q j e → k ≤ 8 → IsCountFault p k e
  fault_up TooDeep i m q low at legal h few = absurd (let deep : 8 < j = h in omega arith)
  fault_up Overflow i m q low at legal h few =
      let n : ℕ = h.1.0 in
      let is : n ≡ follow p j m = follow_is m q n legal h.1.1 in
      let big : 2 ^ 64 ≤ n = h.1.2 in
      let up : sum_by (follow p j) (take i ms) + follow p j (get_or ms i m) ≤ sum_by (follow p j) ms = sum_by_more_le (follow p j) ms i m low in
      let same : follow p j (get_or ms i m) ≡ follow p j m = ap (follow p j) at in
      let all : sum_by (follow p j) ms ≡ number_of k p = whole in
      (few, (number_of k p, number_is k p pos, omega arith))
  fault_up Memory i m q low at legal h few = (let two : 2 ≤ j = h.0 in omega arith, few)

  -- the sum goes on
  pub sum_on : (i : ℕ) (m : Move) (total n sum : ℕ) → i < length ms → get_or ms i m ≡ m → total ≡ sum_by (follow p j) (take i ms) → n ≡ follow p j m → sum ≡ total + n → sum ≡ sum_by (follow p j) (take (i + 1) ms)
  sum_on i m total n sum low at e f s =
      let same : follow p j (get_or ms i m) ≡ follow p j m = ap (follow p j) at in
      let on : sum_by (follow p j) (take (i + 1) ms) ≡ sum_by (follow p j) (take i ms) + follow p j (get_or ms i m) = sum_by_more (follow p j) ms i m low in
      omega arith

-- what stands in a move list is legal
pub listed_legal : (p : State) (ms : List Move) (i : ℕ) (m : Move) → IsMoveList p ms → i < length ms → m ≡ get_or ms i m → IsLegal p m
listed_legal p ms i m list low at = (list.has m).0 (i, low, sym at)
