-- A certificate that fits proves that the list is complete.
use Rattle.pg_checker.proofs.Common.{◌≡◌, ℕ, zero, suc, ◌+◌, ◌<◌, ◌⊎◌, Bool, true, false, ◌||◌, List, [], ◌∷◌, ◌++◌, length, Some, slice_get, slice_index_or, Contains, refl, sym, ◌∙◌, subst, inl, inr, ⊎_elim, arith, append_assoc, append-nil, Tree, Trees, Leaf, Empty, First, Entry, Rules, EndsOnGoal, Fits, FitAll, fertile, any_fertile, closed, closed_all, entry, IsRight, FitFrom, count, IsComplete, IsCertificate}
use Rattle.pg_checker.specs.Tree.{Expand, Cut, Ref, Priced, Barren}

contains_at : {X : Type 0} (x y : X) (xs : List X) (i : ℕ) → i < length (x ∷ xs) → slice_index_or (x ∷ xs) i y ≡ y → (x ≡ y) ⊎ Contains xs y
contains_at x y xs zero h e = inl e
contains_at x y xs (suc i) h e = inr (i, omega arith, e)

pub contains_cases : {X : Type 0} (x y : X) (xs : List X) → Contains (x ∷ xs) y → (x ≡ y) ⊎ Contains xs y
contains_cases x y xs c = contains_at x y xs c.0 c.1 c.2

pub contains_none : {X : Type 0} (y : X) → Contains [] y → ⊥
contains_none y c = absurd (omega (arith, c.1))

pub contains_next : {X : Type 0} (x y : X) (xs : List X) → Contains xs y → Contains (x ∷ xs) y
contains_next x y xs c = (suc c.0, omega (arith, c.1), c.2)

pub contains_first : {X : Type 0} (x : X) (xs : List X) → Contains (x ∷ xs) x
contains_first x xs = (0, omega arith, refl)

pub or_left : (a b : Bool) → (a || b) ≡ false → a ≡ false
or_left false b h = refl
or_left true b h = absurd (cc)

pub or_right : (a b : Bool) → (a || b) ≡ false → b ≡ false
or_right false b h = h
or_right true b h = absurd (cc)

module _ {P M : Type 0} (r : Rules P M) (Met : P → Type 0) where
  -- an entry is of a position that is met, and one that is not fertile is barren
  abbrev pub IsTold : Entry P → Type 0
  IsTold e = Met e.position × (e.fertile ≡ false → Barren r e.plies e.position)

  abbrev pub AllTold : List (Entry P) → Type 0
  AllTold [] = Unit {0}
  AllTold (e ∷ es) = IsTold e × AllTold es

  told_append : (es ds : List (Entry P)) → AllTold es → AllTold ds → AllTold (es ++ ds)
  told_append [] ds a b = b
  told_append (e ∷ es) ds a b = (a.0, told_append es ds a.1 b)

  told_at : (es : List (Entry P)) (i : ℕ) (e : Entry P) → AllTold es → slice_get es i ≡ Some e → IsTold e
  told_at [] i e a h = absurd (cc)
  told_at (d ∷ es) zero e a h = let same : d ≡ e = cc in subst IsTold same a.0
  told_at (d ∷ es) (suc i) e a h = told_at es i e a.1 h

  told_entry : (is_named : Bool) (k : ℕ) (p : P) (f : Bool) → Met p → (f ≡ false → Barren r k p) → AllTold (entry r is_named k p f)
  told_entry true k p f met h = ((met, h), tt)
  told_entry false k p f met h = tt

  -- what a tree that fits proves at its place
  record Good (n k : ℕ) (g : List M) (p : P) (t : Tree) : Type 0 where
    games : (ms : List M) → EndsOnGoal r k p ms → (n ≡ r.plies) × (r.is_listed (g ++ ms) ≡ true)
    barren : fertile r p t ≡ false → Barren r k p
    told : AllTold (closed r k p t)

  record GoodAll (n k : ℕ) (g : List M) (p : P) (next : List M) (ts : Trees) : Type 0 where
    games : (m : M) (ms : List M) → Contains next m → EndsOnGoal r k (r.play p m) ms → (n ≡ r.plies) × (r.is_listed (g ++ (m ∷ ms)) ≡ true)
    barren : any_fertile r p next ts ≡ false → (m : M) → Contains next m → Barren r k (r.play p m)
    told : AllTold (closed_all r k p next ts)

  from_barren : (n k : ℕ) (g : List M) (p : P) → Barren r k p → (ms : List M) → EndsOnGoal r k p ms → (n ≡ r.plies) × (r.is_listed (g ++ ms) ≡ true)
  from_barren n k g p b ms h = absurd (b ms h)

  leaf_games : (n : ℕ) (g : List M) (p : P) (es : List (Entry P)) → Fits r n zero g p es Leaf → (ms : List M) → EndsOnGoal r zero p ms → (n ≡ r.plies) × (r.is_listed (g ++ ms) ≡ true)
  leaf_games n g p es fit [] h = ((fit h).0, rw append-nil (fit h).1)
  leaf_games n g p es fit (m ∷ ms) h = absurd h

  leaf_barren : (p : P) → r.is_goal p ≡ false → Barren r zero p
  leaf_barren p f [] h = absurd (cc)
  leaf_barren p f (m ∷ ms) h = h

  step_games : (n k : ℕ) (g : List M) (p : P) (ts : Trees) → GoodAll n k g p (r.moves p) ts → (ms : List M) → EndsOnGoal r (suc k) p ms → (n ≡ r.plies) × (r.is_listed (g ++ ms) ≡ true)
  step_games n k g p ts good [] h = absurd h
  step_games n k g p ts good (m ∷ ms) h = good.games m ms h.0 h.1

  step_barren : (n k : ℕ) (g : List M) (p : P) (ts : Trees) → GoodAll n k g p (r.moves p) ts → any_fertile r p (r.moves p) ts ≡ false → Barren r (suc k) p
  step_barren n k g p ts good f [] h = h
  step_barren n k g p ts good f (m ∷ ms) h = good.barren f m h.0 ms h.1

  module _ (right : IsRight r Met) where
    -- the children, if each subtree that fits is good
    good_all : (n k : ℕ) → ((g : List M) (p : P) (es : List (Entry P)) (t : Tree) → Met p → AllTold es → Fits r n k g p es t → Good n k g p t)
        → (g : List M) (p : P) (next : List M) (es : List (Entry P)) (ts : Trees) → ((m : M) → Contains next m → Met (r.play p m)) → AllTold es → FitAll r n k g p next es ts → GoodAll n k g p next ts
    good_all n k ih g p [] es Empty met a fit = record { games = λ m ms c h. absurd (contains_none m c); barren = λ f m c. absurd (contains_none m c); told = tt }
    good_all n k ih g p (m ∷ next) es Empty met a fit = absurd fit
    good_all n k ih g p [] es (First t ts) met a fit = absurd fit
    good_all n k ih g p (m ∷ next) es (First t ts) met a fit =
        let one = ih (g ++ (m ∷ [])) (r.play p m) es t (met m (contains_first m next)) a fit.0 in
        let others = good_all n k ih g p next (es ++ closed r k (r.play p m) t) ts (λ l c. met l (contains_next m l next c)) (told_append es (closed r k (r.play p m) t) a one.told) fit.1 in
        record {
          games = λ l ms c h. ⊎_elim (λ e. let here : EndsOnGoal r k (r.play p m) ms = subst (λ (x : M). EndsOnGoal r k (r.play p x) ms) (sym e) h in
              let got = one.games ms here in
              (got.0, subst (λ (x : M). r.is_listed (g ++ (x ∷ ms)) ≡ true) e (rw append_assoc at got.1)))
              (λ d. others.games l ms d h) (contains_cases m l next c);
          barren = λ f l c. ⊎_elim (λ e. subst (λ (x : M). Barren r k (r.play p x)) e (one.barren (or_left (fertile r (r.play p m) t) (any_fertile r p next ts) f)))
              (λ d. others.barren (or_right (fertile r (r.play p m) t) (any_fertile r p next ts) f) l d) (contains_cases m l next c);
          told = told_append (closed r k (r.play p m) t) (closed_all r k p next ts) one.told others.told;
        }

    good : (n k : ℕ) (g : List M) (p : P) (es : List (Entry P)) (t : Tree) → Met p → AllTold es → Fits r n k g p es t → Good n k g p t
    good n zero g p es Leaf met a fit = record { games = leaf_games n g p es fit; barren = leaf_barren p; told = tt }
    good n zero g p es (Expand is_named ts) met a fit = absurd fit
    good n zero g p es (Cut code) met a fit = absurd fit
    good n zero g p es (Priced code color prices) met a fit = absurd fit
    good n zero g p es (Ref number) met a fit = absurd fit
    good n (suc k) g p es Leaf met a fit = absurd fit
    good n (suc k) g p es (Cut code) met a fit =
        let b = right.cut code (suc k) p met fit.1 in
        record { games = from_barren n (suc k) g p b; barren = λ _. b; told = tt }
    good n (suc k) g p es (Priced code color prices) met a fit =
        let b = right.priced code color prices (suc k) p met fit.1 in
        record { games = from_barren n (suc k) g p b; barren = λ _. b; told = tt }
    good n (suc k) g p es (Ref number) met a fit =
        let f = fit.1 in
        let e = f.0 in
        let told = told_at es number e a f.1 in
        let b : Barren r (suc k) p = right.same (suc k) e.position p told.0 met f.2 (subst (λ (x : ℕ). Barren r x e.position) f.3 (told.1 f.4)) in
        record { games = from_barren n (suc k) g p b; barren = λ _. b; told = tt }
    good n (suc k) g p es (Expand is_named ts) met a fit =
        let all = good_all n k (good n k) g p (r.moves p) es ts (λ m c. right.next p m met c) a fit in
        record {
          games = step_games n k g p ts all;
          barren = step_barren n k g p ts all;
          told = told_append (closed_all r k p (r.moves p) ts) (entry r is_named (suc k) p (any_fertile r p (r.moves p) ts)) all.told
              (told_entry is_named (suc k) p (any_fertile r p (r.moves p) ts) met (step_barren n k g p ts all));
        }

    -- from length n on, with the trees that are left
    from : (n : ℕ) (p : P) (es : List (Entry P)) (ts : Trees) → Met p → AllTold es → FitFrom r n p es ts → (m : ℕ) (ms : List M) → n < suc m → m < n + count r ts → EndsOnGoal r m p ms → (m ≡ r.plies) × (r.is_listed ms ≡ true)
    from n p es Empty met a fit m ms low high h = absurd (omega arith)
    from n p es (First t ts) met a fit m ms low high h =
        let one = good n n [] p es t met a fit.0 in
        ⊎_elim (λ (e : n ≡ m). let here : EndsOnGoal r n p ms = subst (λ (x : ℕ). EndsOnGoal r x p ms) (sym e) h in
        let got = one.games ms here in (sym e ∙ got.0, got.1))
        (λ (l : suc n < suc m). from (suc n) p (es ++ closed r n p t) ts met (told_append es (closed r n p t) a one.told) fit.1 m ms l (omega arith) h)
        (let split : (n ≡ m) ⊎ (suc n < suc m) = grind arith in split)

    pub complete : (p : P) (ts : Trees) → Met p → IsCertificate r p ts → IsComplete r p
    complete p ts met fit n ms low h = from 0 p [] ts met tt fit.1 n ms (omega arith) (omega (arith, fit.0)) h
