-- Ways by one more column, after Floyd and Warshall. Leads to the contracts of ways.
use Rattle.pg_assignments.proofs.Common.{◌≡◌, ◌≢◌, ℕ, ◌+◌, ◌*◌, ◌<◌, ◌≤◌, ◌⊎◌, inl, inr, List, [], length, get_or, sym, ap, subst, arith, eqb_tells, nth, at2, AreFirstKeys, IsNearer, IsNearerRow, AreNearer, AreWays}

-- ---- ways of one step
-- the first n rows
abbrev pub AreBegun : List (List ℕ) → List ℕ → ℕ → List (List ℕ) → Type 0
AreBegun slacks owner n keys = (q : ℕ) → q < n → AreFirstKeys (get_or slacks (nth owner q) []) q (get_or keys q [])

-- ---- a row by a column
-- the first n keys are read, the others are as they were
pub record IsLowered (old middle : List ℕ) (rest : ℕ) (keys : List ℕ) (n : ℕ) : Type 0 where
  pub long : length keys ≡ 16
  pub done : IsNearerRow old middle rest keys n
  pub left : (t : ℕ) → n ≤ t → nth keys t ≡ nth old t

-- ---- rows by a column
-- the rows from `first` on and before q are read, the others are as they were
pub record IsGoing (first m : ℕ) (middle : List ℕ) (old keys : List (List ℕ)) (q : ℕ) : Type 0 where
  pub from : first ≤ q
  pub long : length keys ≡ length old
  pub done : (r : ℕ) → first ≤ r → r < q → IsNearerRow (get_or old r []) middle (at2 old r m) (get_or keys r []) 16
  pub before : (r : ℕ) → r < first → get_or keys r [] ≡ get_or old r []
  pub after : (r : ℕ) → q ≤ r → get_or keys r [] ≡ get_or old r []

-- ---- what a column more keeps
-- a way in two parts is no shorter than the way, where each part may have become one by the new column
parts : (a b c d x e f y g h : ℕ) → a ≤ b → a ≤ c + d → b ≤ e + g → c ≤ f + g → d ≤ e + h → ((x ≡ e) ⊎ (x ≡ f + d)) → ((y ≡ g) ⊎ (y ≡ c + h)) → a ≤ x + y
parts a b c d x e f y g h l m n o p (inl s) (inl t) = omega arith
parts a b c d x e f y g h l m n o p (inl s) (inr t) = omega arith
parts a b c d x e f y g h l m n o p (inr s) (inl t) = omega arith
parts a b c d x e f y g h l m n o p (inr s) (inr t) = omega arith

-- the same by the new column itself, from which no way leads to itself
parts_there : (a c d x y z : ℕ) → a ≤ c + d → z ≡ 0 → ((x ≡ d) ⊎ (x ≡ z + d)) → ((y ≡ c) ⊎ (y ≡ c + z)) → a ≤ x + y
parts_there a c d x y z l e (inl s) (inl t) = omega arith
parts_there a c d x y z l e (inl s) (inr t) = omega arith
parts_there a c d x y z l e (inr s) (inl t) = omega arith
parts_there a c d x y z l e (inr s) (inr t) = omega arith

pub ways_next : (slacks : List (List ℕ)) (owner : List ℕ) (n m k : ℕ) (old new : List (List ℕ)) → k ≡ m + 1 → m < n → n ≤ 16 → AreNearer m old new n → AreWays slacks owner n m old → AreWays slacks owner n k new
ways_next slacks owner n m k old new e lm few near w = record {
  low = λ q l t h. (let a : at2 new q t ≤ at2 old q t = (near q l t h).0 in let b : at2 old q t ≤ 65535 = w.low q l t h in omega arith);
  own = λ q l. (let a : at2 new q q ≤ at2 old q q = (near q l q (omega arith)).0 in let b : at2 old q q ≡ 0 = w.own q l in omega arith);
  step = λ q t l h. (let a : at2 new q t ≤ at2 old q t = (near q l t (omega arith)).0 in let b : at2 old q t ≤ 16 * at2 slacks (nth owner q) t + 1 = w.step q t l h in omega arith);
  via = λ q t r l h lr. elim (eqb_tells r m) [
    | inl x ↦ subst (λ (b : ℕ). at2 new q t ≤ at2 new q b + at2 new b t) (sym x.1)
        (parts_there (at2 new q t) (at2 old m t) (at2 old q m) (at2 new q m) (at2 new m t) (at2 old m m) (at q t l h).1 (w.own m lm) (at q m l lm).2 (at m t lm h).2)
    | inr x ↦ (let ne : r ≢ m = x.1 in via q t r l h (omega arith))
  ];
  leads = λ q t l h ne small. leads q t l h ne small (at q t l h).2;
}
  where
    at : (q t : ℕ) → q < n → t < n → IsNearer (at2 old q t) (at2 old m t) (at2 old q m) (at2 new q t)
    at q t l h = near q l t (omega arith)

    via : (q t r : ℕ) → q < n → t < n → r < m → at2 new q t ≤ at2 new q r + at2 new r t
    via q t r l h lr =
        let ln : r < n = omega arith in
        parts (at2 new q t) (at2 old q t) (at2 old m t) (at2 old q m) (at2 new q r) (at2 old q r) (at2 old m r) (at2 new r t) (at2 old r t) (at2 old r m)
        (at q t l h).0 (at q t l h).1 (w.via q t r l h lr) (w.via m t r lm h lr) (w.via q m r l lm lr) (at q r l ln).2 (at r t ln h).2

    on : (q t : ℕ) → q < n → t < n → q ≢ t → at2 old q t < 65535 → at2 new q t ≡ at2 old q t → (p : ℕ) × (p < n) × (16 * at2 slacks (nth owner q) p + 1 + at2 new p t ≤ at2 new q t)
    on q t l h ne small same =
        let g : (p : ℕ) × (p < n) × (16 * at2 slacks (nth owner q) p + 1 + at2 old p t ≤ at2 old q t) = w.leads q t l h ne small in
        let a : 16 * at2 slacks (nth owner q) g.0 + 1 + at2 old g.0 t ≤ at2 old q t = g.2 in
        let b : at2 new g.0 t ≤ at2 old g.0 t = (at g.0 t g.1 h).0 in
        (g.0, g.1, omega arith)

    leads : (q t : ℕ) → q < n → t < n → q ≢ t → at2 new q t < 65535 → ((at2 new q t ≡ at2 old q t) ⊎ (at2 new q t ≡ at2 old m t + at2 old q m)) → (p : ℕ) × (p < n) × (16 * at2 slacks (nth owner q) p + 1 + at2 new p t ≤ at2 new q t)
    leads q t l h ne small (inl same) = on q t l h ne (omega arith) same
    leads q t l h ne small (inr two) = elim (eqb_tells q m) [
      | inl x ↦ (
          let z : at2 old m m ≡ 0 = w.own m lm in
          let f : at2 old q m ≡ at2 old m m = ap (λ (b : ℕ). at2 old b m) x.1 in
          let g : at2 old q t ≡ at2 old m t = ap (λ (b : ℕ). at2 old b t) x.1 in
          on q t l h ne (omega arith) (omega arith))
      | inr x ↦ (
          let g : (p : ℕ) × (p < n) × (16 * at2 slacks (nth owner q) p + 1 + at2 old p m ≤ at2 old q m) = w.leads q m l lm x.1 (omega arith) in
          let a : 16 * at2 slacks (nth owner q) g.0 + 1 + at2 old g.0 m ≤ at2 old q m = g.2 in
          let b : at2 new g.0 t ≤ at2 old m t + at2 old g.0 m = (at g.0 t g.1 h).1 in
          (g.0, g.1, omega arith))
    ]
