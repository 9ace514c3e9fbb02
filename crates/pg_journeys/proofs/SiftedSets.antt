-- Sets that loops make: the squares of a set that pass a test, and what loops add to a set.
use Rattle.pg_journeys.proofs.Common.{◌≡◌, ℕ, ◌+◌, ◌<◌, ◌⊎◌, inl, inr, Bool, true, false, cond, ◌||◌, sym, ap, subst, arith, ◌∙◌, or_left, or_right, or_cases, eq-eqb, cases_eq, cases_lt, has, IsSetOf, HasNoneFrom, IsFirstFrom, IsWithout, other_than, LedTo}

was_left : (old new o q : ℕ) → IsWithout old new o → q < 64 → has new q ≡ true → has old q ≡ true
was_left old new o q rest l h = elim (cases_eq q o) [
  | inl e ↦ absurd (let off : has new q ≡ false = rest q l ∙ ap (λ (x : Bool). cond x false (has old q)) (eq-eqb q o e) in cc)
  | inr ne ↦ sym (other_than old new o q rest l ne) ∙ h
]

-- ---- what the squares of a set lead to, gathered square by square: from those left nothing was gathered yet
pub record IsGathered (P : ℕ → ℕ → Type 0) (set left found : ℕ) : Type 0 where
  pub part : (q : ℕ) → q < 64 → has left q ≡ true → has set q ≡ true
  pub good : (t : ℕ) → t < 64 → has found t ≡ true → LedTo P set t
  pub all : (q t : ℕ) → q < 64 → t < 64 → has set q ≡ true → P q t → (has left q ≡ true) ⊎ (has found t ≡ true)

pub gather_first : (P : ℕ → ℕ → Type 0) (set found : ℕ) → HasNoneFrom found 0 → IsGathered P set set found
gather_first P set found none = record {
  part = λ q l h. h;
  good = λ t l h. absurd (let off : has found t ≡ false = none t (omega arith) l in cc);
  all = λ q t lq lt h p. inl h;
}

pub gather_next : (P : ℕ → ℕ → Type 0) (set old new o found one more : ℕ) → IsFirstFrom old 0 o → IsWithout old new o → IsSetOf one (P o) → ((q : ℕ) → has more q ≡ (has found q || has one q)) → IsGathered P set old found → IsGathered P set new more
gather_next P set old new o found one more first rest leads joined h = record {
  part = λ q l t. h.part q l (was_left old new o q rest l t);
  good = λ t l on. elim (or_cases (has found t) (has one t) (sym (joined t) ∙ on)) [
    | inl a ↦ h.good t l a
    | inr a ↦ (o, first.on_board, h.part o first.on_board first.member, (leads t l).0 a)
  ];
  all = λ q t lq lt on p. elim (h.all q t lq lt on p) [
    | inl a ↦ elim (cases_eq q o) [
      | inl e ↦ inr (joined t ∙ or_right (has found t) (has one t) ((leads t lt).1 (subst (λ (x : ℕ). P x t) e p)))
      | inr ne ↦ inl (other_than old new o q rest lq ne ∙ a)
    ]
    | inr a ↦ inr (joined t ∙ or_left (has found t) (has one t) a)
  ];
}

pub gather_all : (P : ℕ → ℕ → Type 0) (set left found : ℕ) → HasNoneFrom left 0 → IsGathered P set left found → IsSetOf found (LedTo P set)
gather_all P set left found none h t l = (
  h.good t l,
  λ w. elim (h.all w.0 t w.1 l w.2 w.3) [
    | inl a ↦ absurd (let off : has left w.0 ≡ false = none w.0 (omega arith) w.1 in cc)
    | inr a ↦ a
  ],
)

-- ---- what a loop over numbers adds to a set
-- the set was old, and those with P for some number below n were added
abbrev pub IsJoined : (ℕ → ℕ → Type 0) → ℕ → ℕ → ℕ → Type 0
IsJoined P old n all = IsSetOf all (λ q. (has old q ≡ true) ⊎ ((k : ℕ) × (k < n) × P k q))

pub join_first : (P : ℕ → ℕ → Type 0) (old : ℕ) → IsJoined P old 0 old
join_first P old q l = (λ h. inl h, λ h. elim h [ inl a ↦ a | inr w ↦ absurd (let z : w.0 < 0 = w.1 in omega arith) ])

-- those with Q are added
pub join_next : (P : ℕ → ℕ → Type 0) (Q : ℕ → Type 0) (old n all more : ℕ) → IsSetOf more (λ q. (has all q ≡ true) ⊎ Q q) → ((q : ℕ) → q < 64 → Q q → P n q) → ((q : ℕ) → q < 64 → P n q → Q q) → IsJoined P old n all → IsJoined P old (n + 1) more
join_next P Q old n all more made f g h q l = (
  λ t. elim ((made q l).0 t) [
    | inl a ↦ elim ((h q l).0 a) [ inl b ↦ inl b | inr w ↦ inr (w.0, (let z : w.0 < n = w.1 in omega arith), w.2) ]
    | inr p ↦ inr (n, omega arith, f q l p)
  ],
  λ t. (made q l).1 (elim t [
    | inl b ↦ inl ((h q l).1 (inl b))
    | inr w ↦ elim (cases_lt w.0 n) [
      | inl less ↦ inl ((h q l).1 (inr (w.0, less, w.2)))
      | inr over ↦ inr (let z : w.0 < n + 1 = w.1 in let e : w.0 ≡ n = omega arith in g q l (subst (λ (x : ℕ). P x q) e w.2))
    ]
  ]),
)

pub join_none : (P : ℕ → ℕ → Type 0) (old n all : ℕ) → ((q : ℕ) → P n q → ⊥) → IsJoined P old n all → IsJoined P old (n + 1) all
join_none P old n all off h q l = (
  λ t. elim ((h q l).0 t) [ inl b ↦ inl b | inr w ↦ inr (w.0, (let z : w.0 < n = w.1 in omega arith), w.2) ],
  λ t. elim t [
    | inl b ↦ (h q l).1 (inl b)
    | inr w ↦ elim (cases_lt w.0 n) [
      | inl less ↦ (h q l).1 (inr (w.0, less, w.2))
      | inr over ↦ absurd (let z : w.0 < n + 1 = w.1 in let e : w.0 ≡ n = omega arith in off q (subst (λ (x : ℕ). P x q) e w.2))
    ]
  ],
)

-- those with P for n are all there
pub join_full : (P : ℕ → ℕ → Type 0) (old n all : ℕ) → ((q : ℕ) → q < 64 → P n q → has all q ≡ true) → IsJoined P old n all → IsJoined P old (n + 1) all
join_full P old n all full h q l = (
  λ t. elim ((h q l).0 t) [ inl b ↦ inl b | inr w ↦ inr (w.0, (let z : w.0 < n = w.1 in omega arith), w.2) ],
  λ t. elim t [
    | inl b ↦ (h q l).1 (inl b)
    | inr w ↦ elim (cases_lt w.0 n) [
      | inl less ↦ (h q l).1 (inr (w.0, less, w.2))
      | inr over ↦ (let z : w.0 < n + 1 = w.1 in let e : w.0 ≡ n = omega arith in full q l (subst (λ (x : ℕ). P x q) e w.2))
    ]
  ],
)

-- one square more
pub one_more : (o all one more : ℕ) → IsSetOf one (λ q. q ≡ o) → ((q : ℕ) → has more q ≡ (has all q || has one q)) → IsSetOf more (λ q. (has all q ≡ true) ⊎ (q ≡ o))
one_more o all one more single joined q l = (
  λ t. elim (or_cases (has all q) (has one q) (sym (joined q) ∙ t)) [ inl a ↦ inl a | inr a ↦ inr ((single q l).0 a) ],
  λ t. joined q ∙ elim t [ inl a ↦ or_left (has all q) (has one q) a | inr e ↦ or_right (has all q) (has one q) ((single q l).1 e) ],
)
