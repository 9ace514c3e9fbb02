-- Where a man comes back to by a step and on from there, and which squares two sets share. Leads to the contracts of `in_both`,
-- `comes_by`, `takes_back` and `comes_back`.
use Rattle.pg_journeys.proofs.Common.{◌≡◌, ◌≢◌, ◌↔◌, ℕ, ◌+◌, ◌-◌, ◌<◌, ◌≤◌, ◌⊎◌, inl, inr, IsTrue, Bool, true, false, cond, ◌&&◌, ◌||◌, List, get_or, refl, sym, subst, ◌∙◌, arith, and_from, or_cases, or_left, or_right, cases_Bool, cases_eq, cases_lt, has, Kind, Pawn, Knight, Bishop, Rook, Queen, King, number_of_kind, IsSetOf, HasNoneFrom, Meet, Color, Facts, IsLeg, landing, leg, of_kind, AreRings, AreWithin, TakesWithin, TakesAfter, IsReach, facts_of, EndWithin, IsInBoth, TakesAt, TakesTo, ComesBy, TakesBack, ComesBack, Side, Runner, Rings, and_parts, kind_low}
use Rattle.pg_journeys.specs.declared.rings.Reach.{Reach}
use Rattle.pg_journeys.proofs.RingLemmas.{takes_is}
use Rattle.pg_journeys.proofs.CostLemmas.{end_more}
use Rattle.pg_journeys.proofs.SiftedSets.{IsJoined}

-- ---- kinds by their numbers
-- what holds for a number of a kind holds for a kind
kind_with : (k : ℕ) → k < 6 → (j : Kind) × (number_of_kind j ≡ k)
kind_with k low = elim (cases_eq k 0) [
  | inl e ↦ (Pawn, sym e)
  | inr a ↦ elim (cases_eq k 1) [
    | inl e ↦ (Knight, sym e)
    | inr b ↦ elim (cases_eq k 2) [
      | inl e ↦ (Bishop, sym e)
      | inr d ↦ elim (cases_eq k 3) [
        | inl e ↦ (Rook, sym e)
        | inr f ↦ elim (cases_eq k 4) [
          | inl e ↦ (Queen, sym e)
          | inr g ↦ (King, let n0 : k ≢ 0 = a in let n1 : k ≢ 1 = b in let n2 : k ≢ 2 = d in let n3 : k ≢ 3 = f in let n4 : k ≢ 4 = g in omega arith)
        ]
      ]
    ]
  ]
]

-- two lists of sets have the square for the kind with the number k
abbrev pub HaveAt : List ℕ → List ℕ → ℕ → ℕ → Type 0
HaveAt one other k q = (has (get_or one k 0) q ≡ true) × (has (get_or other k 0) q ≡ true)

pub both_have : (one other : List ℕ) (a b both q k : ℕ) → a ≡ get_or one k 0 → b ≡ get_or other k 0 → has both q ≡ (has a q && has b q) → (has both q ≡ true) ↔ HaveAt one other k q
both_have one other a b both q k ea eb e = (
  λ t. (let w : (has a q ≡ true) × (has b q ≡ true) = and_parts (has a q) (has b q) (sym e ∙ t) in
      (subst (λ (n : ℕ). has n q ≡ true) ea w.0, subst (λ (n : ℕ). has n q ≡ true) eb w.1)),
  λ w. e ∙ and_from (has a q) (has b q) (subst (λ (n : ℕ). has n q ≡ true) (sym ea) w.0) (subst (λ (n : ℕ). has n q ≡ true) (sym eb) w.1),
)

pub all_kinds : (one other : List ℕ) (old n all : ℕ) → ((q : ℕ) → q < 64 → has old q ≡ false) → n ≡ 6 → IsJoined (HaveAt one other) old n all → IsSetOf all (IsInBoth one other)
all_kinds one other old n all none six h q l = (
  λ t. elim ((h q l).0 t) [
    | inl a ↦ absurd (let off : has old q ≡ false = none q l in cc)
    | inr w ↦ (let low : w.0 < n = w.1 in let j : (j : Kind) × (number_of_kind j ≡ w.0) = kind_with w.0 (omega arith) in
        (j.0, subst (λ (k : ℕ). has (get_or one k 0) q ≡ true) (sym j.1) w.2.0, subst (λ (k : ℕ). has (get_or other k 0) q ≡ true) (sym j.1) w.2.1))
  ],
  λ w. (h q l).1 (inr (number_of_kind w.0, (let low : number_of_kind w.0 < 6 = kind_low w.0 in omega arith), (w.1, w.2))),
)

-- ---- what loops gather
-- a set is added
pub with_set : (Q : ℕ → Type 0) (all one more : ℕ) → IsSetOf one Q → ((q : ℕ) → has more q ≡ (has all q || has one q)) → IsSetOf more (λ q. (has all q ≡ true) ⊎ Q q)
with_set Q all one more is made q l = (
  λ t. elim (or_cases (has all q) (has one q) (sym (made q) ∙ t)) [ inl a ↦ inl a | inr a ↦ inr ((is q l).0 a) ],
  λ t. made q ∙ elim t [ inl a ↦ or_left (has all q) (has one q) a | inr p ↦ or_right (has all q) (has one q) ((is q l).1 p) ],
)

-- what was added to nothing is all
pub all_added : (P : ℕ → ℕ → Type 0) (old n m all : ℕ) → HasNoneFrom old 0 → n ≡ m → IsJoined P old n all → IsSetOf all (λ q. (i : ℕ) × (i < m) × P i q)
all_added P old n m all none same h q l = (
  λ t. elim ((h q l).0 t) [
    | inl a ↦ absurd (let off : has old q ≡ false = none q (omega arith) l in cc)
    | inr w ↦ (w.0, (let low : w.0 < n = w.1 in omega arith), w.2)
  ],
  λ w. (h q l).1 (inr (w.0, (let low : w.0 < m = w.1 in omega arith), w.2)),
)

-- ---- up to the last number that tells something new
module _ (f : Facts) (c : Color) (k : Kind) (s : ℕ) (r : Rings) where
  takes_last : (quiet : Bool) → AreRings (TakesAfter f c quiet k s) r → r.is_whole ≡ true → (i : ℕ) (j : Kind) (q : ℕ) → q < 64 → r.count ≤ i → TakesWithin f c quiet k s i j q → TakesWithin f c quiet k s r.count j q
  takes_last true are all i j q low past takes =
      let some : 1 ≤ r.count = are.some in
      let w : TakesWithin f c true k s (r.count - 1) j q = (takes_is f c true k s (r.count - 1) (r.count - 1) j q (omega arith)).0 (are.whole all i j q low ((takes_is f c true k s i i j q (omega arith)).1 takes)) in
      let le : w.0 ≤ r.count - 1 = w.1 in
      (w.0, omega arith, w.2)
  takes_last false are all i j q low past takes =
      let some : 1 ≤ r.count = are.some in
      (takes_is f c false k s (r.count - 1) r.count j q (omega arith)).0 (are.whole all (i - 1) j q low ((takes_is f c false k s (i - 1) i j q (omega arith)).1 takes))

-- who takes within a room takes within the last number of it that tells something new
to_last : (x : Side) (m : Runner) (r : Reach) (e room last i q : ℕ) → IsReach (facts_of x) x.terrain.color m r → (last ≡ room) ⊎ ((r.taken.is_whole ≡ true) × (last ≡ r.taken.count)) → q < 64 → i < room + 1 → TakesAt x m e room i q → (a : ℕ) × (a < last + 1) × TakesAt x m e room a q
to_last x m r e room last i q reach (inl same) low inside takes = (i, omega arith, takes)
to_last x m r e room last i q reach (inr (all, same)) low inside (j, takes, on) = elim (cases_lt i (last + 1)) [
  | inl less ↦ (i, less, (j, takes, on))
  | inr more ↦
      (let within : TakesWithin (facts_of x) x.terrain.color m.is_quiet m.kind m.square r.taken.count j q = takes_last (facts_of x) x.terrain.color m.kind m.square r.taken m.is_quiet reach.taken all i j q low (omega arith) takes in
      (last, omega arith, (j, subst (λ (n : ℕ). TakesWithin (facts_of x) x.terrain.color m.is_quiet m.kind m.square n j q) (sym same) within, end_more x m.is_quiet e (room - i) (room - last) j q (omega arith) on)))
]

pub all_taken : (x : Side) (m : Runner) (r : Reach) (e room last all : ℕ) → IsReach (facts_of x) x.terrain.color m r → last ≤ room → (last ≡ room) ⊎ ((r.taken.is_whole ≡ true) × (last ≡ r.taken.count)) →
    IsSetOf all (λ q. (i : ℕ) × (i < last + 1) × TakesAt x m e room i q) → IsSetOf all (TakesTo x m e room)
all_taken x m r e room last all reach le is set q l = (
  λ t. (let w : (i : ℕ) × (i < last + 1) × TakesAt x m e room i q = (set q l).0 t in (w.0, (let low : w.0 < last + 1 = w.1 in omega arith), w.2)),
  λ w. (set q l).1 (to_last x m r e room last w.0 q reach is l w.1 w.2),
)

-- ---- coming by a set
pub comes_on : (x : Side) (m : Runner) (e n set men : ℕ) (sets : List ℕ) (b : Bool) → men ≡ of_kind sets m.kind → AreWithin (EndWithin x m.is_quiet e) n sets → IsTrue b ↔ Meet men set → IsTrue b ↔ ComesBy x m e n set
comes_on x m e n set men sets b same within is = (
  λ t. (let w : (t : ℕ) × (t < 64) × (has men t ≡ true) × (has set t ≡ true) = is.0 t in
      (w.0, w.1, w.3, (within m.kind w.0 w.1).0 (subst (λ (y : ℕ). has y w.0 ≡ true) same w.2))),
  λ w. is.1 (w.0, w.1, subst (λ (y : ℕ). has y w.0 ≡ true) (sym same) ((within m.kind w.0 w.1).1 w.3), w.2),
)

-- ---- coming back
pub takes_not : (x : Side) (m : Runner) (e room steps : ℕ) → m.is_quiet ≡ false → IsTrue false ↔ TakesBack x m e room steps
takes_not x m e room steps off = (λ t. absurd (cc), λ w. absurd (let on : m.is_quiet ≡ true = w.0 in cc))

pub takes_on : (x : Side) (m : Runner) (e room steps lands both : ℕ) (b : Bool) → m.is_quiet ≡ true → lands ≡ landing x.terrain.facts x.terrain.color → ((q : ℕ) → has both q ≡ (has steps q && has lands q)) →
    IsTrue b ↔ ComesBy x m e room both → IsTrue b ↔ TakesBack x m e room steps
takes_on x m e room steps lands both b on same made is = (
  λ t. (let w : ComesBy x m e room both = is.0 t in
      let h : (has steps w.0 ≡ true) × (has lands w.0 ≡ true) = and_parts (has steps w.0) (has lands w.0) (sym (made w.0) ∙ w.2) in
      (on, w.0, w.1, h.0, subst (λ (y : ℕ). has y w.0 ≡ true) same h.1, w.3)),
  λ w. is.1 (w.1, w.2, made w.1 ∙ and_from (has steps w.1) (has lands w.1) w.3 (subst (λ (y : ℕ). has y w.1 ≡ true) (sym same) w.4), w.5),
)

costs_none : (b : Bool) (r : ℕ) → b ≡ true → cond b 0 1 + r ≤ r
costs_none true r e = omega arith
costs_none false r e = absurd (cc)

costs_one : (b : Bool) (r : ℕ) → 0 < r → cond b 0 1 + (r - 1) ≤ r
costs_one true r l = omega arith
costs_one false r l = omega arith

paid_none : (b : Bool) (n r : ℕ) → cond b 0 1 + n ≤ r → n ≤ r
paid_none true n r l = omega arith
paid_none false n r l = omega arith

paid_one : (b : Bool) (n r : ℕ) → b ≡ false → cond b 0 1 + n ≤ r → (0 < r) × (n ≤ r - 1)
paid_one true n r e l = absurd (cc)
paid_one false n r e l = (omega arith, omega arith)

module _ (x : Side) (m : Runner) (e room steps : ℕ) (are : IsSetOf steps (λ t. IsLeg (facts_of x) x.terrain.color (leg m.kind m.square m.kind t))) where
  pub back_taking : TakesBack x m e room steps → ComesBack x m e room
  back_taking (quiet, t, low, on, lands, within) =
      (t, low, (are t low).0 on, room, within, costs_none (m.is_quiet && has (landing x.terrain.facts x.terrain.color) t) room (and_from m.is_quiet (has (landing x.terrain.facts x.terrain.color) t) quiet lands))

  pub back_step : 0 < room → ComesBy x m e (room - 1) steps → ComesBack x m e room
  back_step some (t, low, on, within) =
      (t, low, (are t low).0 on, room - 1, within, costs_one (m.is_quiet && has (landing x.terrain.facts x.terrain.color) t) room some)

  pub back_parts : ComesBack x m e room → TakesBack x m e room steps ⊎ ((0 < room) × ComesBy x m e (room - 1) steps)
  back_parts (t, low, is, n, within, sum) = elim (cases_Bool (m.is_quiet && has (landing x.terrain.facts x.terrain.color) t)) [
    | inl on ↦
        (let h : (m.is_quiet ≡ true) × (has (landing x.terrain.facts x.terrain.color) t ≡ true) = and_parts m.is_quiet (has (landing x.terrain.facts x.terrain.color) t) on in
        inl (h.0, t, low, (are t low).1 is, h.1, end_more x m.is_quiet e n room m.kind t (paid_none (m.is_quiet && has (landing x.terrain.facts x.terrain.color) t) n room sum) within))
    | inr off ↦
        (let h : (0 < room) × (n ≤ room - 1) = paid_one (m.is_quiet && has (landing x.terrain.facts x.terrain.color) t) n room off sum in
        inr (h.0, (t, low, (are t low).1 is, end_more x m.is_quiet e n (room - 1) m.kind t h.1 within)))
  ]

  pub back_first : (b : Bool) → IsTrue b ↔ TakesBack x m e room steps → b ≡ true → IsTrue true ↔ ComesBack x m e room
  back_first b is on = (λ t. back_taking (is.0 on), λ w. refl)

  pub back_none : (b : Bool) → IsTrue b ↔ TakesBack x m e room steps → b ≡ false → room ≡ 0 → IsTrue false ↔ ComesBack x m e room
  back_none b is off none = (
    λ t. absurd (cc),
    λ w. absurd (elim (back_parts w) [ inl a ↦ (let on : b ≡ true = is.1 a in cc) | inr a ↦ (let some : 0 < room = a.0 in omega arith) ]),
  )

  pub back_last : (b c : Bool) → IsTrue b ↔ TakesBack x m e room steps → b ≡ false → 0 < room → IsTrue c ↔ ComesBy x m e (room - 1) steps → IsTrue c ↔ ComesBack x m e room
  back_last b c is off some by = (
    λ t. back_step some (by.0 t),
    λ w. elim (back_parts w) [ inl a ↦ absurd (let on : b ≡ true = is.1 a in cc) | inr a ↦ by.1 a.1 ],
  )
