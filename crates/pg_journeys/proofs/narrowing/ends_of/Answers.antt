use Rattle.pg_journeys.proofs.Common.{◌≡◌, ◌⊎◌, inl, inr, ◌↔◌, ◌+◌, ◌<◌, ◌≤◌, ℕ, Bool, true, get_or, sym, subst, arith, cases_lt, has, ChangesBy}
use Rattle.pg_journeys.proofs.narrowing.ends_of.Goals as goal

next_end : (P : ℕ → Type 0) (old new e : ℕ) (b : Bool) → ((n : ℕ) → (has new n ≡ true) ↔ ((has old n ≡ true) ⊎ ((n ≡ e) × (b ≡ true)))) → (b ≡ true) ↔ P e → ((n : ℕ) → (has old n ≡ true) ↔ ((n < e) × P n)) → (n : ℕ) → (has new n ≡ true) ↔ ((n < e + 1) × P n)
next_end P old new e b made is all n = (
  λ t. elim ((made n).0 t) [
    | inl a ↦ (let w : (n < e) × P n = (all n).0 a in let less : n < e = w.0 in (omega arith, w.1))
    | inr w ↦ (let same : n ≡ e = w.0 in (omega arith, subst P (sym same) (is.0 w.1)))
  ],
  λ t. (made n).1 (elim (cases_lt n e) [
    | inl less ↦ inl ((all n).1 (less, t.1))
    | inr over ↦ inr (let low : n < e + 1 = t.0 in let same : n ≡ e = omega arith in (same, is.1 (subst P same t.1)))
  ]),
)

pub loop-e-preserved : goal.loop-e-preserved
loop-e-preserved c =
    next_end (λ e. (get_or c.args.rooms.now e 0 < 255) × ChangesBy c.args.side.now c.args.man.now e (get_or c.args.rooms.now e 0)) c.loop-e.ends c.with_end-ends.result c.loop-e.e c.is_end.result c.with_end-ends.ensures c.is_end.ensures c.loop-e.invariant

last_end : (P : ℕ → Type 0) (old new count n : ℕ) (b : Bool) → ((m : ℕ) → (has new m ≡ true) ↔ ((has old m ≡ true) ⊎ ((m ≡ 16) × (b ≡ true)))) → (b ≡ true) ↔ P 16 → count ≤ n → ((m : ℕ) → (has old m ≡ true) ↔ ((m < n) × P m)) →
    ((e : ℕ) → e < 17 → P e → (e < count) ⊎ (e ≡ 16)) → (e : ℕ) → e < 17 → (has new e ≡ true) ↔ P e
last_end P old new count n b made is full all ends e low = (
  λ t. elim ((made e).0 t) [ inl a ↦ ((all e).0 a).1 | inr w ↦ subst P (sym w.0) (is.0 w.1) ],
  λ p. (made e).1 (elim (ends e low p) [ inl l ↦ inl ((all e).1 (omega (arith, l, full), p)) | inr z ↦ inr (z, is.1 (subst P z p)) ]),
)

pub returns : goal.returns
returns c =
    last_end (λ e. (get_or c.args.rooms.now e 0 < 255) × ChangesBy c.args.side.now c.args.man.now e (get_or c.args.rooms.now e 0)) c.loop-e.ends c.with_end.result c.args.side.now.goals.count c.loop-e.e c.is_end-2.result c.with_end.ensures c.is_end-2.ensures
    c.loop-e-test.false c.loop-e.invariant (λ e low p. elim (c.requires.ends e low p.0).1 [ inl l ↦ inl l | inr w ↦ inr w.0 ])
