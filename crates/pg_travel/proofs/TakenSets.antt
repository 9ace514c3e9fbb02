-- Sets from which the first square is taken until none is left. Leads to the contracts of loops over the men of a kind.
use Rattle.pg_travel.proofs.Common.{◌≡◌, ◌≢◌, ℕ, zero, suc, ◌+◌, ltb, lt-ltb, le-ltb, cond, ◌<◌, ◌≤◌, nat_eq, inl, inr, Bool, true, false, sym, ap, arith, ◌∙◌, eqb_tells, leb_tells, has, IsFirstFrom, one, count_below, total-none, total-suc}

-- what is in the set has Q
abbrev pub AreAll : (ℕ → Type 0) → ℕ → Type 0
AreAll Q own = (q : ℕ) → q < 64 → has own q ≡ true → Q q

-- a square was taken out of the set
abbrev pub IsWithout : ℕ → ℕ → ℕ → Type 0
IsWithout old new o = (q : ℕ) → q < 64 → has new q ≡ cond (nat_eq q o) false (has old q)

-- what is left after one was taken
pub other_than : (old new o q : ℕ) → IsWithout old new o → q < 64 → q ≢ o → has new q ≡ has old q
other_than old new o q rest l ne = elim (eqb_tells q o) [ inl w ↦ absurd (ne w.1) | inr w ↦ rest q l ∙ ap (λ (x : Bool). cond x false (has old q)) w.0 ]

pub taken_itself : (old new o q : ℕ) → IsWithout old new o → q < 64 → q ≡ o → has new q ≡ false
taken_itself old new o q rest l e = elim (eqb_tells q o) [ inl w ↦ rest q l ∙ ap (λ (x : Bool). cond x false (has old q)) w.0 | inr w ↦ absurd (w.1 e) ]

pub all_left : (Q : ℕ → Type 0) (old new o : ℕ) → AreAll Q old → IsWithout old new o → AreAll Q new
all_left Q old new o all rest q l on = elim (eqb_tells q o) [
  | inl w ↦ absurd (let off : has new q ≡ false = taken_itself old new o q rest l w.1 in cc)
  | inr w ↦ all q l (sym (other_than old new o q rest l w.1) ∙ on)
]

-- fewer are left
left_below : (old new o n : ℕ) → IsWithout old new o → has old o ≡ true → n ≤ 64 → count_below (has new) n + one (ltb o n) ≡ count_below (has old) n
left_below old new o zero rest on l =
    let a : count_below (has new) 0 ≡ 0 = total-none (λ k. one (has new k)) in
    let b : count_below (has old) 0 ≡ 0 = total-none (λ k. one (has old k)) in
    let x : one (ltb o 0) ≡ 0 = ap one (le-ltb o 0 (omega arith)) in
    omega arith
left_below old new o (suc n) rest on l =
    let before : count_below (has new) n + one (ltb o n) ≡ count_below (has old) n = left_below old new o n rest on (omega arith) in
    let a : count_below (has new) (suc n) ≡ count_below (has new) n + one (has new n) = total-suc (λ k. one (has new k)) n in
    let b : count_below (has old) (suc n) ≡ count_below (has old) n + one (has old n) = total-suc (λ k. one (has old k)) n in
    elim (eqb_tells n o) [
      | inl w ↦
          (let off : one (has new n) ≡ 0 = ap one (taken_itself old new o n rest (omega arith) w.1) in
          let was : one (has old n) ≡ 1 = ap (λ (q : ℕ). one (has old q)) w.1 ∙ ap one on in
          let x : one (ltb o n) ≡ 0 = ap one (le-ltb o n (omega (arith, w.1))) in
          let y : one (ltb o (suc n)) ≡ 1 = ap one (lt-ltb o (suc n) (omega (arith, w.1))) in
          omega arith)
      | inr w ↦
          (let same : one (has new n) ≡ one (has old n) = ap one (other_than old new o n rest (omega arith) w.1) in
          let ne : n ≢ o = w.1 in
          let x : one (ltb o (suc n)) ≡ one (ltb o n) = elim (leb_tells (o + 1) n) [
            | inl v ↦ ap one (lt-ltb o (suc n) (omega (arith, v.1))) ∙ sym (ap one (lt-ltb o n (omega (arith, v.1))))
            | inr v ↦ ap one (le-ltb o (suc n) (omega (arith, v.1))) ∙ sym (ap one (le-ltb o n (omega (arith, v.1))))
          ] in
          omega arith)
    ]

pub fewer : (old new o : ℕ) → IsFirstFrom old 0 o → IsWithout old new o → count_below (has new) 64 < count_below (has old) 64
fewer old new o is rest = let e : one (ltb o 64) ≡ 1 = ap one (lt-ltb o 64 is.on_board) in omega (arith, left_below old new o 64 rest is.member (omega arith))
