use Rattle.pg_journeys.proofs.Common.{◌≡◌, ◌⊎◌, inl, inr, ◌↔◌, ◌∙◌, ℕ, ◌*◌, ◌^◌, ◌%◌, ◌<◌, true, eqb, bit_or, w32, sym, ap, cases_eq, bit_at_set_same, bit_at_set_other, has}
use Rattle.pg_journeys.proofs.narrowing.with_end.Goals as goal

set_bit : (n e : ℕ) → e < 32 → (q : ℕ) → (has (bit_or n (1 * 2 ^ e % 2 ^ 32)) q ≡ true) ↔ ((has n q ≡ true) ⊎ (q ≡ e))
set_bit n e low q = elim (cases_eq q e) [
  | inl same ↦ (λ h. inr same, λ h. ap (has (bit_or n (1 * 2 ^ e % 2 ^ 32))) same ∙ ap (λ (b : ℕ). eqb b 1) (bit_at_set_same w32 n e low))
  | inr ne ↦
      (let other : has (bit_or n (1 * 2 ^ e % 2 ^ 32)) q ≡ has n q = ap (λ (b : ℕ). eqb b 1) (bit_at_set_other w32 n e low q ne) in
      (λ h. inl (sym other ∙ h), λ h. elim h [ inl a ↦ other ∙ a | inr a ↦ absurd (ne a) ]))
]

pub returns-then-is_end : goal.returns-then-is_end
returns-then-is_end c = λ n. (
  λ h. elim ((set_bit c.args.ends c.args.e c.requires n).0 h) [ inl a ↦ inl a | inr a ↦ inr (a, c.if-is_end.true) ],
  λ h. (set_bit c.args.ends c.args.e c.requires n).1 (elim h [ inl a ↦ inl a | inr a ↦ inr a.0 ]),
)
