-- What paths make of a man by his kind. Leads to the contracts of `kinds_of` and `arrival`.
use Rattle.pg_journeys.proofs.Common.{◌≡◌, ◌≢◌, ℕ, ◌<◌, ◌⊎◌, inl, inr, Bool, true, false, List, [], ◌∷◌, refl, sym, subst, ◌∙◌, arith, Color, Kind, Pawn, Knight, Bishop, Rook, Queen, King, has, number_of_kind, Becomes, Facts, Leg, IsPath, facts_of, square_at, kind_at, IsCountTo, MayBeIn, Side, Runner}
use Rattle.pg_journeys.proofs.SideLemmas.{goals_few}

-- a man of kind k may come to be of kind j
abbrev MayBe : Kind → Kind → Type 0
MayBe k j = (k ≡ j) ⊎ ((k ≡ Pawn) × (j ≢ King))

by_step : (c : Color) (k j : Kind) (s : ℕ) → Becomes c k s j → MayBe k j
unfolding Becomes
by_step c Pawn j s b = elim b [ inl (_, (_, n)) ↦ inr (refl, n) | inr (_, e) ↦ inl (sym e) ]
by_step c Knight j s b = inl (sym b)
by_step c Bishop j s b = inl (sym b)
by_step c Rook j s b = inl (sym b)
by_step c Queen j s b = inl (sym b)
by_step c King j s b = inl (sym b)

by_both : (k i j : Kind) → MayBe k i → MayBe i j → MayBe k j
by_both k i j (inl e) (inl z) = inl (e ∙ z)
by_both k i j (inl e) (inr (p, n)) = inr (e ∙ p, n)
by_both k i j (inr (p, n)) (inl z) = inr (p, λ h. n (z ∙ h))
by_both k i j (inr (p, n)) (inr (q, m)) = inr (p, m)

by_path : (f : Facts) (c : Color) (k : Kind) (r : ℕ) (ls : List Leg) (j : Kind) (s : ℕ) → IsPath f c k r ls j s → MayBe k j
by_path f c k r [] j s p = inl p.0
by_path f c k r (l ∷ ls) j s p = by_both k l.into j (by_step c k l.into l.to (subst (λ (x : Kind). Becomes c x l.to l.into) p.0 p.2.free.3)) (by_path f c l.into l.to ls j s p.3)

-- the bits of the kinds that a man may come to be
pub of_piece : (k o : Kind) (kinds : ℕ) → k ≡ o → o ≢ Pawn → has kinds (number_of_kind o) ≡ true → MayBeIn k kinds
of_piece k o kinds is ne own f c r s ls j p = elim (by_path f c k r ls j s p) [
  | inl e ↦ subst (λ (x : Kind). has kinds (number_of_kind x) ≡ true) (sym is ∙ e) own
  | inr w ↦ absurd (ne (sym is ∙ w.0))
]

pub of_pawn : (k : Kind) (kinds : ℕ) → k ≡ Pawn → ((j : Kind) → j ≢ King → has kinds (number_of_kind j) ≡ true) → MayBeIn k kinds
of_pawn k kinds is all f c r s ls j p = elim (by_path f c k r ls j s p) [
  | inl e ↦ all j (λ z. apart (sym is ∙ e ∙ z))
  | inr w ↦ all j w.1
]
  where
    apart : Pawn ≡ King → ⊥
    apart h = cc

pub all_but_kings : (j : Kind) → j ≢ King → has 31 (number_of_kind j) ≡ true
all_but_kings Pawn ne = refl
all_but_kings Knight ne = refl
all_but_kings Bishop ne = refl
all_but_kings Rook ne = refl
all_but_kings Queen ne = refl
all_but_kings King ne = absurd (ne refl)

-- no path counts anything where the kinds forbid it
pub no_arrival : (x : Side) (most e kinds : ℕ) (m : Runner) (may : Bool) → e < x.goals.count → MayBeIn m.kind kinds →
    may ≡ has kinds (number_of_kind (kind_at x.goals e)) → may ≡ false → IsCountTo x most e m 255
no_arrival x most e kinds m may low tells is off = inr (
  refl,
  λ w. elim w [
    | inl g ↦ (let on : has kinds (number_of_kind (kind_at x.goals e)) ≡ true = tells (facts_of x) x.terrain.color m.square (square_at x.goals e) g.1.0 (kind_at x.goals e) g.1.1 in cc)
    | inr g ↦ (let z : e ≡ 16 = g.0 in omega (arith, goals_few x))
  ],
)
