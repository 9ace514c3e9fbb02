-- Single steps under facts: turned round, to be another man, and what they count.
use Rattle.pg_journeys.proofs.Common.{◌≡◌, ◌≢◌, ℕ, ◌<◌, ◌⊎◌, inl, inr, Bool, true, false, not, ◌&&◌, cond, nat_eq, refl, sym, ap, arith, ◌∙◌, eqb_tells, Color, Kind, Pawn, Knight, Bishop, Rook, Queen, King, kind_eq, has, file, rank, IsSetOf, HasNoneFrom, OnOneLine, InPattern, last_rank, StepsTo, Becomes, FreeStep, Facts, Leg, IsLeg, may_take, leg, counts, cases_Bool, not-true, not_from_false, and_from, and-true, and-false}
use Rattle.pg_position.proofs.ReachLemmas.{between_turn}
use Rattle.pg_journeys.proofs.FrontLemmas.{kind_is, not_both, and_first, and_second}

-- ---- turned round
line_turn : (r s : ℕ) → OnOneLine r s → OnOneLine s r
line_turn r s e = elim e [ inl x ↦ inl (sym x) | inr x ↦ inr (sym x) ]

pattern_turn : (c : Color) (k : Kind) (r s : ℕ) → k ≢ Pawn → InPattern c k r s → InPattern c k s r
unfolding InPattern
pattern_turn c Pawn r s ne e = absurd (ne refl)
pattern_turn c Knight r s ne e = elim e [ inl (x, y) ↦ inl (omega arith, omega arith) | inr (x, y) ↦ inr (omega arith, omega arith) ]
pattern_turn c Bishop r s ne (n, e) = (omega arith, omega arith)
pattern_turn c Rook r s ne (n, e) = (omega arith, line_turn r s e)
pattern_turn c Queen r s ne (n, e) = (omega arith, elim e [ inl x ↦ inl (line_turn r s x) | inr x ↦ inr (omega arith) ])
pattern_turn c King r s ne (n, x, y) = (omega arith, omega arith, omega arith)

free_turn : (c : Color) (k : Kind) (r s : ℕ) → k ≢ Pawn → FreeStep c k r k s → FreeStep c k s k r
unfolding StepsTo Becomes
free_turn c Pawn r s ne e = absurd (ne refl)
free_turn c Knight r s ne (x, y, z, b) = (y, x, pattern_turn c Knight r s ne z, refl)
free_turn c Bishop r s ne (x, y, z, b) = (y, x, pattern_turn c Bishop r s ne z, refl)
free_turn c Rook r s ne (x, y, z, b) = (y, x, pattern_turn c Rook r s ne z, refl)
free_turn c Queen r s ne (x, y, z, b) = (y, x, pattern_turn c Queen r s ne z, refl)
free_turn c King r s ne (x, y, z, b) = (y, x, pattern_turn c King r s ne z, refl)

pub leg_turn : (f : Facts) (c : Color) (k : Kind) (r s : ℕ) → k ≢ Pawn → IsLeg f c (leg k r k s) → IsLeg f c (leg k s k r)
leg_turn f c k r s ne is = record {
  free = free_turn c k r s ne is.free;
  leaves = is.comes;
  comes = is.leaves;
  between = λ t l b. is.between t l (between_turn s t r b);
  lands = λ e _. absurd (ne e);
}

-- ---- what a man becomes
pub stays_kind : (c : Color) (j k : Kind) (s : ℕ) → j ≢ Pawn → Becomes c j s k → k ≡ j
unfolding Becomes
stays_kind c Pawn k s ne e = absurd (ne refl)
stays_kind c Knight k s ne e = e
stays_kind c Bishop k s ne e = e
stays_kind c Rook k s ne e = e
stays_kind c Queen k s ne e = e
stays_kind c King k s ne e = e

-- a pawn's step leads him to be any man that he may become there
pub leg_into : (f : Facts) (c : Color) (j i k : Kind) (r s : ℕ) → Becomes c j s k → IsLeg f c (leg j r i s) → IsLeg f c (leg j r k s)
leg_into f c j i k r s b is = record {
  free = (is.free.0, is.free.1, is.free.2, b);
  leaves = is.leaves;
  comes = is.comes;
  between = is.between;
  lands = is.lands;
}

pub leg_low : (f : Facts) (c : Color) (l : Leg) → IsLeg f c l → (l.from < 64) × (l.to < 64)
leg_low f c l is = (is.free.0, is.free.1)

-- the squares of a set where a pawn becomes a man: off the last rank a pawn, and on it what is no pawn and no king
module _ (c : Color) (k : Kind) (set last r found : ℕ) (is : r ≡ last_rank c) (row : IsSetOf last (λ s. rank s ≡ r)) where
  pub pawns_become : k ≡ Pawn → ((q : ℕ) → q < 64 → has found q ≡ (has set q && not (has last q))) → IsSetOf found (λ s. (has set s ≡ true) × Becomes c Pawn s k)
  unfolding Becomes
  pawns_become e parted s l = (
    λ h.
        (let both : has set s && not (has last s) ≡ true = sym (parted s l) ∙ h in
        (and_first (has set s) (not (has last s)) both, inr ((λ on. not_both (has last s) ((row s l).1 (on ∙ sym is)) (not-true (has last s) (and_second (has set s) (not (has last s)) both))), e))),
    λ (on, b). parted s l ∙ and_from (has set s) (not (has last s)) on (not_from_false (has last s) (elim (cases_Bool (has last s)) [
      | inl u ↦ absurd (elim b [ inl (_, (n, _)) ↦ n e | inr (n, _) ↦ n ((row s l).0 u ∙ is) ])
      | inr u ↦ u
    ])),
  )

  pub kings_become : k ≡ King → HasNoneFrom found 0 → IsSetOf found (λ s. (has set s ≡ true) × Becomes c Pawn s k)
  unfolding Becomes
  kings_become e none s l = (
    λ h. absurd (not_both (has found s) h (none s (omega arith) l)),
    λ (on, b). absurd (elim b [ inl (_, (_, n)) ↦ n e | inr (_, p) ↦ apart_kinds (sym e ∙ p) ]),
  )
    where
      apart_kinds : King ≡ Pawn → ⊥
      apart_kinds e = cc

  pub pieces_become : k ≢ Pawn → k ≢ King → ((q : ℕ) → has found q ≡ (has set q && has last q)) → IsSetOf found (λ s. (has set s ≡ true) × Becomes c Pawn s k)
  unfolding Becomes
  pieces_become np nk parted s l = (
    λ h.
        (let both : has set s && has last s ≡ true = sym (parted s) ∙ h in
        (and_first (has set s) (has last s) both, inl ((row s l).0 (and_second (has set s) (has last s) both) ∙ is, (np, nk)))),
    λ (on, b). elim b [ inl (r, _) ↦ parted s ∙ and_from (has set s) (has last s) on ((row s l).1 (r ∙ sym is)) | inr (_, e) ↦ absurd (np e) ],
  )

-- ---- what a step counts
pub light_step : (f : Facts) (c : Color) (quiet : Bool) (l : Leg) (w : ℕ) → w ≡ counts f c quiet l → (w ≡ 0) ⊎ (w ≡ 1)
light_step f c quiet l w e = elim (cases_Bool (quiet && may_take f c l)) [
  | inl u ↦ inl (e ∙ ap (λ (x : Bool). cond x 0 1) u)
  | inr u ↦ inr (e ∙ ap (λ (x : Bool). cond x 0 1) u)
]

turned : (b : Bool) → ◌≡◌ {A = ℕ} (cond (not b) 1 0) (cond b 0 1)
turned true = refl
turned false = refl

off_kind : (k : Kind) → k ≢ Pawn → kind_eq k Pawn ≡ false
off_kind k ne = elim (cases_Bool (kind_eq k Pawn)) [ inl u ↦ absurd (ne (kind_is k Pawn u)) | inr u ↦ u ]

pub piece_takes : (f : Facts) (c : Color) (k i : Kind) (r s : ℕ) → k ≢ Pawn → may_take f c (leg k r i s) ≡ f.lands c s
piece_takes f c k i r s ne = ap (λ (x : Bool). cond x (not (nat_eq (file r) (file s))) (f.lands c s)) (off_kind k ne)

pub piece_counts : (f : Facts) (c : Color) (quiet : Bool) (k i : Kind) (r s : ℕ) → k ≢ Pawn → ◌≡◌ {A = ℕ} (cond (not (quiet && f.lands c s)) 1 0) (counts f c quiet (leg k r i s))
piece_counts f c quiet k i r s ne = turned (quiet && f.lands c s) ∙ ap (λ (x : Bool). cond (quiet && x) 0 1) (sym (piece_takes f c k i r s ne))

-- a step to where captures may land, or not, counts so in quiet moves
pub lands_count : (quiet b : Bool) → b ≡ true → ◌≡◌ {A = ℕ} (cond (not quiet) 1 0) (cond (not (quiet && b)) 1 0)
lands_count true b e = ap (λ (x : Bool). cond (not x) 1 0) (sym e)
lands_count false b e = refl

pub other_count : (quiet b : Bool) → b ≡ false → ◌≡◌ {A = ℕ} 1 (cond (not (quiet && b)) 1 0)
other_count true b e = ap (λ (x : Bool). cond (not x) 1 0) (sym e)
other_count false b e = refl

pub push_takes_not : (f : Facts) (c : Color) (i : Kind) (r s : ℕ) → file r ≡ file s → may_take f c (leg Pawn r i s) ≡ false
push_takes_not f c i r s e = elim (eqb_tells (file r) (file s)) [ inl w ↦ ap not w.0 | inr w ↦ absurd (w.1 e) ]

pub capture_takes : (f : Facts) (c : Color) (i : Kind) (r s : ℕ) → file r ≢ file s → may_take f c (leg Pawn r i s) ≡ true
capture_takes f c i r s ne = elim (eqb_tells (file r) (file s)) [ inl w ↦ absurd (ne w.1) | inr w ↦ ap not w.0 ]

pub quiet_counts : (f : Facts) (c : Color) (quiet : Bool) (l : Leg) → may_take f c l ≡ false → ◌≡◌ {A = ℕ} 1 (counts f c quiet l)
quiet_counts f c quiet l e = sym (ap (λ (x : Bool). cond (quiet && x) 0 1) e ∙ ap (λ (x : Bool). cond x 0 1) (and-false quiet))

pub taking_counts : (f : Facts) (c : Color) (quiet : Bool) (l : Leg) → may_take f c l ≡ true → ◌≡◌ {A = ℕ} (cond quiet 0 1) (counts f c quiet l)
taking_counts f c quiet l e = sym (ap (λ (x : Bool). cond (quiet && x) 0 1) e ∙ ap (λ (x : Bool). cond x 0 1) (and-true quiet))

pub taking_flips : (f : Facts) (c : Color) (quiet : Bool) (l : Leg) → may_take f c l ≡ true → ◌≡◌ {A = ℕ} (cond (not quiet) 1 0) (counts f c quiet l)
taking_flips f c quiet l e = turned quiet ∙ taking_counts f c quiet l e

pub files_or : (r s : ℕ) → (file r ≡ file s) ⊎ (file r ≢ file s)
files_or r s = elim (eqb_tells (file r) (file s)) [ inl w ↦ inl w.1 | inr w ↦ inr w.1 ]
