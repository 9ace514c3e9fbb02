-- Rings that are kept one after another, and what is read from them.
use Rattle.pg_journeys.proofs.Common.{◌≡◌, ℕ, ◌+◌, ◌-◌, ◌<◌, ◌≤◌, ◌⊎◌, ◌↔◌, inl, inr, Bool, true, false, cond, List, [], get_or, refl, sym, ap, subst, arith, ◌∙◌, cases_lt, has, Color, Kind, Facts, weigh, leg, of_kind, counts, BackWithin, AheadWithin, AreGrown, TakeStep, TakesAfter, AreRings, AreWithin, IsRing, TakesWithin, Rings}
use Rattle.pg_journeys.specs.inner.Fronts.{IsJoined}
use Rattle.pg_journeys.proofs.FrontLemmas.{not_both, moved, joined_old, joined_new, joined_from}
use Rattle.pg_journeys.proofs.StepLemmas.{taking_counts}

-- so far n rings are kept, and nothing is said of those beyond
pub record AreKept (W : ℕ → Kind → ℕ → Type 0) (n : ℕ) (r : Rings) : Type 0 where
  pub count : r.count ≡ n
  pub open_yet : r.is_whole ≡ false
  pub kept : (m : ℕ) (k : Kind) (s : ℕ) → m < n → s < 64 → (has (of_kind (get_or r.sets m []) k) s ≡ true) ↔ W m k s

pub kept_none : (W : ℕ → Kind → ℕ → Type 0) (r : Rings) → r.count ≡ 0 → r.is_whole ≡ false → AreKept W 0 r
kept_none W r e f = record { count = e; open_yet = f; kept = λ m k s l _. absurd (omega arith) }

pub kept_more : (W : ℕ → Kind → ℕ → Type 0) (n : ℕ) (old new : Rings) (ring : List ℕ) → AreKept W n old → new.count ≡ old.count + 1 → get_or new.sets old.count [] ≡ ring →
    ((m : ℕ) → m < old.count → get_or new.sets m [] ≡ get_or old.sets m []) → new.is_whole ≡ old.is_whole → AreWithin W n ring → AreKept W (n + 1) new
kept_more W n old new ring before count here same whole shows = record {
  count = omega (arith, count, before.count);
  open_yet = whole ∙ before.open_yet;
  kept = λ m k s l low. elim (cases_lt m n) [
    | inl less ↦ subst (λ (x : List ℕ). (has (of_kind x k) s ≡ true) ↔ W m k s) (sym (same m (omega (arith, before.count)))) (before.kept m k s less low)
    | inr over ↦
        (let e : m ≡ n = omega arith in
        let f : m ≡ old.count = omega (arith, before.count) in
        let ring_is : get_or new.sets m [] ≡ ring = ap (λ (x : ℕ). get_or new.sets x []) f ∙ here in
        subst (λ (x : List ℕ). (has (of_kind x k) s ≡ true) ↔ W m k s) (sym ring_is) (subst (λ (x : ℕ). (has (of_kind ring k) s ≡ true) ↔ W x k s) (sym e) (shows k s low)))
  ];
}

-- the rings are as many as were asked for
pub rings_open : (W : ℕ → Kind → ℕ → Type 0) (n : ℕ) (r : Rings) → 1 ≤ n → n ≤ 12 → AreKept W n r → AreRings W r
rings_open W n r some few before = record {
  some = omega (arith, before.count);
  few = omega (arith, before.count);
  kept = λ m k s l low. before.kept m k s (omega (arith, before.count)) low;
  whole = λ e. absurd (not_both r.is_whole e before.open_yet);
}

-- the rings are whole
pub rings_whole : (W : ℕ → Kind → ℕ → Type 0) (n : ℕ) (old new : Rings) → 1 ≤ n → n ≤ 12 → new.sets ≡ old.sets → new.count ≡ old.count → AreKept W n old →
    ((m : ℕ) (k : Kind) (s : ℕ) → s < 64 → W m k s → W (n - 1) k s) → AreRings W new
rings_whole W n old new some few same count before all = record {
  some = omega (arith, count, before.count);
  few = omega (arith, count, before.count);
  kept = λ m k s l low. subst (λ (x : List (List ℕ)). (has (of_kind (get_or x m []) k) s ≡ true) ↔ W m k s) (sym same) (before.kept m k s (omega (arith, count, before.count)) low);
  whole = λ _ m k s low h. subst (λ (x : ℕ). W x k s) (let e : n - 1 ≡ new.count - 1 = omega (arith, count, before.count) in e) (all m k s low h);
}

-- ---- what is read
pub ring_shows : (W : ℕ → Kind → ℕ → Type 0) (r : Rings) (n : ℕ) (ring : List ℕ) → ((m m2 : ℕ) (k : Kind) (s : ℕ) → m ≤ m2 → W m k s → W m2 k s) → AreRings W r → IsRing r n ring → AreWithin W n ring
ring_shows W r n ring up rings is k s low =
    let some : 1 ≤ r.count = rings.some in
    let one : (has (of_kind ring k) s ≡ true) ↔ W is.at k s = subst (λ (x : List ℕ). (has (of_kind x k) s ≡ true) ↔ W is.at k s) (sym is.same) (rings.kept is.at k s is.kept low) in
    elim is.fits [
      | inl e ↦ subst (λ (x : ℕ). (has (of_kind ring k) s ≡ true) ↔ W x k s) e one
      | inr (e, le, whole) ↦ (
        λ h. up is.at n k s (omega arith) (one.0 h),
        λ h. one.1 (subst (λ (x : ℕ). W x k s) (sym e) (rings.whole whole n k s low h)),
      )
    ]

pub back_more : (f : Facts) (c : Color) (quiet : Bool) (goals : List ℕ) (n m : ℕ) (k : Kind) (s : ℕ) → n ≤ m → BackWithin f c quiet goals n k s → BackWithin f c quiet goals m k s
back_more f c quiet goals n m k s le (j, t, ls, low, on, path, small) = (j, t, ls, low, on, path, omega arith)

-- ---- whose last step may be a capture
module _ (f : Facts) (c : Color) (quiet : Bool) (k : Kind) (s : ℕ) where
  pub stands_more : (n m : ℕ) (j : Kind) (t : ℕ) → n ≤ m → AheadWithin f c quiet k s n j t → AheadWithin f c quiet k s m j t
  stands_more n m j t le (ls, path, small) = (ls, path, omega arith)

  pub after_more : (n m : ℕ) (j : Kind) (t : ℕ) → n ≤ m → TakesAfter f c quiet k s n j t → TakesAfter f c quiet k s m j t
  after_more n m j t le (i, x, l, within, step) = (i, x, l, stands_more n m i x le within, step)

  -- such a step counts 0 or 1 by the measure
  pub takes_is : (n m : ℕ) (j : Kind) (t : ℕ) → m ≡ n + cond quiet 0 1 → (TakesAfter f c quiet k s n j t → TakesWithin f c quiet k s m j t) × (TakesWithin f c quiet k s m j t → TakesAfter f c quiet k s n j t)
  takes_is n m j t e = (
    λ (i, x, l, (ls, path, small), (is, may)).
        (let price : ◌≡◌ {A = ℕ} (cond quiet 0 1) (counts f c quiet (leg i x j t)) = taking_counts f c quiet (leg i x j t) may in
        (weigh (counts f c quiet) ls + counts f c quiet (leg i x j t), omega arith, (ls, leg i x j t, path, is, may, refl, refl, refl))),
    λ (p, le, (ls, l, path, is, may, into, to, sum)).
        (let price : ◌≡◌ {A = ℕ} (cond quiet 0 1) (counts f c quiet l) = taking_counts f c quiet l may in
        let step : TakeStep f c l.kind l.from l.into l.to = (is, may) in
        (l.kind, l.from, is.free.0, (ls, path, omega arith), moved (λ y z. TakeStep f c l.kind l.from y z) j l.into t l.to (sym into) (sym to) step)),
  )

  -- in moves it counts 1, so no path within 0 has one
  pub takes_none : (j : Kind) (t : ℕ) → quiet ≡ false → TakesWithin f c quiet k s 0 j t → ⊥
  takes_none j t e (p, le, (ls, l, path, is, may, into, to, sum)) =
      let price : ◌≡◌ {A = ℕ} (cond quiet 0 1) (counts f c quiet l) = taking_counts f c quiet l may in
      let one : ◌≡◌ {A = ℕ} (cond quiet 0 1) 1 = ap (λ (x : Bool). cond x 0 1) e in
      omega arith

  pub takes_quiet : (n : ℕ) (sets : List ℕ) → quiet ≡ true → AreWithin (TakesAfter f c quiet k s) n sets → AreWithin (TakesWithin f c quiet k s) n sets
  takes_quiet n sets e shows j t l =
      let none : ◌≡◌ {A = ℕ} (cond quiet 0 1) 0 = ap (λ (x : Bool). cond x 0 1) e in
      let both = takes_is n n j t (omega arith) in
      (λ h. both.0 ((shows j t l).0 h), λ h. (shows j t l).1 (both.1 h))

  pub takes_moves : (n m : ℕ) (sets : List ℕ) → quiet ≡ false → m ≡ n + 1 → AreWithin (TakesAfter f c quiet k s) n sets → AreWithin (TakesWithin f c quiet k s) m sets
  takes_moves n m sets e more shows j t l =
      let one : ◌≡◌ {A = ℕ} (cond quiet 0 1) 1 = ap (λ (x : Bool). cond x 0 1) e in
      let both = takes_is n m j t (omega arith) in
      (λ h. both.0 ((shows j t l).0 h), λ h. (shows j t l).1 (both.1 h))

  pub takes_nobody : (n : ℕ) (sets : List ℕ) → quiet ≡ false → n ≡ 0 → ((j : Kind) (t : ℕ) → has (of_kind sets j) t ≡ false) → AreWithin (TakesWithin f c quiet k s) n sets
  takes_nobody n sets e zero none j t l = (
    λ h. absurd (not_both (has (of_kind sets j) t) h (none j t)),
    λ h. absurd (takes_none j t e (subst (λ (x : ℕ). TakesWithin f c quiet k s x j t) zero h)),
  )

-- ---- sets that grow
pub grown_as : (S T : Kind → ℕ → Type 0) (a b : List ℕ) → ((j : Kind) (t : ℕ) → t < 64 → S j t → T j t) → ((j : Kind) (t : ℕ) → t < 64 → T j t → S j t) → AreGrown S a b → AreGrown T a b
grown_as S T a b f g m = record {
  kept = m.kept;
  all = λ j t l h. m.all j t l (g j t l h);
  added = λ j t l h. elim (m.added j t l h) [ inl u ↦ inl u | inr u ↦ inr (f j t l u) ];
}

pub grown_then : (S T : Kind → ℕ → Type 0) (a b d : List ℕ) → AreGrown S a b → AreGrown T b d → AreGrown (λ j t. S j t ⊎ T j t) a d
grown_then S T a b d m n = record {
  kept = λ j t l h. n.kept j t l (m.kept j t l h);
  all = λ j t l h. elim h [ inl u ↦ n.kept j t l (m.all j t l u) | inr u ↦ n.all j t l u ];
  added = λ j t l h. elim (n.added j t l h) [
    | inl u ↦ elim (m.added j t l u) [ inl v ↦ inl v | inr v ↦ inr (inl v) ]
    | inr u ↦ inr (inr u)
  ];
}

pub grown_set : (k : Kind) (x : ℕ) (a b : List ℕ) → IsJoined k x a b → AreGrown (λ j t. (j ≡ k) × (has x t ≡ true)) a b
grown_set k x a b joined = record {
  kept = λ j t l h. joined_old k x a b joined j t h;
  all = λ j t l (e, h). joined_new k x a b joined j t e h;
  added = λ j t l h. joined_from k x a b joined j t h;
}
