-- The men of a colour have a listing, and sums over them are sums along it.
use Rattle.std.proofs.Common.{◌≡◌, ◌≢◌, ℕ, zero, suc, ◌<◌, ◌≤◌, ◌⊎◌, inl, inr, Bool, true, false, cond, refl, sym, ap, subst, arith, ◌∙◌}
use Rattle.std.proofs.lemmas.Bool.Decides.{eqb_tells}
use Rattle.pg_board.specs.declared.man.Color.{Color}
use Rattle.pg_board.specs.declared.man.Kind.{Kind}
use Rattle.pg_board.specs.Tally.{total, one, tally, tally_below}
use Rattle.pg_board.specs.Placement.{Placement}
use Rattle.pg_board.specs.lemmas.Sums.{total_same}
use Rattle.pg_position.specs.Position.{Stands}
use Rattle.pg_captures.specs.Counting.{men, any_man, is_there, on, sum_over}
use Rattle.pg_travel.specs.lemmas.SumLemmas.{there_man, man_there}
use Rattle.pg_journeys.specs.PlanCosts.{IsListing}
use Rattle.pg_journeys.specs.lemmas.Rows.{sent_at_most, taken_at_most}
use Rattle.pg_journeys.specs.lemmas.Updates.{put_at, put_here, put_there}
use Rattle.pg_tolls.specs.lemmas.MenSums.{at_man}

-- the squares of the men of c among the first n squares, each once
record Listed (b : Placement) (c : Color) (n : ℕ) : Type 0 where
  xs : ℕ → ℕ
  count : ℕ
  low : (i : ℕ) → i < count → xs i < n
  stands : (i : ℕ) → i < count → (k : Kind) × Stands b c k (xs i)
  listed : (k : Kind) (s : ℕ) → s < n → Stands b c k s → (i : ℕ) × (i < count) × (xs i ≡ s)
  different : (i j : ℕ) → i < count → j < count → xs i ≡ xs j → i ≡ j
  counts : total (λ s. one (is_there c any_man b s)) n ≡ count

module _ (b : Placement) (c : Color) (n : ℕ) (p : Listed b c n) (k : Kind) (st : Stands b c k n) where
  more : ℕ → ℕ
  more = put_at p.count n p.xs

  new : (i : ℕ) → i ≡ p.count → more i ≡ n
  unfolding more
  new i e = put_here p.count n p.xs i e

  old : (i : ℕ) → i ≢ p.count → more i ≡ p.xs i
  unfolding more
  old i ne = put_there p.count n p.xs i ne

  below : (i : ℕ) → i < suc p.count → i ≢ p.count → i < p.count
  below i low ne = omega arith

  one_more : Listed b c (suc n)
  unfolding total
  one_more =
      record {
        xs = more;
        count = suc p.count;
        low = λ i l. elim (eqb_tells i p.count) [
          | inl w ↦ (let e : more i ≡ n = new i w.1 in omega arith)
          | inr w ↦ (let e : more i ≡ p.xs i = old i w.1 in omega (arith, p.low i (below i l w.1)))
        ];
        stands = λ i l. elim (eqb_tells i p.count) [
          | inl w ↦ (k, subst (λ (x : ℕ). Stands b c k x) (sym (new i w.1)) st)
          | inr w ↦ (let h : (j : Kind) × Stands b c j (p.xs i) = p.stands i (below i l w.1) in (h.0, subst (λ (x : ℕ). Stands b c h.0 x) (sym (old i w.1)) h.1))
        ];
        listed = λ j s l h. elim (eqb_tells s n) [
          | inl w ↦ (p.count, omega arith, new p.count refl ∙ sym w.1)
          | inr w ↦
              (let ne : s ≢ n = w.1 in
              let at : (i : ℕ) × (i < p.count) × (p.xs i ≡ s) = p.listed j s (omega arith) h in
              (at.0, (let q : at.0 < p.count = at.1 in omega arith), old at.0 (λ e. (let q : at.0 < p.count = at.1 in omega arith)) ∙ at.2))
        ];
        different = λ i j li lj e. elim (eqb_tells i p.count) [
          | inl w ↦ elim (eqb_tells j p.count) [
            | inl z ↦ w.1 ∙ sym z.1
            | inr z ↦ absurd (let q : n ≡ p.xs j = sym (new i w.1) ∙ e ∙ old j z.1 in omega (arith, p.low j (below j lj z.1)))
          ]
          | inr w ↦ elim (eqb_tells j p.count) [
            | inl z ↦ absurd (let q : p.xs i ≡ n = sym (old i w.1) ∙ e ∙ new j z.1 in omega (arith, p.low i (below i li w.1)))
            | inr z ↦ p.different i j (below i li w.1) (below j lj z.1) (sym (old i w.1) ∙ e ∙ old j z.1)
          ]
        ];
        counts = (let o : one (is_there c any_man b n) ≡ 1 = ap one (man_there c b k n st) in omega (arith, p.counts));
      }

no_more : (b : Placement) (c : Color) (n : ℕ) → Listed b c n → is_there c any_man b n ≡ false → Listed b c (suc n)
unfolding total
no_more b c n p none =
    record {
      xs = p.xs;
      count = p.count;
      low = λ i l. omega (arith, p.low i l);
      stands = p.stands;
      listed = λ j s l h. elim (eqb_tells s n) [
        | inl w ↦ absurd (let z : true ≡ false = sym (man_there c b j n (subst (λ (x : ℕ). Stands b c j x) w.1 h)) ∙ none in cc)
        | inr w ↦ (let ne : s ≢ n = w.1 in p.listed j s (omega arith) h)
      ];
      different = p.different;
      counts = (let o : one (is_there c any_man b n) ≡ 0 = ap one none in omega (arith, p.counts));
    }

next_listed : (b : Placement) (c : Color) (n : ℕ) → Listed b c n → (t : Bool) → is_there c any_man b n ≡ t → Listed b c (suc n)
next_listed b c n p true e = (let m : (j : Kind) × Stands b c j n = there_man c b n e in one_more b c n p m.0 m.1)
next_listed b c n p false e = no_more b c n p e

men_listed : (b : Placement) (c : Color) (n : ℕ) → Listed b c n
unfolding total
men_listed b c zero =
    record {
      xs = λ i. 0;
      count = 0;
      low = λ i l. absurd (omega arith);
      stands = λ i l. absurd (omega arith);
      listed = λ k s l h. absurd (omega arith);
      different = λ i j li lj e. absurd (omega arith);
      counts = refl;
    }
men_listed b c (suc n) = next_listed b c n (men_listed b c n) (is_there c any_man b n) refl

pub some_listing : (b : Placement) (c : Color) → (xs : ℕ → ℕ) × IsListing b c xs (men c any_man b)
unfolding tally tally_below
some_listing b c =
    let p : Listed b c 64 = men_listed b c 64 in
    (p.xs, subst (λ (n : ℕ). IsListing b c p.xs n) (sym p.counts) (record { low = p.low; stands = p.stands; listed = p.listed; different = p.different }))

-- a sum over the men, along a listing of them
pub sum_listed : (b : Placement) (c : Color) (xs : ℕ → ℕ) (n : ℕ) (u : ℕ → ℕ) → IsListing b c xs n → sum_over c any_man b u ≡ total (λ i. u (xs i)) n
sum_listed b c xs n u rows =
    let same : total (λ i. on (is_there c any_man b) u (xs i)) n ≡ total (λ i. u (xs i)) n =
    total_same (λ i. u (xs i)) (λ i. on (is_there c any_man b) u (xs i)) n (λ i low. (let k : (k : Kind) × Stands b c k (xs i) = rows.stands i low in at_man c b u k.0 (xs i) k.1)) in
    let most : total (λ i. on (is_there c any_man b) u (xs i)) n ≤ total (on (is_there c any_man b) u) 64 = sent_at_most (on (is_there c any_man b) u) xs n 64 rows.low rows.different in
    let least : total (on (is_there c any_man b) u) 64 ≤ total (λ i. on (is_there c any_man b) u (xs i)) n = taken_at_most (on (is_there c any_man b) u) xs n 64 (λ s low. each s low (is_there c any_man b s) refl) in
    omega arith
  where
    each : (s : ℕ) → s < 64 → (t : Bool) → is_there c any_man b s ≡ t → (on (is_there c any_man b) u s ≡ 0) ⊎ ((i : ℕ) × (i < n) × (xs i ≡ s))
    each s low true e = (let m : (j : Kind) × Stands b c j s = there_man c b s e in inr (rows.listed m.0 s low m.1))
    each s low false e = inl (ap (λ (t : Bool). cond t (u s) 0) e)
