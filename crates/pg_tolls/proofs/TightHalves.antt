-- Halves of one tariff with the highest tables have the same numbers, so what is remembered of one is true of each. Leads to
-- the contracts of tables, making, tolls and memory.
use Rattle.pg_tolls.proofs.Common.{◌≡◌, ◌≢◌, ℕ, ◌+◌, ◌*◌, ◌<◌, ◌≤◌, ◌↔◌, min, inl, inr, ltb, List, [], Option, Some, None, get_or, refl, sym, ap, subst, arith, ◌∙◌, cases_Bool, ltb-true, ltb-false, Color, Kind, Pawn, other, Placement, Wing, KingSide, QueenSide, State, Stands, holds, Facts, HasFew, leg, kind_at, square_at, Men, AreOfWalls, Tariff, AreLayers, Numbers, AreClosedAt, AreClosedTo, numbers_of, most_for, AreOnSame, IsTight, MayBeTight, HasNotPassed, IsCase, Tells, entry, raised, IsWithin, kind_of, marks_for, IsCost, same_still, same_leg, same_lands, no_proof, Half, Case}
use Rattle.std.proofs.Math.Logic.{∥∥₁_elim, ∥∥₁_map}
use Rattle.std.specs.Coded.{le_prop}
use Rattle.pg_assignments.specs.Assignments.{IsLeast}
use Rattle.pg_tolls.specs.lemmas.DecidingCosts.{dec_cost_within}
use Rattle.pg_tolls.proofs.ClosingLemmas.{piece_of, falls_of}
use Rattle.pg_tolls.proofs.SameCosts.{AreSameCase, cost_there}
use Rattle.pg_tolls.proofs.LeastLemmas.{least_along}

-- ---- the numbers of a closed table are closed
capped_within : (a b charge : ℕ) → IsWithin a b charge → IsWithin (min a 65535) (min b 65535) charge
capped_within a b charge w = elim (cases_Bool (ltb b 65535)) [
  | inl t ↦ (let l : b < 65535 = ltb-true b 65535 t in let m : a < 65535 = w.1 l in let le : a ≤ b + charge = w.0 in (omega arith, λ _. omega arith))
  | inr f ↦ (let g : 65535 ≤ b = ltb-false b 65535 f in (omega arith, λ h. absurd (omega (arith, h))))
]

pub numbers_closed : (t : Tariff) (f : Facts) (c : Color) (goals : Men) (most : ℕ) (rows : List (List ℕ)) → AreLayers t f c goals most rows → AreClosedTo t f c goals (numbers_of rows) most
numbers_closed t f c goals most rows layers j lj = record {
  numbers = λ k s e. omega arith;
  ends = λ e le. omega (arith, (layers j lj).ends e le);
  falls = λ room k ne s ls lands. omega (arith, falls_of t f c rows j k ((layers j lj).falls room) ne s ls lands);
  plain = λ k ne s q e ls lq le l. capped_within (entry rows j k s e) (entry rows j k q e) (t.weight c) ((piece_of t f c rows j k (layers j lj).steps ne).plain s q e ls lq le l);
  take = λ i is k ne s q e ls lq le l. capped_within (entry rows j k s e) (entry rows i k q e) (t.weight c + raised t c q) ((piece_of t f c rows j k (layers j lj).steps ne).take i s q e is ls lq le l);
  pushed = λ s q e ls lq le p. capped_within (entry rows j Pawn s e) (entry rows j Pawn q e) (t.weight c) ((layers j lj).steps.pawn.plain s q e ls lq le p);
  captured = λ i is s q e ls lq le p. capped_within (entry rows j Pawn s e) (entry rows i Pawn q e) (t.weight c + raised t c q) ((layers j lj).steps.pawn.take i s q e is ls lq le p);
  promoted = λ k q e is lq le on. omega (arith, (layers j lj).steps.pawn.promoted k q e is lq le on);
}

-- ---- facts that tell the same walls
closed_along : (t : Tariff) (f g : Facts) (d : Placement) (c : Color) (goals : Men) (u : Numbers) (j : ℕ) → AreOfWalls f d → AreOfWalls g d → AreClosedAt t f c goals u j → AreClosedAt t g c goals u j
closed_along t f g d c goals u j one two h = record {
  numbers = h.numbers;
  ends = h.ends;
  falls = λ room k ne s ls lands. h.falls room k ne s ls (same_lands g f d two one (other c) s ls lands);
  plain = λ k ne s q e ls lq le l. h.plain k ne s q e ls lq le (same_leg g f d two one c (leg k s k q) l);
  take = λ i is k ne s q e ls lq le l. h.take i is k ne s q e ls lq le (same_leg g f d two one c (leg k s k q) l);
  pushed = λ s q e ls lq le p. h.pushed s q e ls lq le (p.0, (same_leg g f d two one c (leg Pawn s p.0 q) p.1.0, p.1.1));
  captured = λ i is s q e ls lq le p. h.captured i is s q e ls lq le (p.0, (same_leg g f d two one c (leg Pawn s p.0 q) p.1.0, p.1.1));
  promoted = h.promoted;
}

-- ---- the same numbers
-- one man stands on a square
one_kind : (d : Placement) (c : Color) (k j : Kind) (s : ℕ) → Stands d c k s → Stands d c j s → k ≡ j
one_kind d c k j s one two = ap kind_of (sym one ∙ two)

-- numbers that are closed for some men of d are for the same men
goals_along : (t : Tariff) (f : Facts) (c : Color) (d : Placement) (g h : Men) (u : Numbers) (j : ℕ) → AreOnSame g h → ((i : ℕ) → i < g.count → Stands d c (kind_at g i) (square_at g i)) → ((i : ℕ) → i < h.count → Stands d c (kind_at h i) (square_at h i)) →
    AreClosedAt t f c h u j → AreClosedAt t f c g u j
goals_along t f c d g h u j same here there closed = record {
  numbers = closed.numbers;
  ends = λ e low.
      (let under : e < h.count = omega (arith, low, same.count) in
      let square : square_at g e ≡ square_at h e = ap (λ (xs : List ℕ). get_or xs e 0) same.squares in
      let kind : kind_at g e ≡ kind_at h e = one_kind d c (kind_at g e) (kind_at h e) (square_at h e) (subst (λ (s : ℕ). Stands d c (kind_at g e) s) square (here e low)) (there e under) in
      subst (λ (s : ℕ). u j (kind_at g e) s e ≤ 128 * j) (sym square) (subst (λ (k : Kind). u j k (square_at h e) e ≤ 128 * j) (sym kind) (closed.ends e under)));
  falls = λ room. closed.falls (omega (arith, room, same.count));
  plain = closed.plain;
  take = closed.take;
  pushed = closed.pushed;
  captured = closed.captured;
  promoted = closed.promoted;
}

module _ (t : Tariff) (d : Placement) (x y : Half) (color : y.color ≡ x.color) (goals : AreOnSame x.goals y.goals) where
  -- the numbers of y are closed for x, where they are for y
  numbers_for : (f g : Facts) → AreOfWalls f d → AreOfWalls g d → IsTight t f d x → IsTight t g d y → AreClosedTo t f x.color x.goals (numbers_of y.rows.items) (most_for d x.color)
  numbers_for f g one two own tight j le =
      closed_along t g f d x.color x.goals (numbers_of y.rows.items) j two one
      (goals_along t g x.color d x.goals y.goals (numbers_of y.rows.items) j goals own.standing
      (subst (λ (c : Color). (i : ℕ) → i < y.goals.count → Stands d c (kind_at y.goals i) (square_at y.goals i)) color tight.standing)
      (subst (λ (c : Color). AreClosedTo t g c y.goals (numbers_of y.rows.items) (most_for d c)) color tight.rows.closed j le))

  pub no_higher : (f g : Facts) → AreOfWalls f d → AreOfWalls g d → IsTight t f d x → IsTight t g d y → (j s e : ℕ) (k : Kind) → j ≤ most_for d x.color → s < 64 → e < 16 →
      min (entry y.rows.items j k s e) 65535 ≤ entry x.rows.items j k s e
  no_higher f g one two tight other j s e k lj ls le = tight.rows.highest (numbers_of y.rows.items) j (omega (arith, lj)) (λ i li. numbers_for f g one two tight other i (omega (arith, li, lj))) k s e ls le

on_same : (g h k : Men) → AreOnSame g h → AreOnSame k h → AreOnSame g k
on_same g h k one two = record { count = one.count ∙ sym two.count; squares = one.squares ∙ sym two.squares }

itself : (g : Men) → AreOnSame g g
itself g = record { count = refl; squares = refl }

equal_capped : (a b : ℕ) → min a 65535 ≤ b → min b 65535 ≤ a → min a 65535 ≡ min b 65535
equal_capped a b one two = omega arith

-- halves of a colour in two positions that are the same case for it
module _ (t : Tariff) (d : Placement) (c : Color) (goals : Men) (x y : Half) (cx : x.color ≡ c) (cy : y.color ≡ c) (gx : AreOnSame x.goals goals) (gy : AreOnSame y.goals goals) (p q : State) (few_p : HasFew p) (few_q : HasFew q) (off_p : HasNotPassed p c) (off_q : HasNotPassed q c) (a : Case) (case_p : IsCase c (marks_for x d p.board) p a) (case_q : IsCase c (marks_for y d q.board) q a) where
  same_men : (k : Kind) (s : ℕ) → s < 64 → Stands p.board c k s ↔ Stands q.board c k s
  same_men k s low = (λ st. (case_q.men k s low).1 ((case_p.men k s low).0 st), λ st. (case_p.men k s low).1 ((case_q.men k s low).0 st))

  same_rights : (w : Wing) → holds p.rights c w ≡ holds q.rights c w
  same_rights KingSide = case_p.king_side ∙ sym case_q.king_side
  same_rights QueenSide = case_p.queen_side ∙ sym case_q.queen_side

  marks_few : marks_for x d p.board ≤ most_for d x.color
  marks_few = omega (arith, few_p (other x.color))

  same_case : (f g : Facts) → AreOfWalls f d → AreOfWalls g d → IsTight t f d x → IsTight t g d y → AreSameCase d x y p q
  same_case f g one two tight_x tight_y = record {
    color = cy ∙ sym cx;
    count = gx.count ∙ sym gy.count;
    weight = tight_x.weight ∙ ap t.weight (cx ∙ sym cy) ∙ sym tight_y.weight;
    free = λ s low on. (tight_y.free s low).1 (same_still f g d one two s low ((tight_x.free s low).0 on));
    own = subst (λ (b : Color). (k : Kind) (s : ℕ) → s < 64 → Stands p.board b k s ↔ Stands q.board b k s) (sym cx) same_men;
    rights = subst (λ (b : Color). (w : Wing) → holds p.rights b w ≡ holds q.rights b w) (sym cx) same_rights;
    marks = case_p.marks ∙ sym case_q.marks;
    first = subst (λ (b : Color). HasNotPassed p b) (sym cx) off_p;
    second = subst (λ (b : Color). HasNotPassed q b) (sym cx) off_q;
    few = few_p x.color;
    numbers = λ k s e ls le.
        equal_capped (entry x.rows.items (marks_for x d p.board) k s e) (entry y.rows.items (marks_for x d p.board) k s e)
        (no_higher t d y x (cx ∙ sym cy) (on_same y.goals goals x.goals gy gx) g f two one tight_y tight_x (marks_for x d p.board) s e k (subst (λ (b : Color). marks_for x d p.board ≤ most_for d b) (cx ∙ sym cy) marks_few) ls le)
        (no_higher t d x y (cy ∙ sym cx) (on_same x.goals goals y.goals gx gy) f g one two tight_x tight_y (marks_for x d p.board) s e k marks_few ls le);
  }

  pub costs_there : x.rows.items ≢ [] → y.rows.items ≢ [] → MayBeTight t d x → MayBeTight t d y → (v : ℕ) → IsCost x d p v → IsCost y d q v
  costs_there full_x full_y may_x may_y v cost =
      let one : (f : Facts) × AreOfWalls f d × IsTight t f d x = may_x full_x in
      let two : (f : Facts) × AreOfWalls f d × IsTight t f d y = may_y full_y in
      cost_there d x y p q (same_case one.0 two.0 one.1 two.1 one.2 two.2) v cost

-- ---- the least cost
-- that a number is least is known where it is known in truth alone
pub least_known : (x : Half) (d : Placement) (p : State) (o : Option ℕ) → ∥ IsLeast (IsCost x d p) o ∥₁ → IsLeast (IsCost x d p) o
unfolding IsLeast
least_known x d p None h = λ v cost. ∥∥₁_elim h no_proof (λ none. none v cost)
least_known x d p (Some n) h =
    let low : (v : ℕ) → IsCost x d p v → n ≤ v = λ v cost. ∥∥₁_elim h le_prop (λ least. least.1 v cost) in
    elim (dec_cost_within x d p n) [
      | yes w ↦ (let same : w.0 ≡ n = omega (arith, w.2, low w.0 w.1) in (subst (λ (v : ℕ). IsCost x d p v) same w.1, low))
      | no f ↦ absurd (∥∥₁_elim h no_proof (λ least. f (n, least.0, omega arith)))
    ]

-- ---- what is remembered
-- what one half costs is told of each
pub told_by : (t : Tariff) (d : Placement) (x : Half) (p : State) (a : Case) (o : Option ℕ) → x.rows.items ≢ [] → HasFew p → HasNotPassed p x.color → IsCase x.color (marks_for x d p.board) p a →
    ∥ MayBeTight t d x ∥₁ → IsLeast (IsCost x d p) o → Tells t d x.color x.goals a o
told_by t d x p a o full few off is may least y cy gy full_y may_y q few_q off_q is_q =
    least_known y d q o (∥∥₁_map may (λ m.
    least_along (IsCost x d p) (IsCost y d q) o
    (costs_there t d x.color x.goals x y refl cy (itself x.goals) gy p q few few_q off off_q a is is_q full full_y m may_y)
    (costs_there t d x.color x.goals y x cy refl gy (itself x.goals) q p few_q few off_q off a is_q is full_y full may_y m)
    least))

pub told_of : (t : Tariff) (d : Placement) (x : Half) (p : State) (a : Case) (o : Option ℕ) → x.rows.items ≢ [] → HasFew p → HasNotPassed p x.color → IsCase x.color (marks_for x d p.board) p a →
    ∥ MayBeTight t d x ∥₁ → Tells t d x.color x.goals a o → IsLeast (IsCost x d p) o
told_of t d x p a o full few off is may tells = least_known x d p o (∥∥₁_map may (λ m. tells x refl (itself x.goals) full m p few off is))
