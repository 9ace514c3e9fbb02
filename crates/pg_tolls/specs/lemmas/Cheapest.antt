-- A plan is at most so cheap: by tables that are closed under steps its men cost no more than it is charged.
use Rattle.std.proofs.Common.{◌≡◌, ◌≢◌, ℕ, zero, suc, ◌+◌, ◌*◌, ◌-◌, ◌<◌, ◌≤◌, inl, inr, Option, Some, None, Bool, true, false, cond, min, nat_eq, ltb, ◌&&◌, refl, sym, ap, subst, arith, ◌∙◌, List, length, get_or}
use Rattle.std.proofs.Math.Nat.{min-le_left, min-le_right, mul-add, mul-suc, mul_assoc}
use Rattle.std.proofs.lemmas.Bool.{eq-eqb, lt-ltb, le-ltb, and_from}
use Rattle.pg_board.specs.Bits.{has}
use Rattle.pg_board.specs.declared.man.Color.{Color}
use Rattle.pg_board.specs.declared.man.Color.TheVariants.{White, Black}
use Rattle.pg_board.specs.declared.man.Kind.{Kind}
use Rattle.pg_board.specs.declared.man.Kind.TheVariants.{Pawn, Knight, Bishop, Rook, Queen, King}
use Rattle.pg_board.specs.Men.{color_eq, kind_eq, other}
use Rattle.pg_board.specs.Placement.{Placement}
use Rattle.pg_board.specs.Tally.{total}
use Rattle.pg_board.specs.lemmas.Decisions.{dec_less}
use Rattle.pg_board.specs.lemmas.Sums.{total-le}
use Rattle.pg_position.specs.declared.rights.Wing.{Wing}
use Rattle.pg_position.specs.declared.state.State.{State}
use Rattle.pg_position.specs.Position.{Stands}
use Rattle.pg_position.specs.Squares.{ahead, king_home, rook_home}
use Rattle.pg_position.proofs.ValidLemmas.{castle_squares, CastleSquares}
use Rattle.pg_captures.specs.Counting.{men, any_man, sum_over}
use Rattle.pg_captures.specs.Owed.{victims}
use Rattle.pg_travel.specs.Origins.{charge, counted}
use Rattle.pg_travel.specs.lemmas.SumLemmas.{sum_add}
use Rattle.pg_journeys.specs.Facts.{Facts}
use Rattle.pg_journeys.specs.Journeys.{Leg, Fate, Arrives, Falls, Meets, IsWayUnder}
use Rattle.pg_journeys.specs.PlanCosts.{IsListing, InColumn}
use Rattle.pg_journeys.specs.inner.Sides.{square_at}
use Rattle.pg_journeys.specs.lemmas.ColumnsOfPlans.{index, index_is, HasColumns, columns_of_plan}
use Rattle.pg_journeys.specs.lemmas.Rows.{sent_at_most}
use Rattle.pg_tolls.specs.Tariffs.{Tariff, dear, cheap}
use Rattle.pg_tolls.specs.Marks.{AreMarks, marked, marks_of, fallen}
use Rattle.pg_tolls.specs.Charges.{Plan, pays, spared}
use Rattle.pg_tolls.specs.inner.Tables.{entry, raised}
use Rattle.pg_tolls.specs.inner.Halves.{IsHalf, IsInRange}
use Rattle.pg_tolls.specs.inner.Values.{kind_on, kind_of, by_passing, cost_at, least_of, clipped, marks_for, AreColumns, IsOpenWay, IsCost}
use Rattle.pg_tolls.specs.lemmas.Listings.{some_listing, sum_listed}
use Rattle.pg_tolls.specs.lemmas.WalksBelow.{goal_below, fall_below}
use Rattle.pg_tolls.specs.declared.half.Half.{Half}

-- ---- what a fate costs
kind_no_king : (k : Kind) → k ≢ King → kind_eq k King ≡ false
kind_no_king Pawn ne = refl
kind_no_king Knight ne = refl
kind_no_king Bishop ne = refl
kind_no_king Rook ne = refl
kind_no_king Queen ne = refl
kind_no_king King ne = absurd (ne refl)

color_same : (c d : Color) → c ≡ d → color_eq c d ≡ true
color_same White White e = refl
color_same Black Black e = refl
color_same White Black e = cc
color_same Black White e = cc

lesser : (b : Bool) (x y : ℕ) → cond b (min x y) x ≤ x
lesser true x y = min-le_left x y
lesser false x y = omega arith

passing_less : (x : Half) (side : Color) (j s n : ℕ) (o : Option ℕ) → by_passing x side j s n o ≤ n
passing_less x side j s n None = omega arith
passing_less x side j s n (Some u) = lesser (color_eq side (other x.color) && (nat_eq s (ahead x.color 1 u) && has x.free u)) n (get_or x.lost u 0 + 128 * j)

passing_by : (x : Half) (side : Color) (j s n u : ℕ) (o : Option ℕ) → o ≡ Some u → side ≡ other x.color → s ≡ ahead x.color 1 u → has x.free u ≡ true → by_passing x side j s n o ≤ get_or x.lost u 0 + 128 * j
passing_by x side j s n u o e is at free =
    let t : (color_eq side (other x.color) && (nat_eq s (ahead x.color 1 u) && has x.free u)) ≡ true =
    and_from (color_eq side (other x.color)) (nat_eq s (ahead x.color 1 u) && has x.free u) (color_same side (other x.color) is) (and_from (nat_eq s (ahead x.color 1 u)) (has x.free u) (eq-eqb s (ahead x.color 1 u) at) free) in
    let z : by_passing x side j s n o ≡ min n (get_or x.lost u 0 + 128 * j) = ap (by_passing x side j s n) e ∙ ap (λ (b : Bool). cond b (min n (get_or x.lost u 0 + 128 * j)) n) t in
    omega (arith, min-le_right n (get_or x.lost u 0 + 128 * j))

module _ (x : Half) (p : State) (way : Option Wing) (j s e : ℕ) (k : Kind) (st : Stands p.board x.color k s) where
  kind_is : kind_on p.board s ≡ k
  kind_is = ap kind_of st

  goal_cost : e < x.goals.count → cost_at x p way j s e ≡ entry x.rows.items j k (counted x.color way s) e
  goal_cost low =
      ap (λ (b : Bool). cond b (entry x.rows.items j (kind_on p.board s) (counted x.color way s) e) (cond (kind_eq (kind_on p.board s) King) 65535 (by_passing x p.side j s (entry x.rows.items j (kind_on p.board s) (counted x.color way s) 15) p.passed))) (lt-ltb e x.goals.count low)
      ∙ ap (λ (i : Kind). entry x.rows.items j i (counted x.color way s) e) kind_is

  fall_cost : x.goals.count ≤ e → k ≢ King → cost_at x p way j s e ≡ by_passing x p.side j s (entry x.rows.items j k (counted x.color way s) 15) p.passed
  fall_cost high ne =
      ap (λ (b : Bool). cond b (entry x.rows.items j (kind_on p.board s) (counted x.color way s) e) (cond (kind_eq (kind_on p.board s) King) 65535 (by_passing x p.side j s (entry x.rows.items j (kind_on p.board s) (counted x.color way s) 15) p.passed))) (le-ltb e x.goals.count high)
      ∙ ap (λ (i : Kind). cond (kind_eq i King) 65535 (by_passing x p.side j s (entry x.rows.items j i (counted x.color way s) 15) p.passed)) kind_is
      ∙ ap (λ (b : Bool). cond b 65535 (by_passing x p.side j s (entry x.rows.items j k (counted x.color way s) 15) p.passed)) (kind_no_king k ne)

-- ---- one man of a plan
-- 127 for a column of captured men
at_end : ℕ → ℕ → ℕ
at_end m e = cond (ltb e m) 0 127

at_goal : (m e : ℕ) → e < m → at_end m e ≡ 0
unfolding at_end
at_goal m e low = ap (λ (b : Bool). cond b 0 127) (lt-ltb e m low)

at_fall : (m e : ℕ) → m ≤ e → at_end m e ≡ 127
unfolding at_end
at_fall m e high = ap (λ (b : Bool). cond b 0 127) (le-ltb e m high)

module _ (t : Tariff) (f : Facts) (d : Placement) (p : State) (x : Half) (range : IsInRange t) (half : IsHalf t f d x) (lands : (s : ℕ) → s < 64 → f.lands (other x.color) s ≡ true → has x.free s ≡ true) (way : Option Wing) (j e n : ℕ) (few : j ≤ half.most) (inside : e < n) (small : n ≤ 16) where
  -- the man on s costs at the column e no number above what his walk is charged
  Within : ℕ → Fate → List Leg → List Bool → Type 0
  Within s o ls bs =
      (cost_at x p way j s e < 65535)
      × (cost_at x p way j s e + marked (cheap t x.color) ls bs + fallen (dear t (other x.color)) o ≤ 128 * j + at_end x.goals.count e + t.weight x.color * length ls + marked (dear t x.color) ls bs + fallen (cheap t (other x.color)) o)

  man_within : (k : Kind) (s : ℕ) (o : Fate) (ls : List Leg) (bs : List Bool) → s < 64 → Stands p.board x.color k s → InColumn (square_at x.goals) x.goals.count e o → AreMarks f x.color ls bs → marks_of ls bs ≤ j →
      Meets f d p x.color k s (counted x.color way s) ls o → Within s o ls bs
  unfolding Within
  man_within k s (Arrives u) ls bs low st (is_goal, at) are cap (i, lu, there, path) =
      let w : (entry x.rows.items j k (counted x.color way s) e < 65535) × (entry x.rows.items j k (counted x.color way s) e + marked (cheap t x.color) ls bs ≤ 128 * j + t.weight x.color * length ls + marked (dear t x.color) ls bs) =
      goal_below t f x.color x.goals half.most x.rows.items half.closed e (omega arith) range d half.goals ls bs j k (counted x.color way s) i u is_goal at there are path cap few half.few in
      let c : cost_at x p way j s e ≡ entry x.rows.items j k (counted x.color way s) e = goal_cost x p way j s e k st is_goal in
      let a : at_end x.goals.count e ≡ 0 = at_goal x.goals.count e is_goal in
      (omega (arith, w.0), omega (arith, w.1))
  man_within k s (Falls u) ls bs low st high are cap (ne, lu, lands_u, inl (i, path)) =
      let w : (entry x.rows.items j k (counted x.color way s) 15 < 65535) × (entry x.rows.items j k (counted x.color way s) 15 + marked (cheap t x.color) ls bs + dear t (other x.color) u ≤ 128 * j + 127 + t.weight x.color * length ls + marked (dear t x.color) ls bs + cheap t (other x.color) u) =
      fall_below t f x.color x.goals half.most x.rows.items half.closed range (let z : x.goals.count ≤ e = high in omega arith) ls bs j k (counted x.color way s) i u lu ne lands_u are path cap few half.few in
      let c : cost_at x p way j s e ≡ by_passing x p.side j s (entry x.rows.items j k (counted x.color way s) 15) p.passed = fall_cost x p way j s e k st high ne in
      let l : by_passing x p.side j s (entry x.rows.items j k (counted x.color way s) 15) p.passed ≤ entry x.rows.items j k (counted x.color way s) 15 = passing_less x p.side j s (entry x.rows.items j k (counted x.color way s) 15) p.passed in
      let a : at_end x.goals.count e ≡ 127 = at_fall x.goals.count e high in
      (omega (arith, w.0), omega (arith, w.1))
  man_within k s (Falls u) ls bs low st high are cap (ne, lu, lands_u, inr ((side, passed, at), none)) =
      let c : cost_at x p way j s e ≡ by_passing x p.side j s (entry x.rows.items j k (counted x.color way s) 15) p.passed = fall_cost x p way j s e k st high ne in
      let l : by_passing x p.side j s (entry x.rows.items j k (counted x.color way s) 15) p.passed ≤ get_or x.lost u 0 + 128 * j = passing_by x p.side j s (entry x.rows.items j k (counted x.color way s) 15) u p.passed passed side at (lands u lu lands_u) in
      let a : at_end x.goals.count e ≡ 127 = at_fall x.goals.count e high in
      let m : marked (cheap t x.color) ls bs ≡ 0 = ap (λ (z : List Leg). marked (cheap t x.color) z bs) none in
      let lost : get_or x.lost u 0 + raised t (other x.color) u ≡ 255 = half.lost u lu in
      let toll : raised t (other x.color) u + cheap t (other x.color) u ≡ dear t (other x.color) u + 128 = range (other x.color) u lu in
      (omega (arith, few, half.few), omega arith)

-- ---- sums
total_times : (a : ℕ) (u : ℕ → ℕ) (n : ℕ) → total (λ i. a * u i) n ≡ a * total u n
unfolding total
total_times a u zero = omega arith
total_times a u (suc n) = let e : a * (total u n + u n) ≡ a * total u n + a * u n = mul-add a (total u n) (u n) in omega (arith, total_times a u n)

pub total_constant : (a n : ℕ) → total (λ i. a) n ≡ a * n
unfolding total
total_constant a zero = omega arith
total_constant a (suc n) = let e : a * suc n ≡ a * n + a = mul-suc a n in omega (arith, total_constant a n)

no_ends : (m a : ℕ) → a ≤ m → total (at_end m) a ≡ 0
unfolding total
no_ends m zero l = refl
no_ends m (suc a) l = omega (arith, no_ends m a (omega arith), at_goal m a (omega arith))

-- 127 for each of the columns from m on
ends_total : (m n : ℕ) → m ≤ n → total (at_end m) n ≡ 127 * (n - m)
unfolding total
ends_total m zero le = (let z : m ≡ 0 = omega arith in omega arith)
ends_total m (suc n) le = elim (dec_less n m) [
  | yes l ↦ omega (arith, at_goal m n l, no_ends m n (omega arith))
  | no f ↦ omega (arith, at_fall m n (omega arith), ends_total m n (omega arith))
]

-- ---- all men of a plan
open_way : (f : Facts) (p : State) (x : Half) (way : Option Wing) → ((s : ℕ) → s < 64 → f.still s ≡ false → has x.free s ≡ true) → IsWayUnder f p x.color way → IsOpenWay x p way
open_way f p x None free held = tt
open_way f p x (Some w) free (right, king, rook, between) =
    let q : CastleSquares x.color w = castle_squares x.color w in
    (right, free (king_home x.color) q.home_low king, free (rook_home x.color w) q.rook_low rook, λ s low z. free s low (between s low z))

module _ (t : Tariff) (f : Facts) (d : Placement) (p : State) (x : Half) (range : IsInRange t) (half : IsHalf t f d x) (lands : (s : ℕ) → s < 64 → f.lands (other x.color) s ≡ true → has x.free s ≡ true) (few : men x.color any_man p.board ≤ 16) (their : victims x.color p.board ≤ 16) (room : x.goals.count ≤ men x.color any_man p.board) (pl : Plan f d p x.color) where
  few_marks : marks_for x d p.board ≤ half.most
  few_marks = omega (arith, half.enough)

  rows : (xs : ℕ → ℕ) × IsListing p.board x.color xs (men x.color any_man p.board)
  rows = some_listing p.board x.color

  has_columns : HasColumns (square_at x.goals) (men x.color any_man p.board) x.goals.count (λ i. pl.walks.journeys.fate (rows.0 i))
  has_columns = columns_of_plan f d p x.color pl.way rows.0 (square_at x.goals) (men x.color any_man p.board) x.goals.count rows.1 half.goals.listing pl.walks.journeys

  to : ℕ → ℕ
  to s = has_columns.0 (index rows.0 (men x.color any_man p.board) s)

  at : (k : Kind) (s : ℕ) → s < 64 → Stands p.board x.color k s → (index rows.0 (men x.color any_man p.board) s < men x.color any_man p.board) × (rows.0 (index rows.0 (men x.color any_man p.board) s) ≡ s)
  at k s low st = index_is rows.0 (men x.color any_man p.board) s (rows.1.listed k s low st)

  to_inside : (k : Kind) (s : ℕ) → s < 64 → Stands p.board x.color k s → to s < men x.color any_man p.board
  unfolding to
  to_inside k s low st = has_columns.1 (index rows.0 (men x.color any_man p.board) s) (at k s low st).0

  in_column : (k : Kind) (s : ℕ) → s < 64 → Stands p.board x.color k s → InColumn (square_at x.goals) x.goals.count (to s) (pl.walks.journeys.fate s)
  unfolding to
  in_column k s low st =
      let a : (index rows.0 (men x.color any_man p.board) s < men x.color any_man p.board) × (rows.0 (index rows.0 (men x.color any_man p.board) s) ≡ s) = at k s low st in
      subst (λ (y : ℕ). InColumn (square_at x.goals) x.goals.count (has_columns.0 (index rows.0 (men x.color any_man p.board) s)) (pl.walks.journeys.fate y)) a.1 (has_columns.3 (index rows.0 (men x.color any_man p.board) s) a.0)

  to_of_row : (i : ℕ) → i < men x.color any_man p.board → to (rows.0 i) ≡ has_columns.0 i
  unfolding to
  to_of_row i low =
      let k : (k : Kind) × Stands p.board x.color k (rows.0 i) = rows.1.stands i low in
      let a : (index rows.0 (men x.color any_man p.board) (rows.0 i) < men x.color any_man p.board) × (rows.0 (index rows.0 (men x.color any_man p.board) (rows.0 i)) ≡ rows.0 i) = at k.0 (rows.0 i) (rows.1.low i low) k.1 in
      ap has_columns.0 (rows.1.different (index rows.0 (men x.color any_man p.board) (rows.0 i)) i a.0 low a.1)

  man_cost : (k : Kind) (s : ℕ) (low : s < 64) (st : Stands p.board x.color k s) →
      Within t f d p x range half lands pl.way (marks_for x d p.board) (to s) (men x.color any_man p.board) few_marks (to_inside k s low st) few s (pl.walks.journeys.fate s) (pl.walks.journeys.path s) (pl.walks.marks s)
  man_cost k s low st =
      man_within t f d p x range half lands pl.way (marks_for x d p.board) (to s) (men x.color any_man p.board) few_marks (to_inside k s low st) few k s (pl.walks.journeys.fate s) (pl.walks.journeys.path s) (pl.walks.marks s) low st (in_column k s low st)
      (pl.walks.counted k s low st) (omega (arith, pl.walks.capped k s low st)) (pl.walks.journeys.meets k s low st)

  columns : AreColumns x d p pl.way to
  unfolding Within to
  columns =
      record {
        inside = to_inside;
        some = λ k s low st. (man_cost k s low st).0;
        different = λ k i r s lr ls hr hs e.
            (let a : (index rows.0 (men x.color any_man p.board) r < men x.color any_man p.board) × (rows.0 (index rows.0 (men x.color any_man p.board) r) ≡ r) = at k r lr hr in
            let b : (index rows.0 (men x.color any_man p.board) s < men x.color any_man p.board) × (rows.0 (index rows.0 (men x.color any_man p.board) s) ≡ s) = at i s ls hs in
            sym a.1 ∙ ap rows.0 (has_columns.2 (index rows.0 (men x.color any_man p.board) r) (index rows.0 (men x.color any_man p.board) s) a.0 b.0 e) ∙ b.1);
      }

  -- what each man costs and is spared, and what he pays
  cost : ℕ → ℕ
  cost s = clipped x p pl.way (marks_for x d p.board) (men x.color any_man p.board) s (to s)

  gets : ℕ → ℕ
  gets s = marked (cheap t x.color) (pl.walks.journeys.path s) (pl.walks.marks s) + fallen (dear t (other x.color)) (pl.walks.journeys.fate s)

  gives : ℕ → ℕ
  gives s = t.weight x.color * length (pl.walks.journeys.path s) + marked (dear t x.color) (pl.walks.journeys.path s) (pl.walks.marks s) + fallen (cheap t (other x.color)) (pl.walks.journeys.fate s)

  one_man : (k : Kind) (s : ℕ) → s < 64 → Stands p.board x.color k s → cost s + gets s ≤ 128 * marks_for x d p.board + at_end x.goals.count (to s) + gives s
  unfolding Within cost gets gives
  one_man k s low st =
      omega (arith, (man_cost k s low st).1, min-le_left (cost_at x p pl.way (marks_for x d p.board) s (to s)) (least_of (cost_at x p pl.way (marks_for x d p.board) s) (men x.color any_man p.board) + 254))

  along : (u : ℕ → ℕ) → sum_over x.color any_man p.board u ≡ total (λ i. u (rows.0 i)) (men x.color any_man p.board)
  along u = sum_listed p.board x.color rows.0 (men x.color any_man p.board) u rows.1

  all_men : total (λ i. cost (rows.0 i)) (men x.color any_man p.board) + total (λ i. gets (rows.0 i)) (men x.color any_man p.board)
      ≤ 128 * marks_for x d p.board * men x.color any_man p.board + 127 * (men x.color any_man p.board - x.goals.count) + total (λ i. gives (rows.0 i)) (men x.color any_man p.board)
  all_men =
      let each : total (λ i. cost (rows.0 i) + gets (rows.0 i)) (men x.color any_man p.board) ≤ total (λ i. (128 * marks_for x d p.board + at_end x.goals.count (has_columns.0 i)) + gives (rows.0 i)) (men x.color any_man p.board) =
      total-le (λ i. cost (rows.0 i) + gets (rows.0 i)) (λ i. (128 * marks_for x d p.board + at_end x.goals.count (has_columns.0 i)) + gives (rows.0 i)) (men x.color any_man p.board) row_below in
      let left : total (λ i. cost (rows.0 i) + gets (rows.0 i)) (men x.color any_man p.board) ≡ total (λ i. cost (rows.0 i)) (men x.color any_man p.board) + total (λ i. gets (rows.0 i)) (men x.color any_man p.board) = sum_add (λ i. cost (rows.0 i)) (λ i. gets (rows.0 i)) (men x.color any_man p.board) in
      let right : total (λ i. (128 * marks_for x d p.board + at_end x.goals.count (has_columns.0 i)) + gives (rows.0 i)) (men x.color any_man p.board) ≡ total (λ i. 128 * marks_for x d p.board + at_end x.goals.count (has_columns.0 i)) (men x.color any_man p.board) + total (λ i. gives (rows.0 i)) (men x.color any_man p.board) =
      sum_add (λ i. 128 * marks_for x d p.board + at_end x.goals.count (has_columns.0 i)) (λ i. gives (rows.0 i)) (men x.color any_man p.board) in
      let part : total (λ i. 128 * marks_for x d p.board + at_end x.goals.count (has_columns.0 i)) (men x.color any_man p.board) ≡ total (λ i. 128 * marks_for x d p.board) (men x.color any_man p.board) + total (λ i. at_end x.goals.count (has_columns.0 i)) (men x.color any_man p.board) =
      sum_add (λ i. 128 * marks_for x d p.board) (λ i. at_end x.goals.count (has_columns.0 i)) (men x.color any_man p.board) in
      let same : total (λ i. 128 * marks_for x d p.board) (men x.color any_man p.board) ≡ 128 * marks_for x d p.board * men x.color any_man p.board = total_constant (128 * marks_for x d p.board) (men x.color any_man p.board) in
      let ends : total (λ i. at_end x.goals.count (has_columns.0 i)) (men x.color any_man p.board) ≤ total (at_end x.goals.count) (men x.color any_man p.board) = sent_at_most (at_end x.goals.count) has_columns.0 (men x.color any_man p.board) (men x.color any_man p.board) has_columns.1 has_columns.2 in
      let last : total (at_end x.goals.count) (men x.color any_man p.board) ≡ 127 * (men x.color any_man p.board - x.goals.count) = ends_total x.goals.count (men x.color any_man p.board) room in
      omega arith
    where
      row_below : (i : ℕ) → i < men x.color any_man p.board → cost (rows.0 i) + gets (rows.0 i) ≤ (128 * marks_for x d p.board + at_end x.goals.count (has_columns.0 i)) + gives (rows.0 i)
      row_below i low =
          let k : (k : Kind) × Stands p.board x.color k (rows.0 i) = rows.1.stands i low in
          let e : at_end x.goals.count (to (rows.0 i)) ≡ at_end x.goals.count (has_columns.0 i) = ap (at_end x.goals.count) (to_of_row i low) in
          omega (arith, one_man k.0 (rows.0 i) (rows.1.low i low) k.1)

  -- what they are spared together, and what they pay
  all_gets : total (λ i. gets (rows.0 i)) (men x.color any_man p.board) ≡ spared t f d p x.color pl
  unfolding gets
  all_gets =
      sum_add (λ i. marked (cheap t x.color) (pl.walks.journeys.path (rows.0 i)) (pl.walks.marks (rows.0 i))) (λ i. fallen (dear t (other x.color)) (pl.walks.journeys.fate (rows.0 i))) (men x.color any_man p.board)
      ∙ (let a : sum_over x.color any_man p.board (λ s. marked (cheap t x.color) (pl.walks.journeys.path s) (pl.walks.marks s)) ≡ total (λ i. marked (cheap t x.color) (pl.walks.journeys.path (rows.0 i)) (pl.walks.marks (rows.0 i))) (men x.color any_man p.board) = along (λ s. marked (cheap t x.color) (pl.walks.journeys.path s) (pl.walks.marks s)) in
      let b : sum_over x.color any_man p.board (λ s. fallen (dear t (other x.color)) (pl.walks.journeys.fate s)) ≡ total (λ i. fallen (dear t (other x.color)) (pl.walks.journeys.fate (rows.0 i))) (men x.color any_man p.board) = along (λ s. fallen (dear t (other x.color)) (pl.walks.journeys.fate s)) in
      omega arith)

  all_gives : t.weight x.color * charge pl.way + total (λ i. gives (rows.0 i)) (men x.color any_man p.board) ≡ pays t f d p x.color pl
  unfolding gives
  all_gives =
      let one : total (λ i. (t.weight x.color * length (pl.walks.journeys.path (rows.0 i)) + marked (dear t x.color) (pl.walks.journeys.path (rows.0 i)) (pl.walks.marks (rows.0 i))) + fallen (cheap t (other x.color)) (pl.walks.journeys.fate (rows.0 i))) (men x.color any_man p.board)
      ≡ total (λ i. t.weight x.color * length (pl.walks.journeys.path (rows.0 i)) + marked (dear t x.color) (pl.walks.journeys.path (rows.0 i)) (pl.walks.marks (rows.0 i))) (men x.color any_man p.board) + total (λ i. fallen (cheap t (other x.color)) (pl.walks.journeys.fate (rows.0 i))) (men x.color any_man p.board) =
      sum_add (λ i. t.weight x.color * length (pl.walks.journeys.path (rows.0 i)) + marked (dear t x.color) (pl.walks.journeys.path (rows.0 i)) (pl.walks.marks (rows.0 i))) (λ i. fallen (cheap t (other x.color)) (pl.walks.journeys.fate (rows.0 i))) (men x.color any_man p.board) in
      let two : total (λ i. t.weight x.color * length (pl.walks.journeys.path (rows.0 i)) + marked (dear t x.color) (pl.walks.journeys.path (rows.0 i)) (pl.walks.marks (rows.0 i))) (men x.color any_man p.board)
      ≡ total (λ i. t.weight x.color * length (pl.walks.journeys.path (rows.0 i))) (men x.color any_man p.board) + total (λ i. marked (dear t x.color) (pl.walks.journeys.path (rows.0 i)) (pl.walks.marks (rows.0 i))) (men x.color any_man p.board) =
      sum_add (λ i. t.weight x.color * length (pl.walks.journeys.path (rows.0 i))) (λ i. marked (dear t x.color) (pl.walks.journeys.path (rows.0 i)) (pl.walks.marks (rows.0 i))) (men x.color any_man p.board) in
      let steps : total (λ i. t.weight x.color * length (pl.walks.journeys.path (rows.0 i))) (men x.color any_man p.board) ≡ t.weight x.color * total (λ i. length (pl.walks.journeys.path (rows.0 i))) (men x.color any_man p.board) = total_times (t.weight x.color) (λ i. length (pl.walks.journeys.path (rows.0 i))) (men x.color any_man p.board) in
      let a : sum_over x.color any_man p.board (λ s. length (pl.walks.journeys.path s)) ≡ total (λ i. length (pl.walks.journeys.path (rows.0 i))) (men x.color any_man p.board) = along (λ s. length (pl.walks.journeys.path s)) in
      let b : sum_over x.color any_man p.board (λ s. marked (dear t x.color) (pl.walks.journeys.path s) (pl.walks.marks s)) ≡ total (λ i. marked (dear t x.color) (pl.walks.journeys.path (rows.0 i)) (pl.walks.marks (rows.0 i))) (men x.color any_man p.board) = along (λ s. marked (dear t x.color) (pl.walks.journeys.path s) (pl.walks.marks s)) in
      let e : sum_over x.color any_man p.board (λ s. fallen (cheap t (other x.color)) (pl.walks.journeys.fate s)) ≡ total (λ i. fallen (cheap t (other x.color)) (pl.walks.journeys.fate (rows.0 i))) (men x.color any_man p.board) = along (λ s. fallen (cheap t (other x.color)) (pl.walks.journeys.fate s)) in
      let plies : t.weight x.color * (charge pl.way + sum_over x.color any_man p.board (λ s. length (pl.walks.journeys.path s))) ≡ t.weight x.color * charge pl.way + t.weight x.color * sum_over x.color any_man p.board (λ s. length (pl.walks.journeys.path s)) = mul-add (t.weight x.color) (charge pl.way) (sum_over x.color any_man p.board (λ s. length (pl.walks.journeys.path s))) in
      let times : t.weight x.color * sum_over x.color any_man p.board (λ s. length (pl.walks.journeys.path s)) ≡ t.weight x.color * total (λ i. length (pl.walks.journeys.path (rows.0 i))) (men x.color any_man p.board) = ap (λ (y : ℕ). t.weight x.color * y) a in
      omega arith

  pub cheapest : (v : ℕ) × IsCost x d p v × (v + spared t f d p x.color pl ≤ pays t f d p x.color pl + (128 * (marks_for x d p.board * men x.color any_man p.board) + 127 * (men x.color any_man p.board - x.goals.count)))
  unfolding cost
  cheapest =
      let costs : sum_over x.color any_man p.board cost ≡ total (λ i. cost (rows.0 i)) (men x.color any_man p.board) = along cost in
      let weight : x.weight * charge pl.way ≡ t.weight x.color * charge pl.way = ap (λ (y : ℕ). y * charge pl.way) half.weight in
      let times : 128 * marks_for x d p.board * men x.color any_man p.board ≡ 128 * (marks_for x d p.board * men x.color any_man p.board) = mul_assoc 128 (marks_for x d p.board) (men x.color any_man p.board) in (
        x.weight * charge pl.way + sum_over x.color any_man p.board (λ s. clipped x p pl.way (marks_for x d p.board) (men x.color any_man p.board) s (to s)),
        (pl.way, open_way f p x pl.way (λ s low still. (half.free s low).1 still) pl.held, (to, columns, refl)),
        omega (arith, all_men, all_gets, all_gives),
      )
