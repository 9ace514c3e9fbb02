-- The row of a man: from the table's, and what it costs him to be captured. A man whom a castling does not move.
use Rattle.pg_tolls.proofs.Common.{◌≡◌, ℕ, ◌<◌, ◌≤◌, Option, Some, None, false, cond, ltb, nat_eq, min, List, [], get_or, sym, ap, subst, arith, ◌∙◌, lt-ltb, le-ltb, Color, Kind, King, kind_eq, Wing, State, king_home, rook_home, king_target, king_crossed, counted, kind_at, square_at, entry, kind_of, kind_on, by_passing, least_of, IsReduced, AreColumnsOf, IsPartyOf, HasLine, cost_of_man, Half, Party, Bill, cond-true, cond-false}

module _ (x : Half) (p : State) (m : Party) (way : Option Wing) (is : IsPartyOf x p m) (i : ℕ) where
  -- what the table says of him at an end
  abbrev charged : ℕ → ℕ
  charged e = entry x.rows.items m.marks (kind_at m.men i) (counted x.color way (square_at m.men i)) e

  abbrev fallen : ℕ
  fallen = cond (kind_eq (kind_at m.men i) King) 65535 (by_passing x p.side m.marks (square_at m.men i) (charged 15) p.passed)

  same_cost : (e : ℕ) → i < m.men.count → cost_of_man x p m way i e ≡ cond (ltb e x.goals.count) (charged e) fallen
  same_cost e low =
      ap (λ (k : Kind). cond (ltb e x.goals.count)
      (entry x.rows.items m.marks k (counted x.color way (square_at m.men i)) e)
      (cond (kind_eq k King) 65535 (by_passing x p.side m.marks (square_at m.men i) (entry x.rows.items m.marks k (counted x.color way (square_at m.men i)) 15) p.passed)))
      (ap kind_of (is.all.kinds i low))

  -- what it costs him to be captured, by a row that has the table's numbers
  fall_is : (n fall : ℕ) → n ≡ charged 15 → n ≤ 65535 →
      fall ≡ cond (kind_eq (kind_at m.men i) King) 65535 (cond (nat_eq (square_at m.men i) m.passing.square) (min n m.passing.cost) n) → fall ≡ fallen
  fall_is n fall e low is_fall =
      is_fall
      ∙ ap (cond (kind_eq (kind_at m.men i) King) 65535)
      (sym (is.passing (square_at m.men i) n low) ∙ ap (λ (k : ℕ). by_passing x p.side m.marks (square_at m.men i) k p.passed) e)

  -- a row that has the table's numbers for the men of the diagram, what it costs to be captured behind them, and none past the men
  module _ (row all : List ℕ) (fall : ℕ) (table : (e : ℕ) → get_or row e 0 ≡ charged e) (low : get_or row 15 0 ≤ 65535)
      (falls : fall ≡ cond (kind_eq (kind_at m.men i) King) 65535 (cond (nat_eq (square_at m.men i) m.passing.square) (min (get_or row 15 0) m.passing.cost) (get_or row 15 0)))
      (made : (g n : ℕ) → AreColumnsOf m.columns g n → (e : ℕ) → e < 16 → get_or all e 0 ≡ cond (ltb e n) (cond (ltb e g) (get_or row e 0) fall) 65535) where
    pub row_is : (e : ℕ) → i < m.men.count → e < m.men.count → m.men.count ≤ 16 → get_or all e 0 ≡ cost_of_man x p m way i e
    row_is e man column few =
        made x.goals.count m.men.count is.columns e (omega arith)
        ∙ cond-true (ltb e m.men.count) _ _ (lt-ltb e m.men.count column)
        ∙ ap (λ (n : ℕ). cond (ltb e x.goals.count) n fall) (table e)
        ∙ ap (cond (ltb e x.goals.count) (charged e)) (fall_is (get_or row 15 0) fall (table 15) low falls)
        ∙ sym (same_cost e man)

    pub row_past : (e : ℕ) → m.men.count ≤ e → e < 16 → get_or all e 0 ≡ 65535
    row_past e column few = made x.goals.count m.men.count is.columns e few ∙ cond-false (ltb e m.men.count) _ _ (le-ltb e m.men.count column)

-- ---- a man whom a castling does not move
module _ (x : Half) (p : State) (m : Party) (w : Wing) (b : Bill) (i : ℕ) where
  stays : (c : Color) (s : ℕ) → nat_eq s (king_home c) ≡ false → nat_eq s (rook_home c w) ≡ false → counted c None s ≡ counted c (Some w) s
  stays c s king rook =
      sym (cond-false (nat_eq s (king_home c)) (king_target c w) (cond (nat_eq s (rook_home c w)) (king_crossed c w) s) king
      ∙ cond-false (nat_eq s (rook_home c w)) (king_crossed c w) s rook)

  -- what he costs from a square
  abbrev from : ℕ → ℕ → ℕ
  from t e =
      cond (ltb e x.goals.count)
      (entry x.rows.items m.marks (kind_on p.board (square_at m.men i)) t e)
      (cond (kind_eq (kind_on p.board (square_at m.men i)) King) 65535
      (by_passing x p.side m.marks (square_at m.men i) (entry x.rows.items m.marks (kind_on p.board (square_at m.men i)) t 15) p.passed))

  pub same_line : nat_eq (square_at m.men i) (king_home x.color) ≡ false → nat_eq (square_at m.men i) (rook_home x.color w) ≡ false →
      HasLine x p m None b i → HasLine x p m (Some w) b i
  same_line king rook h =
      let same : counted x.color None (square_at m.men i) ≡ counted x.color (Some w) (square_at m.men i) = stays x.color (square_at m.men i) king rook in
      record {
        least = h.least ∙ ap (λ (t : ℕ). least_of (from t) m.men.count) same;
        costs = λ e l. subst (λ (t : ℕ). IsReduced (from t e) (least_of (from t) m.men.count) (get_or (get_or b.rows i []) e 0)) same (h.costs e l);
      }
