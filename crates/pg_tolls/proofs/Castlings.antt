-- The bill of a castling, one man after the other.
use Rattle.pg_tolls.proofs.Common.{◌≡◌, ◌≢◌, ℕ, ◌+◌, ◌<◌, ◌≤◌, inl, inr, Option, Some, None, List, [], length, nat_eq, false, get_or, set, refl, sym, ap, subst, arith, ◌∙◌, length-set, get_or-set_same, get_or-set_other, eqb_tells, Wing, State, king_home, rook_home, square_at, IsPartyOf, IsBillOf, IsLineOf, HasLine, AreSpared, IsSparedAt, HasSpared, Half, Party, Bill, Castled}
use Rattle.pg_tolls.proofs.Billing.{lines_next, lines_same}
use Rattle.pg_tolls.proofs.HalfRows.{same_line}

-- from a man on it has the plain lines, and spares nothing
abbrev pub IsPlainFrom : Bill → Castled → ℕ → Type 0
IsPlainFrom b c n =
    (q : ℕ) → n ≤ q → q < 16 →
    (get_or c.bill.leasts q 0 ≡ get_or b.leasts q 0) × (get_or c.bill.rows q [] ≡ get_or b.rows q []) × (get_or c.spared q 0 ≡ 0)

-- a bill, and what it spares
abbrev pub castled_by : Bill → List ℕ → Castled
castled_by b spared = record { bill = b; spared = spared }

module _ (b : Bill) (c : Castled) (i : ℕ) (low : i < 16) where
  -- ---- a man who does not move
  pub plain_still : IsPlainFrom b c i → IsPlainFrom b c (i + 1)
  plain_still before q le few = before q (omega arith) few

  nothing : (l k r q g : ℕ) → l ≡ k → r ≡ q → IsSparedAt k q l r g
  nothing l k r q g e h some told = (omega arith, omega arith)

  pub told_still : IsPlainFrom b c i → ((q : ℕ) → q < i → HasSpared b c q) → (q : ℕ) → q < i + 1 → HasSpared b c q
  told_still before told q l = elim (eqb_tells q i) [
    | inl w ↦ subst (λ (k : ℕ). HasSpared b c k) (sym w.1)
        (λ e few. nothing (get_or c.bill.leasts i 0) (get_or b.leasts i 0) (get_or (get_or c.bill.rows i []) e 0) (get_or (get_or b.rows i []) e 0) (get_or c.spared i 0)
        (before i (omega arith) low).0 (ap (λ (row : List ℕ). get_or row e 0) (before i (omega arith) low).1))
    | inr w ↦ (let ne : q ≢ i = w.1 in told q (omega arith))
  ]

  pub line_still : (x : Half) (p : State) (m : Party) (way : Option Wing) → IsPlainFrom b c i → HasLine x p m way b i → HasLine x p m way c.bill i
  line_still x p m way before h =
      subst (λ (y : ℕ). IsLineOf x p m way i y (get_or c.bill.rows i [])) (sym (before i (omega arith) low).0)
      (subst (λ (y : List ℕ). IsLineOf x p m way i (get_or b.leasts i 0) y) (sym (before i (omega arith) low).1) h)

  -- ---- a man who moves
  module _ (d : Bill) (own g : ℕ) (costs : List ℕ) (leasts : d.leasts ≡ set c.bill.leasts i own) (rows : d.rows ≡ set c.bill.rows i costs)
      (long : length c.bill.leasts ≡ 16) (all : length c.bill.rows ≡ 16) (wide : length c.spared ≡ 16) where
    abbrev after : Castled
    after = castled_by d (set c.spared i g)

    other_least : (q : ℕ) → q ≢ i → get_or d.leasts q 0 ≡ get_or c.bill.leasts q 0
    other_least q ne = ap (λ (ys : List ℕ). get_or ys q 0) leasts ∙ get_or-set_other c.bill.leasts i q own 0 ne

    other_row : (q : ℕ) → q ≢ i → get_or d.rows q [] ≡ get_or c.bill.rows q []
    other_row q ne = ap (λ (ys : List (List ℕ)). get_or ys q []) rows ∙ get_or-set_other c.bill.rows i q costs [] ne

    other_spared : (q : ℕ) → q ≢ i → get_or (set c.spared i g) q 0 ≡ get_or c.spared q 0
    other_spared q ne = get_or-set_other c.spared i q g 0 ne

    pub plain_next : IsPlainFrom b c i → IsPlainFrom b after (i + 1)
    plain_next before q le few =
        let ne : q ≢ i = omega arith in
        (other_least q ne ∙ (before q (omega arith) few).0, other_row q ne ∙ (before q (omega arith) few).1, other_spared q ne ∙ (before q (omega arith) few).2)

    along : (l k g h : ℕ) (row old new : List ℕ) → l ≡ k → old ≡ new → g ≡ h → (o : ℕ) → AreSpared o row l old g → AreSpared o row k new h
    along l k g h row old new e f s o is =
        subst (λ (y : ℕ). AreSpared o row y new h) e (subst (λ (y : List ℕ). AreSpared o row l y h) f (subst (λ (y : ℕ). AreSpared o row l old y) s is))

    pub told_next : AreSpared (get_or b.leasts i 0) (get_or b.rows i []) own costs g → ((q : ℕ) → q < i → HasSpared b c q) → (q : ℕ) → q < i + 1 → HasSpared b after q
    told_next new told q l = elim (eqb_tells q i) [
      | inl w ↦ subst (λ (k : ℕ). HasSpared b after k) (sym w.1)
          (along own (get_or d.leasts i 0) g (get_or (set c.spared i g) i 0) (get_or b.rows i []) costs (get_or d.rows i [])
          (sym (ap (λ (ys : List ℕ). get_or ys i 0) leasts ∙ get_or-set_same c.bill.leasts i own 0 (omega arith)))
          (sym (ap (λ (ys : List (List ℕ)). get_or ys i []) rows ∙ get_or-set_same c.bill.rows i costs [] (omega arith)))
          (sym (get_or-set_same c.spared i g 0 (omega arith))) (get_or b.leasts i 0) new)
      | inr w ↦
          (let ne : q ≢ i = w.1 in
          along (get_or c.bill.leasts q 0) (get_or d.leasts q 0) (get_or c.spared q 0) (get_or (set c.spared i g) q 0) (get_or b.rows q [])
          (get_or c.bill.rows q []) (get_or d.rows q []) (sym (other_least q ne)) (sym (other_row q ne)) (sym (other_spared q ne)) (get_or b.leasts q 0) (told q (omega arith)))
    ]

-- ---- the loop
-- the first n men have their lines by the castling, and others their plain ones
pub record IsMade (x : Half) (m : Party) (b : Bill) (w : Wing) (c : Castled) (n : ℕ) : Type 0 where
  pub leasts : length c.bill.leasts ≡ 16
  pub rows : length c.bill.rows ≡ 16
  pub spared : length c.spared ≡ 16
  pub size : c.bill.size ≡ b.size
  pub left : IsPlainFrom b c n
  pub lines : (p : State) → IsPartyOf x p m → IsBillOf x p m None b → (q : ℕ) → q < n → HasLine x p m (Some w) c.bill q
  pub told : (q : ℕ) → q < n → HasSpared b c q

module _ (x : Half) (m : Party) (b : Bill) (w : Wing) (c : Castled) (i : ℕ) (low : i < 16) (is : IsMade x m b w c i) where
  pub made_still : i < m.men.count → nat_eq (square_at m.men i) (king_home x.color) ≡ false → nat_eq (square_at m.men i) (rook_home x.color w) ≡ false → IsMade x m b w c (i + 1)
  made_still man king rook = record {
    leasts = is.leasts;
    rows = is.rows;
    spared = is.spared;
    size = is.size;
    left = plain_still b c i low is.left;
    lines = λ p party bill.
        lines_same x p m (Some w) c.bill i (i + 1) refl (line_still b c i low x p m (Some w) is.left (same_line x p m w b i king rook (bill.lines i man))) (is.lines p party bill);
    told = told_still b c i low is.left is.told;
  }

  pub made_moved : (d : Bill) (own g : ℕ) (costs : List ℕ) → d.leasts ≡ set c.bill.leasts i own → d.rows ≡ set c.bill.rows i costs → d.size ≡ c.bill.size →
      ((p : State) → IsPartyOf x p m → IsLineOf x p m (Some w) i own costs) → AreSpared (get_or b.leasts i 0) (get_or b.rows i []) own costs g → IsMade x m b w (castled_by d (set c.spared i g)) (i + 1)
  made_moved d own g costs leasts rows size line new = record {
    leasts = ap length leasts ∙ length-set c.bill.leasts i own ∙ is.leasts;
    rows = ap length rows ∙ length-set c.bill.rows i costs ∙ is.rows;
    spared = length-set c.spared i g ∙ is.spared;
    size = size ∙ is.size;
    left = plain_next b c i low d own g costs leasts rows is.leasts is.rows is.spared is.left;
    lines = λ p party bill.
        lines_next c.bill d i own costs leasts rows x p m (Some w) (i + 1) refl (omega (arith, is.leasts)) (omega (arith, is.rows)) (line p party) (is.lines p party bill);
    told = told_next b c i low d own g costs leasts rows is.leasts is.rows is.spared new is.told;
  }
