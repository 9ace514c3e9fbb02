-- A count that is 0 or 1 tells which numbers pass a test: for the kings and pawns of a placement.
use Rattle.pg_fen.proofs.Common.{◌≡◌, ◌≢◌, ℕ, zero, suc, ◌+◌, ◌<◌, Bool, true, false, ◌⊎◌, inl, inr, refl, sym, ap, ◌∙◌, arith, ◌↔◌, ◌==◌, ◌&&◌, Some, None, Option, cases_eq, and_parts, and_from, nat_tests, Color, White, Black, Man, Pawn, one, count_below, tally, tally_below, count_of, man, king_of, passes, is_man, kind_eq, rank, Placement, get, IsOnlyKing, HasOneKing, PawnsClause, has_kings, is_edge, is_edge_pawn, has_no_edge_pawn}
use Rattle.pg_board.specs.lemmas.Sums.{total-none, total-suc}
use Rattle.pg_board.specs.lemmas.Equalities.{is_man_decides, kind_decides}

either : (t : Bool) → (t ≡ true) ⊎ (t ≡ false)
either true = inl refl
either false = inr refl

one-zero : (t : Bool) → one t ≡ 0 → t ≡ false
one-zero true e = absurd (omega arith)
one-zero false e = refl

-- ---- none
none_counted : (p : ℕ → Bool) (n : ℕ) → count_below p n ≡ 0 → (k : ℕ) → k < n → p k ≡ false
none_counted p zero e k lt = absurd (omega arith)
none_counted p (suc n) e k lt =
    let s : count_below p (suc n) ≡ count_below p n + one (p n) = total-suc (λ j. one (p j)) n in
    elim (cases_eq k n) [
      | inl q ↦ ap p q ∙ one-zero (p n) (omega arith)
      | inr ne ↦ none_counted p n (omega arith) k (omega arith)
    ]

count_none : (p : ℕ → Bool) (n : ℕ) → ((k : ℕ) → k < n → p k ≡ false) → count_below p n ≡ 0
count_none p zero h = total-none (λ j. one (p j))
count_none p (suc n) h =
    let s : count_below p (suc n) ≡ count_below p n + one (p n) = total-suc (λ j. one (p j)) n in
    let z : one (p n) ≡ 0 = ap one (h n (omega arith)) in
    let r : count_below p n ≡ 0 = count_none p n (λ k lt. h k (omega arith)) in
    omega arith

-- ---- one
-- one number below n passes, and no other
record Once (p : ℕ → Bool) (n : ℕ) : Type 0 where
  at : ℕ
  low : at < n
  here : p at ≡ true
  only : (t : ℕ) → t < n → p t ≡ true → t ≡ at

one_more : (p : ℕ → Bool) (n : ℕ) (t : Bool) → p n ≡ t → count_below p n + one t ≡ 1 → (count_below p n ≡ 1 → Once p n) → Once p (suc n)
one_more p n true e c rest =
    let none = none_counted p n (omega arith) in
    record {
      at = n;
      low = omega arith;
      here = e;
      only = λ t lt is. elim (cases_eq t n) [
        | inl q ↦ q
        | inr ne ↦ let no : p t ≡ false = none t (omega arith) in absurd cc
      ];
    }
one_more p n false e c rest =
    let h = rest (omega arith) in
    record {
      at = h.at;
      low = let l : h.at < n = h.low in omega arith;
      here = h.here;
      only = λ t lt is. elim (cases_eq t n) [
        | inl q ↦ let at_n = ap p q in absurd cc
        | inr ne ↦ h.only t (omega arith) is
      ];
    }

one_counted : (p : ℕ → Bool) (n : ℕ) → count_below p n ≡ 1 → Once p n
one_counted p zero e = let z : count_below p zero ≡ 0 = total-none (λ j. one (p j)) in absurd (omega arith)
one_counted p (suc n) e =
    let s : count_below p (suc n) ≡ count_below p n + one (p n) = total-suc (λ j. one (p j)) n in
    one_more p n (p n) refl (sym s ∙ e) (λ c. one_counted p n c)

count_once : (p : ℕ → Bool) (n : ℕ) → Once p n → count_below p n ≡ 1
count_once p zero h = let l : h.at < zero = h.low in absurd (omega arith)
count_once p (suc n) h =
    let s : count_below p (suc n) ≡ count_below p n + one (p n) = total-suc (λ j. one (p j)) n in
    let l : h.at < suc n = h.low in
    elim (cases_eq h.at n) [
      | inl q ↦
          let here : one (p n) ≡ 1 = ap one (ap p (sym q) ∙ h.here) in
          let z : count_below p n ≡ 0 = count_none p n (λ k lt. elim (either (p k)) [
            | inl on ↦ let same : k ≡ h.at = h.only k (omega arith) on in absurd (omega arith)
            | inr off ↦ off
          ]) in
          omega arith
      | inr ne ↦
          let z : one (p n) ≡ 0 = elim (either (p n)) [
            | inl on ↦ let same : n ≡ h.at = h.only n (omega arith) on in absurd (omega arith)
            | inr off ↦ ap one off
          ] in
          let r : count_below p n ≡ 1 = count_once p n (record { at = h.at; low = omega arith; here = h.here; only = λ t lt is. h.only t (omega arith) is }) in
          omega arith
    ]

-- ---- the kings
king_once : (b : Placement) (c : Color) → Once (λ s. is_man (king_of c) (get b s)) 64 → HasOneKing b c
unfolding HasOneKing IsOnlyKing
king_once b c h = (h.at, (h.low, (is_man_decides (king_of c) (get b h.at)).0 h.here, λ t lt is. h.only t lt ((is_man_decides (king_of c) (get b t)).1 is)))

once_king : (b : Placement) (c : Color) → HasOneKing b c → Once (λ s. is_man (king_of c) (get b s)) 64
unfolding HasOneKing IsOnlyKing
once_king b c (k, (low, here, only)) = record {
  at = k;
  low = low;
  here = (is_man_decides (king_of c) (get b k)).1 here;
  only = λ t lt is. only t lt ((is_man_decides (king_of c) (get b t)).0 is);
}

pub counted_king : (b : Placement) (c : Color) → (count_of b (king_of c) ≡ 1) ↔ HasOneKing b c
unfolding tally tally_below
counted_king b c = (
  λ e. king_once b c (one_counted (λ s. is_man (king_of c) (get b s)) 64 e),
  λ h. count_once (λ s. is_man (king_of c) (get b s)) 64 (once_king b c h),
)

eq_true : (n m : ℕ) → (n == m) ≡ true → n ≡ m
eq_true n m e = grind (arith, nat_tests)

true_eq : (n m : ℕ) → n ≡ m → (n == m) ≡ true
true_eq n m e = grind (arith, nat_tests)

pub has_kings_is : (b : Placement) → (has_kings b ≡ true) ↔ ((c : Color) → HasOneKing b c)
has_kings_is b = (to, from)
  where
    to : has_kings b ≡ true → (c : Color) → HasOneKing b c
    to e White = (counted_king b White).0 (eq_true (count_of b (king_of White)) 1 (and_parts (count_of b (king_of White) == 1) (count_of b (king_of Black) == 1) e).0)
    to e Black = (counted_king b Black).0 (eq_true (count_of b (king_of Black)) 1 (and_parts (count_of b (king_of White) == 1) (count_of b (king_of Black) == 1) e).1)

    from : ((c : Color) → HasOneKing b c) → has_kings b ≡ true
    from h = and_from (count_of b (king_of White) == 1) (count_of b (king_of Black) == 1) (true_eq (count_of b (king_of White)) 1 ((counted_king b White).1 (h White))) (true_eq (count_of b (king_of Black)) 1 ((counted_king b Black).1 (h Black)))

-- ---- the pawns
edge_is : (s : ℕ) → is_edge s ≡ false → (rank s ≢ 1) × (rank s ≢ 8)
edge_is s e = (let a : (rank s == 1) ≡ false = grind (arith, nat_tests) in grind (arith, nat_tests), let a : (rank s == 8) ≡ false = grind (arith, nat_tests) in grind (arith, nat_tests))

is_not_edge : (s : ℕ) → (rank s ≢ 1) × (rank s ≢ 8) → is_edge s ≡ false
is_not_edge s h =
    let a : rank s ≢ 1 = h.0 in
    let b : rank s ≢ 8 = h.1 in
    grind (arith, nat_tests)

pawn_on_edge : (t : Bool) → (t && true) ≡ false → t ≡ false
pawn_on_edge true e = e
pawn_on_edge false e = refl

no_pawn_by : (b : Placement) → ((s : ℕ) → s < 64 → passes (is_edge_pawn s) (get b s) ≡ false) → PawnsClause b
unfolding PawnsClause
no_pawn_by b h s c lt is =
    let e : passes (is_edge_pawn s) (Some (man c Pawn)) ≡ false = ap (passes (is_edge_pawn s)) (sym is) ∙ h s lt in
    edge_is s (pawn_on_edge (is_edge s) e)

no_edge_pawn_at : (s : ℕ) (m : Man) (t k : Bool) → is_edge s ≡ t → kind_eq m.kind Pawn ≡ k → (k ≡ true → t ≡ false) → (t && k) ≡ false
no_edge_pawn_at s m true true e f h = absurd (let no = h refl in cc)
no_edge_pawn_at s m true false e f h = refl
no_edge_pawn_at s m false k e f h = refl

by_no_pawn : (b : Placement) → PawnsClause b → (s : ℕ) → s < 64 → (o : Option Man) → get b s ≡ o → passes (is_edge_pawn s) o ≡ false
unfolding PawnsClause
by_no_pawn b h s lt None is = refl
by_no_pawn b h s lt (Some m) is =
    no_edge_pawn_at s m (is_edge s) (kind_eq m.kind Pawn) refl refl
    (λ k. let kind : m.kind ≡ Pawn = (kind_decides m.kind Pawn).0 k in
    let whole : ◌≡◌ {A = Man} m (man m.color Pawn) = (λ i. record { color = m.color; kind = kind i }) in
    is_not_edge s (h s m.color lt (is ∙ ap Some whole)))

pub has_no_edge_pawn_is : (b : Placement) → (has_no_edge_pawn b ≡ true) ↔ PawnsClause b
unfolding tally tally_below
has_no_edge_pawn_is b = (
  λ e. no_pawn_by b (none_counted (λ s. passes (is_edge_pawn s) (get b s)) 64 (eq_true (tally is_edge_pawn b) 0 e)),
  λ h. true_eq (tally is_edge_pawn b) 0 (count_none (λ s. passes (is_edge_pawn s) (get b s)) 64 (λ s lt. by_no_pawn b h s lt (get b s) refl)),
)
