-- Paths in two: to a step that may be a capture, and on from there; and where a pawn's path leads.
use Rattle.pg_journeys.proofs.Common.{◌≡◌, ◌≢◌, ℕ, suc, ◌+◌, ◌<◌, ◌≤◌, inl, inr, Bool, true, false, ◌&&◌, nat_eq, refl, sym, ap, subst, arith, ◌∙◌, List, [], ◌∷◌, ◌++◌, length, eqb-true, or_left, or_right, or_cases, and_from, eq-eqb, Color, White, Black, Kind, Pawn, Knight, Bishop, Rook, Queen, King, rank, IsForward, InPattern, StepsTo, Becomes, Facts, Leg, IsPath, may_take, some_leg, takes_to, HasTake, weigh, counts, ComesTaking, and_parts}

-- ---- one path after another
pub weigh_join : (w : Leg → ℕ) (ls ms : List Leg) → weigh w (ls ++ ms) ≡ weigh w ls + weigh w ms
weigh_join w [] ms = omega arith
weigh_join w (l ∷ ls) ms = omega (arith, weigh_join w ls ms)

some_join : (b : Leg → Bool) (ls : List Leg) (l : Leg) (ms : List Leg) → b l ≡ true → some_leg b (ls ++ (l ∷ ms)) ≡ true
some_join b [] l ms e = or_left (b l) (some_leg b ms) e
some_join b (x ∷ ls) l ms e = or_right (b x) (some_leg b (ls ++ (l ∷ ms))) (some_join b ls l ms e)

module _ (f : Facts) (c : Color) where
  path_join : (ls : List Leg) (k : Kind) (r : ℕ) (i : Kind) (u : ℕ) (ms : List Leg) (j : Kind) (s : ℕ) → IsPath f c k r ls i u → IsPath f c i u ms j s → IsPath f c k r (ls ++ ms) j s
  path_join [] k r i u ms j s (a, d) rest = subst (λ (x : Kind). IsPath f c x r ms j s) (sym a) (subst (λ (y : ℕ). IsPath f c i y ms j s) (sym d) rest)
  path_join (l ∷ ls) k r i u ms j s (a, d, is, more) rest = (a, d, is, path_join ls l.into l.to i u ms j s more rest)

  -- a path to a step that may be a capture on q, and one on from there
  abbrev pub InTwo : Bool → Kind → ℕ → Kind → ℕ → ℕ → ℕ → Type 0
  InTwo quiet k r j s q n =
      (i : Kind) × (m : ℕ) × (rest : List Leg) × ComesTaking f c quiet k r i q m × IsPath f c i q rest j s × (m + weigh (counts f c quiet) rest ≡ n)

  pub path_in_two : (quiet : Bool) (q : ℕ) (ls : List Leg) (k : Kind) (r : ℕ) (j : Kind) (s : ℕ) → IsPath f c k r ls j s → HasTake f c q ls → InTwo quiet k r j s q (weigh (counts f c quiet) ls)
  path_in_two quiet q [] k r j s path take = absurd (let z : false ≡ true = take in cc)
  path_in_two quiet q (l ∷ ls) k r j s (a, d, is, more) take = elim (or_cases (takes_to f c q l) (some_leg (takes_to f c q) ls) take) [
    | inl here ↦
        (let both : (nat_eq l.to q ≡ true) × (may_take f c l ≡ true) = and_parts (nat_eq l.to q) (may_take f c l) here in
        let e : l.to ≡ q = eqb-true l.to q both.0 in
        (l.into, counts f c quiet l, ls, ([], l, (sym a, sym d), is, both.1, refl, e, zero_more (counts f c quiet l)), subst (λ (y : ℕ). IsPath f c l.into y ls j s) e more, refl))
    | inr later ↦
        (let w : InTwo quiet l.into l.to j s q (weigh (counts f c quiet) ls) = path_in_two quiet q ls l.into l.to j s more later in
        let t : ComesTaking f c quiet l.into l.to w.0 q w.1 = w.3 in
        let e : w.1 + weigh (counts f c quiet) w.2 ≡ weigh (counts f c quiet) ls = w.5 in
        let n : weigh (counts f c quiet) t.0 + counts f c quiet t.1 ≡ w.1 = t.7 in
        (w.0, counts f c quiet l + w.1, w.2, (l ∷ t.0, t.1, (a, d, is, t.2), t.3, t.4, t.5, t.6, sum (counts f c quiet l) (weigh (counts f c quiet) t.0) (counts f c quiet t.1) w.1 n), w.4, shift (counts f c quiet l) w.1 (weigh (counts f c quiet) w.2) (weigh (counts f c quiet) ls) e))
  ]
    where
      zero_more : (n : ℕ) → 0 + n ≡ n
      zero_more n = omega arith

      sum : (x y z n : ℕ) → y + z ≡ n → (x + y) + z ≡ x + n
      sum x y z n e = omega arith

      shift : (x y z n : ℕ) → y + z ≡ n → (x + y) + z ≡ x + n
      shift x y z n e = omega arith

  -- and back: both in one
  abbrev pub InOne : Bool → Kind → ℕ → Kind → ℕ → ℕ → ℕ → Type 0
  InOne quiet k r j s q n =
      (ls : List Leg) × IsPath f c k r ls j s × HasTake f c q ls × (weigh (counts f c quiet) ls ≡ n)

  pub path_in_one : (quiet : Bool) (q : ℕ) (k : Kind) (r : ℕ) (i : Kind) (n : ℕ) (rest : List Leg) (j : Kind) (s : ℕ) → ComesTaking f c quiet k r i q n → IsPath f c i q rest j s → InOne quiet k r j s q (n + weigh (counts f c quiet) rest)
  path_in_one quiet q k r i n rest j s (ls, l, path, is, take, into, to, sum) more =
      let on : IsPath f c l.into l.to rest j s = subst (λ (x : Kind). IsPath f c x l.to rest j s) (sym into) (subst (λ (y : ℕ). IsPath f c i y rest j s) (sym to) more) in
      let w : weigh (counts f c quiet) (ls ++ (l ∷ rest)) ≡ weigh (counts f c quiet) ls + weigh (counts f c quiet) (l ∷ rest) = weigh_join (counts f c quiet) ls (l ∷ rest) in (
        ls ++ (l ∷ rest),
        path_join ls k r l.kind l.from (l ∷ rest) j s path (refl, refl, is, on),
        some_join (takes_to f c q) ls l rest (and_from (nat_eq l.to q) (may_take f c l) (eq-eqb l.to q to) take),
        w ∙ regroup (weigh (counts f c quiet) ls) (counts f c quiet l) (weigh (counts f c quiet) rest) n sum,
      )
    where
      regroup : (x y z n : ℕ) → x + y ≡ n → x + (y + z) ≡ n + z
      regroup x y z n e = omega arith

  -- ---- pawns
  -- n ranks ahead at least
  abbrev IsAhead : Color → ℕ → ℕ → ℕ → Type 0
  IsAhead White n r t = rank r + n ≤ rank t
  IsAhead Black n r t = rank t + n ≤ rank r

  next_ahead : (d : Color) (n r s t : ℕ) → IsAhead d 1 r s → IsAhead d n s t → IsAhead d (n + 1) r t
  next_ahead White n r s t a b = omega arith
  next_ahead Black n r s t a b = omega arith

  none_ahead : (d : Color) (r t : ℕ) → r ≡ t → IsAhead d 0 r t
  none_ahead White r t e = let z : rank r ≡ rank t = ap rank e in omega arith
  none_ahead Black r t e = let z : rank r ≡ rank t = ap rank e in omega arith

  never_ahead : (d : Color) (n r : ℕ) → 0 < n → IsAhead d n r r → ⊥
  never_ahead White n r p h = omega arith
  never_ahead Black n r p h = omega arith

  forward_ahead : (d : Color) (n r s : ℕ) → 0 < n → IsForward d n r s → IsAhead d 1 r s
  forward_ahead White n r s p h = omega arith
  forward_ahead Black n r s p h = omega arith

  steps_ahead : (d : Color) (r s : ℕ) → StepsTo d Pawn r s → IsAhead d 1 r s
  unfolding StepsTo InPattern
  steps_ahead d r s (inl h) = forward_ahead d 1 r s (omega arith) h.1
  steps_ahead d r s (inr (inl h)) = forward_ahead d 2 r s (omega arith) h.2
  steps_ahead d r s (inr (inr h)) = forward_ahead d 1 r s (omega arith) h.1

  was_pawn : (d : Color) (k : Kind) (s : ℕ) (j : Kind) → Becomes d k s j → j ≡ Pawn → k ≡ Pawn
  unfolding Becomes
  was_pawn d Pawn s j b e = refl
  was_pawn d Knight s j b e = sym b ∙ e
  was_pawn d Bishop s j b e = sym b ∙ e
  was_pawn d Rook s j b e = sym b ∙ e
  was_pawn d Queen s j b e = sym b ∙ e
  was_pawn d King s j b e = sym b ∙ e

  pawn_path : (ls : List Leg) (k : Kind) (r t : ℕ) → IsPath f c k r ls Pawn t → (k ≡ Pawn) × IsAhead c (length ls) r t
  pawn_path [] k r t (a, d) = (a, none_ahead c r t d)
  pawn_path (l ∷ ls) k r t (a, d, is, more) =
      let rest : (l.into ≡ Pawn) × IsAhead c (length ls) l.to t = pawn_path ls l.into l.to t more in
      let pawn : l.kind ≡ Pawn = was_pawn c l.kind l.to l.into is.free.3 rest.0 in
      let step : IsAhead c 1 l.from l.to = steps_ahead c l.from l.to (subst (λ (x : Kind). StepsTo c x l.from l.to) pawn is.free.2) in
      let all : IsAhead c (length ls + 1) l.from t = next_ahead c (length ls) l.from l.to t step rest.1 in
      (sym a ∙ pawn, subst (λ (x : ℕ). IsAhead c (length (l ∷ ls)) x t) d (subst (λ (n : ℕ). IsAhead c n l.from t) (one_longer (length ls)) all))
    where
      one_longer : (n : ℕ) → n + 1 ≡ suc n
      one_longer n = omega arith

  -- a pawn comes back to no square
  pub no_pawn_back : (l : Leg) (ls : List Leg) (k : Kind) (s : ℕ) → IsPath f c k s (l ∷ ls) Pawn s → ⊥
  no_pawn_back l ls k s path = never_ahead c (length (l ∷ ls)) s (long l ls) (pawn_path (l ∷ ls) k s s path).1
    where
      long : (l : Leg) (ls : List Leg) → 0 < length (l ∷ ls)
      long l ls = omega arith

  -- any other man stays of his kind
  pub stays_piece : (k : Kind) (s : ℕ) (j : Kind) → k ≢ Pawn → Becomes c k s j → j ≡ k
  unfolding Becomes
  stays_piece Pawn s j ne b = absurd (ne refl)
  stays_piece Knight s j ne b = b
  stays_piece Bishop s j ne b = b
  stays_piece Rook s j ne b = b
  stays_piece Queen s j ne b = b
  stays_piece King s j ne b = b
