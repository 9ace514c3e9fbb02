-- The least that a castling way may cost, by rows. Leads to the contract of `pays_castled` by rows.
use Rattle.pg_travel.proofs.Common.{◌≡◌, ◌≢◌, ℕ, zero, suc, ◌+◌, cond, ◌<◌, ◌≤◌, ◌⊎◌, nat_eq, min, inl, inr, Bool, true, false, Option, Some, None, List, get_or, refl, sym, ap, arith, ◌∙◌, eqb_tells, Color, Kind, Rook, King, man, is_of, Placement, get, total, total-none, total-more, tally_below-none, tally_below-all, Wing, State, Stands, IsPosition, holds, IsHome, RightsClause, king_home, rook_home, king_target, king_crossed, of_color, men, any_man, number_among, counted, least_reached, cost_man, distance_of, least_of, reach_of, nearest, cost, SumIs, CastledIs, stored, at_target, AreLesser, IsFree, IsBelow, IsCastled, row_cost, PaysIs}
use Rattle.pg_travel.proofs.Skips.{sum_skip}
use Rattle.pg_travel.proofs.SourceLemmas.{row_has, below_all, of_there, of_man, number_next}
use Rattle.pg_travel.proofs.Within.{pays_not, castled_by}
use Rattle.pg_travel.proofs.LeastRows.{same_kind, stored_is, reach_own, reach_cases, Number}

-- a way counts the king where he goes, the rook where he crossed, and each other man where it stands
counted_cases : (c : Color) (w : Wing) (o : ℕ) → ((o ≡ king_home c) × (counted c (Some w) o ≡ king_target c w)) ⊎ (((o ≡ rook_home c w) × (counted c (Some w) o ≡ king_crossed c w)) ⊎ (counted c (Some w) o ≡ o))
counted_cases c w o = elim (eqb_tells o (king_home c)) [
  | inl u ↦ inl (u.1, ap (λ (b : Bool). cond b (king_target c w) (cond (nat_eq o (rook_home c w)) (king_crossed c w) o)) u.0)
  | inr u ↦ elim (eqb_tells o (rook_home c w)) [
    | inl z ↦ inr (inl (z.1, ap (λ (b : Bool). cond b (king_target c w) (cond (nat_eq o (rook_home c w)) (king_crossed c w) o)) u.0 ∙ ap (λ (b : Bool). cond b (king_crossed c w) o) z.0))
    | inr z ↦ inr (inr (ap (λ (b : Bool). cond b (king_target c w) (cond (nat_eq o (rook_home c w)) (king_crossed c w) o)) u.0 ∙ ap (λ (b : Bool). cond b (king_crossed c w) o) z.0))
  ]
]

-- each number is at most those that it is the least of
parts : (d : Placement) (c : Color) (w : Wing) (free row : List ℕ) (is : IsCastled d c w free row) (i : ℕ) → i < 16 → (get_or row i 0 ≤ get_or free i 0) × (get_or row i 0 ≤ get_or is.king i 0) × (get_or row i 0 ≤ get_or is.rook i 0)
unfolding AreLesser
parts d c w free row is i l =
    let a : get_or is.with_king i 0 ≡ min (get_or free i 0) (get_or is.king i 0) = is.first.1 i l in
    let b : get_or row i 0 ≡ min (get_or is.with_king i 0) (get_or is.rook i 0) = is.second.1 i l in
    (omega arith, omega arith, omega arith)

-- by castling no man is nearer
castled_below : (p : State) (d : Placement) (c : Color) (w : Wing) (free row : List ℕ) → IsHome p.board c w → IsBelow d p.board c free → IsCastled d c w free row → (j : Kind) (t : ℕ) → t < 64 → Stands d c j t → number_among c any_man d t < 16 → at_target d c row t ≤ stored (nearest p.board c (Some w) j t)
unfolding nearest IsHome
castled_below p d c w free row home least is j t lt there small = elim (stored_is N) [ inl z ↦ omega (arith, z.1, low, unreached) | inr z ↦ near z.0 (least_reached F 64) ]
  where
    F : ℕ → ℕ
    F = λ o. reach_of c (Some w) j t o (get p.board o)

    N : ℕ
    N = least_of F 64

    I : ℕ
    I = number_among c any_man d t

    low : (get_or row I 0 ≤ get_or free I 0) × (get_or row I 0 ≤ get_or is.king I 0) × (get_or row I 0 ≤ get_or is.rook I 0)
    low = parts d c w free row is I small

    unreached : get_or free I 0 ≤ 255
    unreached = least.top j t lt there small

    at_least : (k : Kind) (o : ℕ) → o < 64 → get p.board o ≡ Some (man c k) → get_or row I 0 ≤ stored (distance_of c j k (counted c (Some w) o) t)
    at_least k o lo stands = elim (counted_cases c w o) [
      | inl a ↦
          (let king : k ≡ King = same_kind k King c (get p.board o) stands (ap (get p.board) a.0 ∙ home.0) in
          let has_it : get_or is.king I 0 ≡ stored (distance_of c j King (king_target c w) t) = row_has d c King j (king_target c w) t is.king is.of_king lt small there in
          let e : stored (distance_of c j k (counted c (Some w) o) t) ≡ stored (distance_of c j King (king_target c w) t) = ap (λ (z : Kind). stored (distance_of c j z (counted c (Some w) o) t)) king ∙ ap (λ (r : ℕ). stored (distance_of c j King r t)) a.1 in
          omega (arith, e, has_it, low.1))
      | inr b ↦ elim b [
        | inl a ↦
            (let rook : k ≡ Rook = same_kind k Rook c (get p.board o) stands (ap (get p.board) a.0 ∙ home.1) in
            let has_it : get_or is.rook I 0 ≡ stored (distance_of c j Rook (king_crossed c w) t) = row_has d c Rook j (king_crossed c w) t is.rook is.of_rook lt small there in
            let e : stored (distance_of c j k (counted c (Some w) o) t) ≡ stored (distance_of c j Rook (king_crossed c w) t) = ap (λ (z : Kind). stored (distance_of c j z (counted c (Some w) o) t)) rook ∙ ap (λ (r : ℕ). stored (distance_of c j Rook r t)) a.1 in
            omega (arith, e, has_it, low.2))
        | inr a ↦
            (let e : stored (distance_of c j k (counted c (Some w) o) t) ≡ stored (distance_of c j k o t) = ap (λ (r : ℕ). stored (distance_of c j k r t)) a in
            let below : get_or free I 0 ≤ stored (distance_of c j k o t) = least.below j k t o lt there small lo stands in
            omega (arith, e, below, low.0))
      ]
    ]

    near : N ≢ 64 → (N ≡ 64) ⊎ ((o : ℕ) × (o < 64) × (N ≡ F o)) → get_or row I 0 ≤ stored N
    near ne (inl e) = absurd (ne e)
    near ne (inr (o, lo, e)) = elim (reach_cases c (Some w) j t o (get p.board o)) [
      | inl z ↦ absurd (ne (e ∙ z))
      | inr h ↦
          (let r : F o ≡ distance_of c j h.0 (counted c (Some w) o) t = reach_own p.board c (Some w) j h.0 t o h.1 in
          let q : stored N ≡ stored (distance_of c j h.0 (counted c (Some w) o) t) = ap stored (e ∙ r) in
          omega (arith, q, at_least h.0 o lo h.1))
    ]

-- a row that is nowhere above the least distances has no greater sum
sums_below : (d b : Placement) (c : Color) (way : Option Wing) (row : List ℕ) → ((j : Kind) (t : ℕ) → t < 64 → Stands d c j t → number_among c any_man d t < 16 → at_target d c row t ≤ stored (nearest b c way j t)) → men c any_man d ≤ 16 → ((t : ℕ) → t < 64 → cost b d c way t < 64) → (n : ℕ) → n ≤ 64 → total (Number row) (number_among c any_man d n) ≤ total (cost b d c way) n
sums_below d b c way row is few low zero l = let e : total (Number row) (number_among c any_man d 0) ≡ 0 = ap (total (Number row)) (tally_below-none (of_color c any_man) d) ∙ total-none (Number row) in omega arith
sums_below d b c way row is few low (suc n) l = go (is_of c (get d n)) refl (sums_below d b c way row is few low n (omega arith))
  where
    F : ℕ → ℕ
    F = cost b d c way

    more : total F (suc n) ≡ total F n + F n
    more = ap (total F) (let e : suc n ≡ n + 1 = omega arith in e) ∙ total-more F n

    go : (x : Bool) → is_of c (get d n) ≡ x → total (Number row) (number_among c any_man d n) ≤ total F n → total (Number row) (number_among c any_man d (suc n)) ≤ total F (suc n)
    go false e before =
        let same : number_among c any_man d (suc n) ≡ number_among c any_man d n = number_next d c n false e ∙ (let z : number_among c any_man d n + 0 ≡ number_among c any_man d n = omega arith in z) in
        let s : total (Number row) (number_among c any_man d (suc n)) ≡ total (Number row) (number_among c any_man d n) = ap (total (Number row)) same in
        omega (arith, s, more, before)
    go true e before =
        let k : (j : Kind) × (get d n ≡ Some (man c j)) = of_man c (get d n) e in
        let small : number_among c any_man d n < 16 = omega (arith, few, below_all d c n (omega arith) e) in
        let near : F n ≡ nearest b c way k.0 n = cost_man b d c way k.0 n k.1 in
        let some : F n < 64 = low n (omega arith) in
        let here : get_or row (number_among c any_man d n) 0 ≤ F n = elim (stored_is (nearest b c way k.0 n)) [ inl v ↦ absurd (omega (arith, v.0, near, some)) | inr v ↦ omega (arith, v.1, near, is k.0 n (omega arith) k.1 small) ] in
        let one_more : total (Number row) (number_among c any_man d n + 1) ≡ total (Number row) (number_among c any_man d n) + get_or row (number_among c any_man d n) 0 = total-more (Number row) (number_among c any_man d n) in
        let s : total (Number row) (number_among c any_man d (suc n)) ≡ total (Number row) (number_among c any_man d n + 1) = ap (total (Number row)) (number_next d c n true e) in
        omega (arith, s, more, one_more, here, before)

rest_below : (p : State) (d : Placement) (c : Color) (w : Wing) (free row : List ℕ) → IsBelow d p.board c free → IsCastled d c w free row → (i : ℕ) → men c any_man d ≤ i → i < 16 → get_or row i 0 ≡ 0
rest_below p d c w free row least is i m l = omega (arith, (parts d c w free row is i l).0, least.rest i m l)

-- where castling costs more by such a row, it is not paid for
pub castled_over : (p : State) (d : Placement) (c : Color) (w : Wing) (free row : List ℕ) (limit x : ℕ) → IsPosition p → holds p.rights c w ≡ true → IsBelow d p.board c free → IsCastled d c w free row → men c any_man d ≤ 16 → x ≡ row_cost (Some w) row → limit < x → CastledIs p d c w limit false
unfolding RightsClause
castled_over p d c w free row limit x good held least is few e over = castled_by p d c w limit false held (pays_not p d c (Some w) limit None above (λ v f. absurd (cc)))
  where
    above : (v : ℕ) → SumIs p.board d c (Some w) (Some v) → limit < v
    above v s =
        let all : total (Number row) (number_among c any_man d 64) ≡ total (Number row) 16 = ap (total (Number row)) (tally_below-all (of_color c any_man) d 64 refl) ∙ sym (sum_skip (Number row) (men c any_man d) 16 few (λ i m l. rest_below p d c w free row least is i m l)) in
        let below : total (Number row) (number_among c any_man d 64) ≤ total (cost p.board d c (Some w)) 64 = sums_below d p.board c (Some w) row (castled_below p d c w free row (good.homes c w held) least is) few s.0 64 (omega arith) in
        omega (arith, all, below, s.1, e, over)

-- the same by the way without castling
free_below : (p : State) (d : Placement) (c : Color) (row : List ℕ) → IsBelow d p.board c row → (j : Kind) (t : ℕ) → t < 64 → Stands d c j t → number_among c any_man d t < 16 → at_target d c row t ≤ stored (nearest p.board c None j t)
unfolding nearest
free_below p d c row least j t lt there small = elim (stored_is N) [ inl z ↦ omega (arith, z.1, least.top j t lt there small) | inr z ↦ near z.0 (least_reached F 64) ]
  where
    F : ℕ → ℕ
    F = λ o. reach_of c None j t o (get p.board o)

    N : ℕ
    N = least_of F 64

    near : N ≢ 64 → (N ≡ 64) ⊎ ((o : ℕ) × (o < 64) × (N ≡ F o)) → at_target d c row t ≤ stored N
    near ne (inl e) = absurd (ne e)
    near ne (inr (o, lo, e)) = elim (reach_cases c None j t o (get p.board o)) [
      | inl z ↦ absurd (ne (e ∙ z))
      | inr h ↦
          (let q : stored N ≡ stored (distance_of c j h.0 o t) = ap stored (e ∙ reach_own p.board c None j h.0 t o h.1) in
          omega (arith, q, least.below j h.0 t o lt there small lo h.1))
    ]

pub free_over : (p : State) (d : Placement) (c : Color) (row : List ℕ) (limit x : ℕ) → IsBelow d p.board c row → men c any_man d ≤ 16 → x ≡ row_cost None row → limit < x → PaysIs p d c None limit false
free_over p d c row limit x least few e over = pays_not p d c None limit None above (λ v f. absurd (cc))
  where
    above : (v : ℕ) → SumIs p.board d c None (Some v) → limit < v
    above v s =
        let all : total (Number row) (number_among c any_man d 64) ≡ total (Number row) 16 = ap (total (Number row)) (tally_below-all (of_color c any_man) d 64 refl) ∙ sym (sum_skip (Number row) (men c any_man d) 16 few (λ i m l. least.rest i m l)) in
        let below : total (Number row) (number_among c any_man d 64) ≤ total (cost p.board d c None) 64 = sums_below d p.board c None row (free_below p d c row least) few s.0 64 (omega arith) in
        omega (arith, all, below, s.1, e, over)

-- least distances are such a row
pub free_is_below : (d b : Placement) (c : Color) (row : List ℕ) → IsFree d b c row → IsBelow d b c row
free_is_below d b c row least = record {
  below = λ j k t o lt there small lo stands. least.lowered.below j k t o lt there small lo lo stands;
  top = λ j t lt there small. omega (arith, least.lowered.kept (number_among c any_man d t) small, least.unreached.none (number_among c any_man d t) (below_all d c t lt (of_there d c j t there)) small);
  rest = λ i m l. omega (arith, least.lowered.kept i l, least.unreached.rest i m l);
}
