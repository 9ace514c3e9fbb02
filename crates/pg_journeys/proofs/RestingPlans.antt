-- Men who rest take no step and are not captured in any plan, so plans with them and without them are the same.
use Rattle.pg_journeys.proofs.Common.{◌≡◌, ℕ, ◌+◌, ◌<◌, ◌≤◌, ◌↔◌, ◌⊎◌, inl, inr, Option, Some, None, Bool, true, false, cond, refl, sym, ap, subst, arith, ◌∙◌, List, [], ◌∷◌, length, eqb_tells, has, Color, Kind, other, total, Placement, total-le, Wing, State, Stands, king_home, rook_home, king_crossed, king_target, plies_left, victims, charge, counted, counted_king, counted_rook, counted_other, Facts, Leg, IsPath, quiet, Fate, Arrives, Falls, Meets, IsWayUnder, Journeys, HasTake, Measure, Moves, QuietMoves, IsPaid, IsAlive, lifted, lifted_from, AreResting, IsDead, cases_Bool}
use Rattle.pg_position.proofs.ValidLemmas.{castle_squares, castle_between}
use Rattle.pg_journeys.proofs.FrontLemmas.{not_both}
use Rattle.pg_journeys.proofs.RestingLemmas.{stands_lifted, lifted_victims}

-- ---- where a man starts
-- a man on a still square is not castled
pub start_of_still : (f : Facts) (p : State) (c : Color) (way : Option Wing) (s : ℕ) → IsWayUnder f p c way → f.still s ≡ true → counted c way s ≡ s
start_of_still f p c None s held on = refl
start_of_still f p c (Some w) s (right, king, rook, between) on =
    counted_other c w s (λ e. not_both (f.still s) on (ap f.still e ∙ king)) (λ e. not_both (f.still s) on (ap f.still e ∙ rook))

-- who starts on a still square starts where he stands
still_start : (f : Facts) (p : State) (c : Color) (way : Option Wing) (s : ℕ) → IsWayUnder f p c way → f.still (counted c way s) ≡ true → counted c way s ≡ s
still_start f p c None s held on = refl
still_start f p c (Some w) s (right, king, rook, between) on =
    let crossed : f.still (king_crossed c w) ≡ false = between (king_crossed c w) (castle_squares c w).crossed_low (castle_between c w).0 in
    let target : f.still (king_target c w) ≡ false = between (king_target c w) (castle_squares c w).target_low (castle_between c w).1 in
    elim (eqb_tells s (king_home c)) [
      | inl u ↦ absurd (not_both (f.still (counted c (Some w) s)) on (ap f.still (ap (counted c (Some w)) u.1 ∙ (counted_king c w).0) ∙ target))
      | inr u ↦ elim (eqb_tells s (rook_home c w)) [
        | inl v ↦ absurd (not_both (f.still (counted c (Some w) s)) on (ap f.still (ap (counted c (Some w)) v.1 ∙ (counted_rook c w).0) ∙ crossed))
        | inr v ↦ counted_other c w s u.1 v.1
      ]
    ]

-- ---- paths from a still square and to one have no step
pub path_from_still : (f : Facts) (c : Color) (k : Kind) (r : ℕ) (ls : List Leg) (j : Kind) (s : ℕ) → f.still r ≡ true → IsPath f c k r ls j s → (ls ≡ []) × (r ≡ s)
path_from_still f c k r [] j s on (e, same) = (refl, same)
path_from_still f c k r (l ∷ ls) j s on (e, from, is, rest) = absurd (not_both (f.still r) on (ap f.still (sym from) ∙ is.leaves))

pub path_to_still : (f : Facts) (c : Color) (k : Kind) (r : ℕ) (ls : List Leg) (j : Kind) (s : ℕ) → f.still s ≡ true → IsPath f c k r ls j s → (ls ≡ []) × (r ≡ s)
path_to_still f c k r [] j s on (e, same) = (refl, same)
path_to_still f c k r (l ∷ ls) j s on (e, from, is, rest) =
    let last : (ls ≡ []) × (l.to ≡ s) = path_to_still f c l.into l.to ls j s on rest in
    absurd (not_both (f.still s) on (ap f.still (sym last.1) ∙ is.comes))

-- ---- plans with the men who rest, and without them
pub never_arrives : (s u : ℕ) → Falls u ≡ Arrives s → ⊥
never_arrives s u e = cc

pub same_end : (s t : ℕ) → Arrives s ≡ Arrives t → s ≡ t
same_end s t e = cc

pub no_take : (f : Facts) (c : Color) (q : ℕ) (ls : List Leg) → ls ≡ [] → HasTake f c q ls → ⊥
no_take f c q ls none take = let e : HasTake f c q [] = subst (λ (x : List Leg). HasTake f c q x) none take in cc

no_more : (b : Bool) (h : List Leg → ℕ) (ls : List Leg) → h [] ≡ 0 → h (cond b [] ls) ≤ h ls
no_more true h ls none = omega (arith, none)
no_more false h ls none = omega arith

module _ (f : Facts) (d : Placement) (p : State) (z : ℕ) (r : AreResting f d p z) (c : Color) where
  -- who rests keeps his square and takes no step
  rests_there : (k : Kind) (s o : ℕ) (ls : List Leg) (e : Fate) → s < 64 → has z s ≡ true → o ≡ s → Meets f d p c k s o ls e → (e ≡ Arrives s) × (ls ≡ [])
  rests_there k s o ls (Arrives t) low on same (j, there, st, path) =
      let q : (ls ≡ []) × (o ≡ t) = path_from_still f c k o ls j t (ap f.still same ∙ r.still s low on) path in
      (ap Arrives (sym q.1 ∙ same), q.0)
  rests_there k s o ls (Falls u) low on same (ne, there, lands, inl (j, path)) =
      let q : (ls ≡ []) × (o ≡ u) = path_from_still f c k o ls j u (ap f.still same ∙ r.still s low on) path in
      absurd (not_both (f.lands (other c) s) (ap (f.lands (other c)) (sym same ∙ q.1) ∙ lands) (r.spared (other c) s low on))
  rests_there k s o ls (Falls u) low on same (ne, there, lands, inr (has_passed, none)) = absurd (r.waited c s u low on has_passed)

  -- another man meets the same fates without those who rest: none of them comes to their squares
  meets_without : (k : Kind) (s o : ℕ) (ls : List Leg) (e : Fate) → has z s ≡ false → (f.still o ≡ true → o ≡ s) → Meets f d p c k s o ls e → Meets f (lifted d z) (lifted_from p z) c k s o ls e
  meets_without k s o ls (Arrives t) off start (j, there, st, path) = (j, there, (stands_lifted d z c j t there).1 (st, left (cases_Bool (has z t))), path)
    where
      left : (has z t ≡ true) ⊎ (has z t ≡ false) → has z t ≡ false
      left (inl on) =
          let still : f.still t ≡ true = r.still t there on in
          let same : o ≡ t = (path_to_still f c k o ls j t still path).1 in
          let here : s ≡ t = sym (start (ap f.still same ∙ still)) ∙ same in
          absurd (not_both (has z t) on (ap (has z) (sym here) ∙ off))
      left (inr out) = out
  meets_without k s o ls (Falls u) off start met = met

  meets_with : (k : Kind) (s o : ℕ) (ls : List Leg) (e : Fate) → Meets f (lifted d z) (lifted_from p z) c k s o ls e → Meets f d p c k s o ls e
  meets_with k s o ls (Arrives t) (j, there, st, path) = (j, there, ((stands_lifted d z c j t there).0 st).0, path)
  meets_with k s o ls (Falls u) met = met

  module _ (way : Option Wing) (held : IsWayUnder f p c way) where
    -- who rests, in all journeys of a way
    pub rests_in : (g : Journeys f d p c way) (k : Kind) (s : ℕ) → s < 64 → Stands p.board c k s → has z s ≡ true → (g.fate s ≡ Arrives s) × (g.path s ≡ [])
    rests_in g k s low st on = rests_there k s (counted c way s) (g.path s) (g.fate s) low on (start_of_still f p c way s held (r.still s low on)) (g.meets k s low st)

    reached_without : (g : Journeys f d p c way) (j : Kind) (t : ℕ) → t < 64 → Stands (lifted d z) c j t → (k : Kind) × (s : ℕ) × (s < 64) × Stands (lifted p.board z) c k s × (g.fate s ≡ Arrives t)
    reached_without g j t low h =
        let st : Stands d c j t × (has z t ≡ false) = (stands_lifted d z c j t low).0 h in
        let was : (k : Kind) × (s : ℕ) × (s < 64) × Stands p.board c k s × (g.fate s ≡ Arrives t) = g.reached j t low st.0 in
        (was.0, was.1, was.2, (stands_lifted p.board z c was.0 was.1 was.2).1 (was.3, left was.0 was.1 was.2 was.3 was.4 st.1 (cases_Bool (has z was.1))), was.4)
      where
        left : (k : Kind) (s : ℕ) → s < 64 → Stands p.board c k s → g.fate s ≡ Arrives t → has z t ≡ false → (has z s ≡ true) ⊎ (has z s ≡ false) → has z s ≡ false
        left k s there stood e off (inl on) =
            let same : s ≡ t = same_end s t (sym (rests_in g k s there stood on).0 ∙ e) in
            absurd (not_both (has z s) on (ap (has z) same ∙ off))
        left k s there stood e off (inr out) = out

    pub without_rest : Journeys f d p c way → Journeys f (lifted d z) (lifted_from p z) c way
    without_rest g = record {
      fate = g.fate;
      path = g.path;
      meets = λ k s low h.
          (let st : Stands p.board c k s × (has z s ≡ false) = (stands_lifted p.board z c k s low).0 h in
          meets_without k s (counted c way s) (g.path s) (g.fate s) st.1 (still_start f p c way s held) (g.meets k s low st.0));
      different = λ k i a b t la lb ha hb ea eb. g.different k i a b t la lb ((stands_lifted p.board z c k a la).0 ha).0 ((stands_lifted p.board z c i b lb).0 hb).0 ea eb;
      reached = reached_without g;
    }

    pub without_is : (g : Journeys f d p c way) (s : ℕ) → ((without_rest g).fate s ≡ g.fate s) × ((without_rest g).path s ≡ g.path s)
    unfolding without_rest
    without_is g s = (refl, refl)

    module _ (g : Journeys f (lifted d z) (lifted_from p z) c way) where
      fates : ℕ → Fate
      fates s = cond (has z s) (Arrives s) (g.fate s)

      paths : ℕ → List Leg
      paths s = cond (has z s) [] (g.path s)

      fate_on : (s : ℕ) → has z s ≡ true → fates s ≡ Arrives s
      unfolding fates
      fate_on s on = ap (λ (x : Bool). cond x (Arrives s) (g.fate s)) on

      fate_off : (s : ℕ) → has z s ≡ false → fates s ≡ g.fate s
      unfolding fates
      fate_off s off = ap (λ (x : Bool). cond x (Arrives s) (g.fate s)) off

      path_on : (s : ℕ) → has z s ≡ true → paths s ≡ []
      unfolding paths
      path_on s on = ap (λ (x : Bool). cond x [] (g.path s)) on

      path_off : (s : ℕ) → has z s ≡ false → paths s ≡ g.path s
      unfolding paths
      path_off s off = ap (λ (x : Bool). cond x [] (g.path s)) off

      met : (k : Kind) (s : ℕ) → s < 64 → Stands p.board c k s → (has z s ≡ true) ⊎ (has z s ≡ false) → Meets f d p c k s (counted c way s) (paths s) (fates s)
      met k s low st (inl on) =
          let stays : Meets f d p c k s (counted c way s) [] (Arrives s) = (k, low, r.same s low on ∙ st, (refl, start_of_still f p c way s held (r.still s low on))) in
          subst (λ (e : Fate). Meets f d p c k s (counted c way s) (paths s) e) (sym (fate_on s on)) (subst (λ (ls : List Leg). Meets f d p c k s (counted c way s) ls (Arrives s)) (sym (path_on s on)) stays)
      met k s low st (inr off) =
          let goes : Meets f d p c k s (counted c way s) (g.path s) (g.fate s) = meets_with k s (counted c way s) (g.path s) (g.fate s) (g.meets k s low ((stands_lifted p.board z c k s low).1 (st, off))) in
          subst (λ (e : Fate). Meets f d p c k s (counted c way s) (paths s) e) (sym (fate_off s off)) (subst (λ (ls : List Leg). Meets f d p c k s (counted c way s) ls (g.fate s)) (sym (path_off s off)) goes)

      -- nobody else comes to the square of a man who rests
      goes_off : (k : Kind) (s t : ℕ) → s < 64 → Stands p.board c k s → has z s ≡ false → fates s ≡ Arrives t → (g.fate s ≡ Arrives t) × (has z t ≡ false)
      goes_off k s t low st off e = (is, ends (g.fate s) is (g.meets k s low ((stands_lifted p.board z c k s low).1 (st, off))))
        where
          is : g.fate s ≡ Arrives t
          is = sym (fate_off s off) ∙ e

          ends : (o : Fate) → o ≡ Arrives t → Meets f (lifted d z) (lifted_from p z) c k s (counted c way s) (g.path s) o → has z t ≡ false
          ends (Arrives u) w (j, there, h, path) = subst (λ (x : ℕ). has z x ≡ false) (same_end u t w) ((stands_lifted d z c j u there).0 h).1
          ends (Falls u) w h = absurd (never_arrives t u w)

      apart_with : (k i : Kind) (a b t : ℕ) → a < 64 → b < 64 → Stands p.board c k a → Stands p.board c i b → fates a ≡ Arrives t → fates b ≡ Arrives t → (has z a ≡ true) ⊎ (has z a ≡ false) → (has z b ≡ true) ⊎ (has z b ≡ false) → a ≡ b
      apart_with k i a b t la lb ha hb ea eb (inl oa) (inl ob) = same_end a t (sym (fate_on a oa) ∙ ea) ∙ sym (same_end b t (sym (fate_on b ob) ∙ eb))
      apart_with k i a b t la lb ha hb ea eb (inl oa) (inr ob) =
          let off : has z t ≡ false = (goes_off i b t lb hb ob eb).1 in
          absurd (not_both (has z t) (ap (has z) (sym (same_end a t (sym (fate_on a oa) ∙ ea))) ∙ oa) off)
      apart_with k i a b t la lb ha hb ea eb (inr oa) (inl ob) =
          let off : has z t ≡ false = (goes_off k a t la ha oa ea).1 in
          absurd (not_both (has z t) (ap (has z) (sym (same_end b t (sym (fate_on b ob) ∙ eb))) ∙ ob) off)
      apart_with k i a b t la lb ha hb ea eb (inr oa) (inr ob) =
          g.different k i a b t la lb ((stands_lifted p.board z c k a la).1 (ha, oa)) ((stands_lifted p.board z c i b lb).1 (hb, ob)) (sym (fate_off a oa) ∙ ea) (sym (fate_off b ob) ∙ eb)

      reached_with : (j : Kind) (t : ℕ) → t < 64 → Stands d c j t → (has z t ≡ true) ⊎ (has z t ≡ false) → (k : Kind) × (s : ℕ) × (s < 64) × Stands p.board c k s × (fates s ≡ Arrives t)
      reached_with j t low h (inl on) = (j, t, low, sym (r.same t low on) ∙ h, fate_on t on)
      reached_with j t low h (inr off) =
          let was : (k : Kind) × (s : ℕ) × (s < 64) × Stands (lifted p.board z) c k s × (g.fate s ≡ Arrives t) = g.reached j t low ((stands_lifted d z c j t low).1 (h, off)) in
          let st : Stands p.board c was.0 was.1 × (has z was.1 ≡ false) = (stands_lifted p.board z c was.0 was.1 was.2).0 was.3 in
          (was.0, was.1, was.2, st.0, fate_off was.1 st.1 ∙ was.4)

      pub with_rest : Journeys f d p c way
      with_rest = record {
        fate = fates;
        path = paths;
        meets = λ k s low st. met k s low st (cases_Bool (has z s));
        different = λ k i a b t la lb ha hb ea eb. apart_with k i a b t la lb ha hb ea eb (cases_Bool (has z a)) (cases_Bool (has z b));
        reached = λ j t low h. reached_with j t low h (cases_Bool (has z t));
      }

      pub with_is : (s : ℕ) → has z s ≡ false → (with_rest.fate s ≡ g.fate s) × (with_rest.path s ≡ g.path s)
      unfolding with_rest
      with_is s off = (fate_off s off, path_off s off)

      paths_sum : (h : List Leg → ℕ) → h [] ≡ 0 → total (λ s. h (paths s)) 64 ≤ total (λ s. h (g.path s)) 64
      unfolding paths
      paths_sum h none = total-le (λ s. h (paths s)) (λ s. h (g.path s)) 64 (λ s low. no_more (has z s) h (g.path s) none)

    -- ---- what plans cost
    pub pays_without : (k : ℕ) (u : Measure) (g : Journeys f d p c way) → IsPaid f d p k c way u g → IsPaid f (lifted d z) (lifted_from p z) k c way u (without_rest g)
    unfolding without_rest
    pays_without k Moves g paid = paid
    pays_without k QuietMoves g paid =
        let a : charge way + total (λ s. quiet f c (g.path s)) 64 + victims c p.board ≤ plies_left p.side c k + victims c d = paid in
        omega (arith, a, lifted_victims f d p z c r)

    pub pays_with : (k : ℕ) (u : Measure) (g : Journeys f (lifted d z) (lifted_from p z) c way) → IsPaid f (lifted d z) (lifted_from p z) k c way u g → IsPaid f d p k c way u (with_rest g)
    unfolding with_rest
    pays_with k Moves g paid =
        let a : charge way + total (λ s. length (g.path s)) 64 ≤ plies_left p.side c k = paid in
        omega (arith, a, paths_sum g length refl)
    pays_with k QuietMoves g paid =
        let a : charge way + total (λ s. quiet f c (g.path s)) 64 + victims c (lifted p.board z) ≤ plies_left p.side c k + victims c (lifted d z) = paid in
        omega (arith, a, paths_sum g (quiet f c) refl, lifted_victims f d p z c r)

  -- ---- the ways alive
  pub alive_without : (k : ℕ) (way : Option Wing) → IsAlive f d p k c way → IsAlive f (lifted d z) (lifted_from p z) k c way
  alive_without k way (held, plans) = (held, λ u. (let h : (g : Journeys f d p c way) × IsPaid f d p k c way u g = plans u in (without_rest way held h.0, pays_without way held k u h.0 h.1)))

  pub alive_with : (k : ℕ) (way : Option Wing) → IsAlive f (lifted d z) (lifted_from p z) k c way → IsAlive f d p k c way
  alive_with k way (held, plans) = (held, λ u. (let h : (g : Journeys f (lifted d z) (lifted_from p z) c way) × IsPaid f (lifted d z) (lifted_from p z) k c way u g = plans u in (with_rest way held h.0, pays_with way held k u h.0 h.1)))

  pub dead_same : (k : ℕ) → IsDead f d p k c ↔ IsDead f (lifted d z) (lifted_from p z) k c
  dead_same k = (λ dead way alive. dead way (alive_with k way alive), λ dead way alive. dead way (alive_without k way alive))
