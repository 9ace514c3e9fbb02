-- What the counts of paths of one man within his rooms tell of plans: where he takes, where he is captured, and where he changes.
use Rattle.pg_journeys.proofs.Common.{◌≡◌, ◌≢◌, ℕ, ◌+◌, ◌-◌, ◌<◌, ◌≤◌, ◌⊎◌, inl, inr, Option, Some, None, Bool, true, false, cond, ◌&&◌, get_or, refl, sym, ap, subst, arith, ◌∙◌, List, [], ◌∷◌, cases_eq, has, Color, White, Black, Kind, Pawn, Knight, Bishop, Rook, Queen, King, other, file, rank, Placement, dec_kind, Wing, KingSide, QueenSide, Stands, PawnsClause, king_home, rook_home, same_kind, counted, counted_other, Facts, Leg, IsLeg, IsPath, may_take, Fate, Arrives, Falls, HasTake, landing, InColumn, leg, weigh, Side, Runner, counts, ComesTaking, runner_of, walker_of, facts_of, square_at, kind_at, IsSide, IsEnd, EndWithin, AreRooms, JourneysOf, IsPaidBy, MeetsAt, InEnd, Changes, AreEnds, TakesBy, TakesToSome, StandsBy, PassedBy, FallsBy, ComesBack, ChangesBy}
use Rattle.pg_journeys.specs.lemmas.Takings.{ahead_may_not}
use Rattle.pg_journeys.specs.lemmas.ColumnsOfPlans.{HasColumns, columns_of_plan}
use Rattle.pg_journeys.proofs.CostLemmas.{end_more}
use Rattle.pg_journeys.proofs.FrontLemmas.{not_both}
use Rattle.pg_journeys.proofs.PathsInTwo.{InTwo, path_in_two, InOne, path_in_one, no_pawn_back, stays_piece}

-- ---- a pawn is counted where it stands
off_homes : (b : Placement) (c : Color) (s : ℕ) → PawnsClause b → s < 64 → Stands b c Pawn s → (s ≢ king_home c) × ((w : Wing) → s ≢ rook_home c w)
unfolding PawnsClause
off_homes b White s pawns low st = let r : (rank s ≢ 1) × (rank s ≢ 8) = pawns s White low st in (λ e. r.0 (ap rank e), λ w. off_rook w r.0)
  where
    off_rook : (w : Wing) → rank s ≢ 1 → s ≢ rook_home White w
    off_rook KingSide ne e = ne (ap rank e)
    off_rook QueenSide ne e = ne (ap rank e)
off_homes b Black s pawns low st = let r : (rank s ≢ 1) × (rank s ≢ 8) = pawns s Black low st in (λ e. r.1 (ap rank e), λ w. off_rook w r.1)
  where
    off_rook : (w : Wing) → rank s ≢ 8 → s ≢ rook_home Black w
    off_rook KingSide ne e = ne (ap rank e)
    off_rook QueenSide ne e = ne (ap rank e)

pawn_counted : (b : Placement) (c : Color) (way : Option Wing) (s : ℕ) → PawnsClause b → s < 64 → Stands b c Pawn s → counted c way s ≡ s
pawn_counted b c None s pawns low st = refl
pawn_counted b c (Some w) s pawns low st =
    let off : (s ≢ king_home c) × ((v : Wing) → s ≢ rook_home c v) = off_homes b c s pawns low st in
    counted_other c w s off.0 (off.1 w)

-- ---- a step of a man who is no pawn
piece_takes : (f : Facts) (c : Color) (k : Kind) (r : ℕ) (j : Kind) (t : ℕ) → k ≢ Pawn → may_take f c (leg k r j t) ≡ f.lands c t
piece_takes f c Pawn r j t ne = absurd (ne refl)
piece_takes f c Knight r j t ne = refl
piece_takes f c Bishop r j t ne = refl
piece_takes f c Rook r j t ne = refl
piece_takes f c Queen r j t ne = refl
piece_takes f c King r j t ne = refl

leg_along : (f : Facts) (c : Color) (l : Leg) (k : Kind) (r : ℕ) → l.kind ≡ k → l.from ≡ r → l.into ≡ k → IsLeg f c l → IsLeg f c (leg k r k l.to)
leg_along f c l k r a b d is =
    subst (λ (x : Kind). IsLeg f c (leg k r x l.to)) d (subst (λ (x : ℕ). IsLeg f c (leg k x l.into l.to)) b (subst (λ (x : Kind). IsLeg f c (leg x l.from l.into l.to)) a is))

step_counts : (f : Facts) (c : Color) (quiet : Bool) (l : Leg) (k : Kind) (r : ℕ) → k ≢ Pawn → l.kind ≡ k → counts f c quiet l ≡ cond (quiet && f.lands c l.to) 0 1
step_counts f c quiet l k r ne e = ap (λ (b : Bool). cond (quiet && b) 0 1) (piece_takes f c l.kind l.from l.into l.to (λ p. ne (sym e ∙ p)))

-- some plan has a step of the man i to q that may be a capture
abbrev pub LandsOf : Placement → Side → Bool → Option Wing → ℕ → ℕ → ℕ → Type 0
LandsOf d x quiet way most i q =
    (g : JourneysOf d x way) × IsPaidBy d x quiet way most g × HasTake (facts_of x) x.terrain.color q (g.path (square_at x.men i))

-- some plan has him captured on q
abbrev pub FallsOf : Placement → Side → Bool → Option Wing → ℕ → ℕ → ℕ → Type 0
FallsOf d x quiet way most i q =
    (g : JourneysOf d x way) × IsPaidBy d x quiet way most g × (g.fate (square_at x.men i) ≡ Falls q)

-- ---- the man i of a side in the plans of a way, by his rooms
pub record IsAsked (d : Placement) (x : Side) (quiet : Bool) (way : Option Wing) (most : ℕ) (rooms : List (List ℕ)) (i : ℕ) : Type 0 where
  pub side : IsSide d x
  pub roomed : AreRooms d x quiet way most rooms
  pub small : most < 200
  pub low : i < x.men.count

-- a path takes only where captures may land
take_lands : (f : Facts) (c : Color) (q : ℕ) (l : Leg) → IsLeg f c l → l.to ≡ q → may_take f c l ≡ true → f.lands c q ≡ true
take_lands f c q l is to take = subst (λ (u : ℕ). f.lands c u ≡ true) to (elim (dec_kind l.kind Pawn) [
  | yes pawn ↦ is.lands pawn (takes_aside f c l.kind l.from l.into l.to pawn take)
  | no piece ↦ sym (piece_takes f c l.kind l.from l.into l.to piece) ∙ take
])
  where
    takes_aside : (f : Facts) (c : Color) (k : Kind) (r : ℕ) (j : Kind) (t : ℕ) → k ≡ Pawn → may_take f c (leg k r j t) ≡ true → file r ≢ file t
    takes_aside f c k r j t e h same = not_both (may_take f c (leg k r j t)) h (ahead_may_not f c k r j t e same)

takes_land : (f : Facts) (c : Color) (quiet : Bool) (q : ℕ) (ls : List Leg) (k : Kind) (r : ℕ) (j : Kind) (s : ℕ) → IsPath f c k r ls j s → HasTake f c q ls → f.lands c q ≡ true
takes_land f c quiet q ls k r j s path take =
    let w : InTwo f c quiet k r j s q (weigh (counts f c quiet) ls) = path_in_two f c quiet q ls k r j s path take in
    let t : ComesTaking f c quiet k r w.0 q w.1 = w.3 in
    take_lands f c q t.1 t.3 t.6 t.4

module _ (d : Placement) (x : Side) (quiet : Bool) (way : Option Wing) (most : ℕ) (rooms : List (List ℕ)) (i : ℕ) (asked : IsAsked d x quiet way most rooms i) where
  abbrev room : ℕ → ℕ
  room e = get_or (get_or rooms i []) e 0

  abbrev weight : List Leg → ℕ
  weight ls = weigh (counts (facts_of x) x.terrain.color quiet) ls

  abbrev square : ℕ
  square = square_at x.men i

  abbrev start : ℕ
  start = counted x.terrain.color way square

  -- as whom he is counted
  abbrev runner : Runner
  runner = runner_of x quiet way i

  -- his fate in a plan, and its end
  meets_at : (g : JourneysOf d x way) → MeetsAt d x way i (g.path square) (g.fate square)
  meets_at g = g.meets (kind_at x.men i) square (asked.side.men.listing.low i asked.low) (asked.side.men.kinds i asked.low)

  end_of : (o : Fate) (ls : List Leg) → MeetsAt d x way i ls o → (e : ℕ) × (e < 17) × InEnd x.goals e o
  end_of (Arrives t) ls (j, low, st, path) =
      let w : (e : ℕ) × (e < x.goals.count) × (square_at x.goals e ≡ t) = asked.side.goals.listing.listed j t low st in
      let few : x.goals.count ≤ 16 = asked.side.goals.few in
      let less : w.0 < x.goals.count = w.1 in
      (w.0, omega arith, (w.1, w.2))
  end_of (Falls u) ls h = (16, omega arith, refl)

  -- where some man is captured, there are more men than goals
  more_men : (g : JourneysOf d x way) (u : ℕ) → g.fate square ≡ Falls u → x.goals.count < x.men.count
  more_men g u e =
      let w : HasColumns (square_at x.goals) x.men.count x.goals.count (λ n. g.fate (square_at x.men n)) = columns_of_plan (facts_of x) d x.position x.terrain.color way (square_at x.men) (square_at x.goals) x.men.count x.goals.count asked.side.men.listing asked.side.goals.listing g in
      let below : w.0 i < x.men.count = w.1 i asked.low in
      let above : x.goals.count ≤ w.0 i = subst (λ (o : Fate). InColumn (square_at x.goals) x.goals.count (w.0 i) o) e (w.3 i asked.low) in
      omega arith

  -- a path to a goal of d is one to its man
  to_goal : (e t : ℕ) (j : Kind) (ls : List Leg) (k : Kind) (s : ℕ) → e < x.goals.count → square_at x.goals e ≡ t → Stands d x.terrain.color j t → IsPath (facts_of x) x.terrain.color k s ls j t → IsPath (facts_of x) x.terrain.color k s ls (kind_at x.goals e) (square_at x.goals e)
  to_goal e t j ls k s low at st path =
      let here : Stands d x.terrain.color j (square_at x.goals e) = subst (λ (y : ℕ). Stands d x.terrain.color j y) (sym at) st in
      let same : j ≡ kind_at x.goals e = same_kind here (asked.side.goals.kinds e low) in
      subst (λ (y : Kind). IsPath (facts_of x) x.terrain.color k s ls y (square_at x.goals e)) same (subst (λ (y : ℕ). IsPath (facts_of x) x.terrain.color k s ls j y) (sym at) path)

  -- and back: a plan for a path to a fate within its room
  with_path : (e : ℕ) (o : Fate) (ls : List Leg) → e < 17 → InEnd x.goals e o → MeetsAt d x way i ls o → room e < 255 → weight ls ≤ room e → (g : JourneysOf d x way) × IsPaidBy d x quiet way most g × (g.fate square ≡ o) × (g.path square ≡ ls)
  with_path e o ls le end meets some fits = asked.roomed.fits i e o ls asked.low le end meets some fits

  no_king : room 16 < 255 → kind_at x.men i ≢ King
  no_king some =
      let s : (o : Fate) × (ls : List Leg) × InEnd x.goals 16 o × MeetsAt d x way i ls o × (weight ls ≤ room 16) = asked.roomed.some i 16 asked.low (omega arith) some in
      of_fate s.0 s.1 s.2 s.3
    where
      of_fate : (o : Fate) (ls : List Leg) → InEnd x.goals 16 o → MeetsAt d x way i ls o → kind_at x.men i ≢ King
      of_fate (Arrives t) ls end h = absurd (let few : x.goals.count ≤ 16 = asked.side.goals.few in let low : 16 < x.goals.count = end.0 in omega arith)
      of_fate (Falls u) ls end h = h.0

  -- ---- where he takes, and is captured, no other squares are than where captures may land
  pub lands_known : (q : ℕ) → q < 64 → LandsOf d x quiet way most i q → has (landing x.terrain.facts x.terrain.color) q ≡ true
  lands_known q lq (g, paid, take) = along (g.fate square) (g.path square) (meets_at g) take
    where
      along : (o : Fate) (ls : List Leg) → MeetsAt d x way i ls o → HasTake (facts_of x) x.terrain.color q ls → has (landing x.terrain.facts x.terrain.color) q ≡ true
      along (Arrives t) ls (j, low, st, path) take = takes_land (facts_of x) x.terrain.color quiet q ls (kind_at x.men i) (counted x.terrain.color way square) j t path take
      along (Falls u) ls (ne, low, lands, inl (j, path)) take = takes_land (facts_of x) x.terrain.color quiet q ls (kind_at x.men i) (counted x.terrain.color way square) j u path take
      along (Falls u) ls (ne, low, lands, inr (has_passed, none)) take = absurd (let z : false ≡ true = subst (λ (y : List Leg). HasTake (facts_of x) x.terrain.color q y) none take in cc)

  pub falls_known : (q : ℕ) → q < 64 → FallsOf d x quiet way most i q → (room 16 < 255) × (has (landing x.terrain.facts (other x.terrain.color)) q ≡ true)
  falls_known q lq (g, paid, e) =
      let r : (room 16 < 255) × (weight (g.path square) ≤ room 16) = asked.roomed.least i 16 g asked.low (omega arith) paid (subst (λ (o : Fate). InEnd x.goals 16 o) (sym e) refl) in
      let m : MeetsAt d x way i (g.path square) (Falls q) = subst (λ (o : Fate). MeetsAt d x way i (g.path square) o) e (meets_at g) in
      (r.0, m.2)

  -- where there is a room, there is that end
  end_with : (e : ℕ) (o : Fate) (ls : List Leg) → e < 17 → room e < 255 → InEnd x.goals e o → MeetsAt d x way i ls o → weight ls ≤ room e → IsEnd x e
  end_with e (Arrives t) ls le some end meets fits = inl end.0
  end_with e (Falls u) ls le some end meets fits =
      let p : (g : JourneysOf d x way) × IsPaidBy d x quiet way most g × (g.fate square ≡ Falls u) × (g.path square ≡ ls) = with_path e (Falls u) ls le end meets some fits in
      inr (end, more_men p.0 u p.2)

  pub ends_are : AreEnds x (get_or rooms i [])
  ends_are e le some =
      let s : (o : Fate) × (ls : List Leg) × InEnd x.goals e o × MeetsAt d x way i ls o × (weight ls ≤ room e) = asked.roomed.some i e asked.low le some in
      let small : room e ≤ most = asked.roomed.small i e asked.low le some in
      let low : most < 200 = asked.small in
      (omega arith, end_with e s.0 s.1 le some s.2 s.3 s.4)

  -- ---- where he takes
  takes_to : (e n q : ℕ) (j : Kind) (rest : List Leg) → room e < 255 → ComesTaking (facts_of x) x.terrain.color quiet (kind_at x.men i) start j q n →
      EndWithin x quiet e (weight rest) j q → n + weight rest ≤ room e → TakesBy x runner (get_or rooms i []) e q
  takes_to e n q j rest some comes on fits =
      (some, (n, omega arith, (j, (n, omega arith, comes), end_more x quiet e (weight rest) (room e - n) j q (omega arith) on)))

  takes_by : (o : Fate) (ls : List Leg) (e q : ℕ) → ((u : ℕ) → o ≡ Falls u → x.goals.count < x.men.count) → room e < 255 → weight ls ≤ room e → InEnd x.goals e o → MeetsAt d x way i ls o → HasTake (facts_of x) x.terrain.color q ls → TakesBy x runner (get_or rooms i []) e q
  takes_by (Arrives t) ls e q more some fits end (j, low, st, path) take =
      let w : InTwo (facts_of x) x.terrain.color quiet (kind_at x.men i) start (kind_at x.goals e) (square_at x.goals e) q (weight ls) = path_in_two (facts_of x) x.terrain.color quiet q ls (kind_at x.men i) start (kind_at x.goals e) (square_at x.goals e) (to_goal e t j ls (kind_at x.men i) start end.0 end.1 st path) take in
      let sum : w.1 + weight w.2 ≡ weight ls = w.5 in
      takes_to e w.1 q w.0 w.2 some w.3 (inl (end.0, (w.2, w.4, omega arith))) (omega arith)
  takes_by (Falls u) ls e q more some fits end (ne, low, lands, inl (j, path)) take =
      let w : InTwo (facts_of x) x.terrain.color quiet (kind_at x.men i) start j u q (weight ls) = path_in_two (facts_of x) x.terrain.color quiet q ls (kind_at x.men i) start j u path take in
      let sum : w.1 + weight w.2 ≡ weight ls = w.5 in
      takes_to e w.1 q w.0 w.2 some w.3 (inr (end, more u refl, (j, u, w.2, low, lands, w.4, omega arith))) (omega arith)
  takes_by (Falls u) ls e q more some fits end (ne, low, lands, inr (has_passed, none)) take =
      absurd (let z : false ≡ true = subst (λ (y : List Leg). HasTake (facts_of x) x.terrain.color q y) none take in cc)

  pub lands_found : (q : ℕ) → q < 64 → LandsOf d x quiet way most i q → TakesToSome x runner (get_or rooms i []) q
  lands_found q lq (g, paid, take) =
      let w : (e : ℕ) × (e < 17) × InEnd x.goals e (g.fate square) = end_of (g.fate square) (g.path square) (meets_at g) in
      let r : (room w.0 < 255) × (weight (g.path square) ≤ room w.0) = asked.roomed.least i w.0 g asked.low w.1 paid w.2 in
      (w.0, w.1, takes_by (g.fate square) (g.path square) w.0 q (more_men g) r.0 r.1 w.2 (meets_at g) take)

  lands_by : (e a n q : ℕ) (k : Kind) → e < 17 → room e < 255 → ComesTaking (facts_of x) x.terrain.color quiet (kind_at x.men i) start k q n → n ≤ a → a < room e + 1 → EndWithin x quiet e (room e - a) k q → LandsOf d x quiet way most i q
  lands_by e a n q k le some comes less inside (inl (low, (ms, path, fits))) =
      let w : InOne (facts_of x) x.terrain.color quiet (kind_at x.men i) start (kind_at x.goals e) (square_at x.goals e) q (n + weight ms) = path_in_one (facts_of x) x.terrain.color quiet q (kind_at x.men i) start k n ms (kind_at x.goals e) (square_at x.goals e) comes path in
      let sum : weight w.0 ≡ n + weight ms = w.3 in
      let p : (g : JourneysOf d x way) × IsPaidBy d x quiet way most g × (g.fate square ≡ Arrives (square_at x.goals e)) × (g.path square ≡ w.0) = with_path e (Arrives (square_at x.goals e)) w.0 le (low, refl) (kind_at x.goals e, asked.side.goals.listing.low e low, asked.side.goals.kinds e low, w.1) some (omega arith) in
      (p.0, p.1, subst (λ (y : List Leg). HasTake (facts_of x) x.terrain.color q y) (sym p.3) w.2)
  lands_by e a n q k le some comes less inside (inr (is, more, (j, t, ms, low, lands, path, fits))) =
      let w : InOne (facts_of x) x.terrain.color quiet (kind_at x.men i) start j t q (n + weight ms) = path_in_one (facts_of x) x.terrain.color quiet q (kind_at x.men i) start k n ms j t comes path in
      let sum : weight w.0 ≡ n + weight ms = w.3 in
      let p : (g : JourneysOf d x way) × IsPaidBy d x quiet way most g × (g.fate square ≡ Falls t) × (g.path square ≡ w.0) = with_path e (Falls t) w.0 le is (no_king (subst (λ (y : ℕ). room y < 255) is some), low, lands, inl (j, w.1)) some (omega arith) in
      (p.0, p.1, subst (λ (y : List Leg). HasTake (facts_of x) x.terrain.color q y) (sym p.3) w.2)

  pub lands_back : (q : ℕ) → q < 64 → TakesToSome x runner (get_or rooms i []) q → LandsOf d x quiet way most i q
  lands_back q lq (e, le, (some, (a, inside, (k, (n, less, comes), on)))) = lands_by e a n q k le some comes less inside on

  -- ---- where he is captured
  pub falls_found : (q : ℕ) → q < 64 → FallsOf d x quiet way most i q → FallsBy x (walker_of x quiet way i) (room 16) q
  falls_found q lq (g, paid, e) =
      let r : (room 16 < 255) × (weight (g.path square) ≤ room 16) = asked.roomed.least i 16 g asked.low (omega arith) paid (subst (λ (o : Fate). InEnd x.goals 16 o) (sym e) refl) in
      (r.0, told (g.path square) r.1 (subst (λ (o : Fate). MeetsAt d x way i (g.path square) o) e (meets_at g)))
    where
      told : (ls : List Leg) → weight ls ≤ room 16 → MeetsAt d x way i ls (Falls q) → StandsBy x runner (room 16) q ⊎ PassedBy x square q
      told ls fits (ne, low, lands, inl (j, path)) = inl (j, (ls, path, fits), lands)
      told ls fits (ne, low, lands, inr (has_passed, none)) = inr (has_passed, low, lands)

  pub falls_back : (q : ℕ) → q < 64 → FallsBy x (walker_of x quiet way i) (room 16) q → FallsOf d x quiet way most i q
  falls_back q lq (some, inl (j, (ls, path, fits), lands)) =
      let p : (g : JourneysOf d x way) × IsPaidBy d x quiet way most g × (g.fate square ≡ Falls q) × (g.path square ≡ ls) = with_path 16 (Falls q) ls (omega arith) refl (no_king some, lq, lands, inl (j, path)) some fits in
      (p.0, p.1, p.2)
  falls_back q lq (some, inr (has_passed, low, lands)) =
      let p : (g : JourneysOf d x way) × IsPaidBy d x quiet way most g × (g.fate square ≡ Falls q) × (g.path square ≡ []) = with_path 16 (Falls q) [] (omega arith) refl (no_king some, lq, lands, inr (has_passed, refl)) some (omega arith) in
      (p.0, p.1, p.2)

  -- ---- where he changes
  stays_counted : kind_at x.men i ≡ Pawn → start ≡ square
  stays_counted e =
      let st : Stands x.position.board x.terrain.color Pawn square = subst (λ (y : Kind). Stands x.position.board x.terrain.color y square) e (asked.side.men.kinds i asked.low) in
      pawn_counted x.position.board x.terrain.color way square asked.side.pawns (asked.side.men.listing.low i asked.low) st

  abbrev Changed : ℕ → Type 0
  Changed e = ChangesBy x (walker_of x quiet way i) e (room e)

  -- a path of a step or more back to his square
  back_by : (e : ℕ) (l : Leg) (ls : List Leg) → e < x.goals.count → e < 17 → room e < 255 → weight (l ∷ ls) ≤ room e → square_at x.goals e ≡ square → kind_at x.goals e ≡ kind_at x.men i → kind_at x.men i ≢ Pawn → IsPath (facts_of x) x.terrain.color (kind_at x.men i) start (l ∷ ls) (kind_at x.goals e) (square_at x.goals e) → ComesBack x runner e (room e)
  back_by e l ls low le some fits at same piece (a, b, is, path) =
      let not_pawn : l.kind ≢ Pawn = λ p. piece (sym a ∙ p) in
      let into : l.into ≡ kind_at x.men i = stays_piece (facts_of x) x.terrain.color l.kind l.to l.into not_pawn is.free.3 ∙ a in
      let on : IsPath (facts_of x) x.terrain.color (kind_at x.men i) l.to ls (kind_at x.goals e) (square_at x.goals e) = subst (λ (y : Kind). IsPath (facts_of x) x.terrain.color y l.to ls (kind_at x.goals e) (square_at x.goals e)) into path in
      let count : counts (facts_of x) x.terrain.color quiet l ≡ cond (quiet && has (landing x.terrain.facts x.terrain.color) l.to) 0 1 = step_counts (facts_of x) x.terrain.color quiet l (kind_at x.men i) start piece a in
      let sum : counts (facts_of x) x.terrain.color quiet l + weight ls ≤ room e = fits in
      (l.to, is.free.1, leg_along (facts_of x) x.terrain.color l (kind_at x.men i) start a b into is, weight ls, inl (low, (ls, on, omega arith)), omega arith)

  changed_by : (o : Fate) (ls : List Leg) (e : ℕ) → e < 17 → room e < 255 → weight ls ≤ room e → InEnd x.goals e o → MeetsAt d x way i ls o → ((o ≡ Arrives square) × (ls ≡ []) → ⊥) → Changed e
  changed_by (Falls u) ls e le some fits end h moves = inl end
  changed_by (Arrives t) ls e le some fits end (j, low, st, path) moves = elim (cases_eq (square_at x.goals e) square) [
    | inr ne ↦ inr (inl ne)
    | inl at ↦ elim (dec_kind (kind_at x.goals e) (kind_at x.men i)) [
      | no ne ↦ inr (inr (inl ne))
      | yes same ↦ by_path ls fits at same (to_goal e t j ls (kind_at x.men i) start end.0 end.1 st path) (λ none. moves (ap Arrives (sym end.1 ∙ at), none))
    ]
  ]
    where
      by_path : (ms : List Leg) → weight ms ≤ room e → square_at x.goals e ≡ square → kind_at x.goals e ≡ kind_at x.men i → IsPath (facts_of x) x.terrain.color (kind_at x.men i) start ms (kind_at x.goals e) (square_at x.goals e) → (ms ≡ [] → ⊥) → Changed e
      by_path [] less at same p some_step = absurd (some_step refl)
      by_path (l ∷ ms) less at same p some_step = elim (dec_kind (kind_at x.men i) Pawn) [
        | yes pawn ↦ absurd (no_pawn_back (facts_of x) x.terrain.color l ms (kind_at x.men i) square (subst (λ (y : ℕ). IsPath (facts_of x) x.terrain.color (kind_at x.men i) y (l ∷ ms) Pawn square) (stays_counted pawn) (subst (λ (y : ℕ). IsPath (facts_of x) x.terrain.color (kind_at x.men i) start (l ∷ ms) Pawn y) at (subst (λ (y : Kind). IsPath (facts_of x) x.terrain.color (kind_at x.men i) start (l ∷ ms) y (square_at x.goals e)) (same ∙ pawn) p))))
        | no piece ↦ inr (inr (inr (piece, back_by e l ms end.0 le some less at same piece p)))
      ]

  pub changes_found : (e : ℕ) → e < 17 → Changes d x quiet way most i e → (room e < 255) × Changed e
  changes_found e le (g, paid, end, moves) =
      let r : (room e < 255) × (weight (g.path square) ≤ room e) = asked.roomed.least i e g asked.low le paid end in
      (r.0, changed_by (g.fate square) (g.path square) e le r.0 r.1 end (meets_at g) (λ h. moves h))

  -- who takes, or is captured, changes by some end
  pub lands_change : (q : ℕ) → LandsOf d x quiet way most i q → (e : ℕ) × (e < 17) × Changes d x quiet way most i e
  lands_change q (g, paid, take) =
      let w : (e : ℕ) × (e < 17) × InEnd x.goals e (g.fate square) = end_of (g.fate square) (g.path square) (meets_at g) in
      (w.0, w.1, (g, paid, w.2, λ h. (let z : false ≡ true = subst (λ (y : List Leg). HasTake (facts_of x) x.terrain.color q y) h.1 take in cc)))

  pub falls_change : (q : ℕ) → FallsOf d x quiet way most i q → (e : ℕ) × (e < 17) × Changes d x quiet way most i e
  falls_change q (g, paid, e) = (16, omega arith, (g, paid, subst (λ (o : Fate). InEnd x.goals 16 o) (sym e) refl, λ h. no_fall (sym h.0 ∙ e)))
    where
      no_fall : Arrives square ≡ Falls q → ⊥
      no_fall a = cc

  -- and back
  change_with : (e : ℕ) (o : Fate) (ls : List Leg) → e < 17 → InEnd x.goals e o → MeetsAt d x way i ls o → room e < 255 → weight ls ≤ room e → (o ≡ Arrives square → ls ≡ [] → ⊥) → Changes d x quiet way most i e
  change_with e o ls le end meets some fits moves =
      let p : (g : JourneysOf d x way) × IsPaidBy d x quiet way most g × (g.fate square ≡ o) × (g.path square ≡ ls) = with_path e o ls le end meets some fits in
      (p.0, p.1, subst (λ (y : Fate). InEnd x.goals e y) (sym p.2) end, λ h. moves (sym p.2 ∙ h.0) (sym p.3 ∙ h.1))

  change_by : (o : Fate) (ls : List Leg) (e : ℕ) → e < 17 → room e < 255 → weight ls ≤ room e → InEnd x.goals e o → MeetsAt d x way i ls o → Changed e → Changes d x quiet way most i e
  change_by (Falls u) ls e le some fits end h changed = change_with e (Falls u) ls le end h some fits (λ a b. cc)
  change_by (Arrives t) ls e le some fits end h (inl last) = absurd (let few : x.goals.count ≤ 16 = asked.side.goals.few in let low : e < x.goals.count = end.0 in omega arith)
  change_by (Arrives t) ls e le some fits end h (inr (inl ne)) = change_with e (Arrives t) ls le end h some fits (λ a b. ne (end.1 ∙ same_target t square a))
    where
      same_target : (t u : ℕ) → Arrives t ≡ Arrives u → t ≡ u
      same_target t u a = cc
  change_by (Arrives t) ls e le some fits end (j, low, st, path) (inr (inr (inl ne))) =
      change_with e (Arrives t) ls le end (j, low, st, path) some fits
      (λ a b.
      let p : IsPath (facts_of x) x.terrain.color (kind_at x.men i) start [] (kind_at x.goals e) (square_at x.goals e) = subst (λ (y : List Leg). IsPath (facts_of x) x.terrain.color (kind_at x.men i) start y (kind_at x.goals e) (square_at x.goals e)) b (to_goal e t j ls (kind_at x.men i) start end.0 end.1 st path) in
      ne (sym p.0))
  change_by (Arrives t) ls e le some fits end h (inr (inr (inr (piece, (s, low, is, n, on, sum))))) = by_step s n piece is on sum
    where
      by_step : (s n : ℕ) → kind_at x.men i ≢ Pawn → IsLeg (facts_of x) x.terrain.color (leg (kind_at x.men i) start (kind_at x.men i) s) → EndWithin x quiet e n (kind_at x.men i) s →
          cond (quiet && has (landing x.terrain.facts x.terrain.color) s) 0 1 + n ≤ room e → Changes d x quiet way most i e
      by_step s n piece is (inl (inside, (ms, path, less))) sum =
          let count : counts (facts_of x) x.terrain.color quiet (leg (kind_at x.men i) start (kind_at x.men i) s) ≡ cond (quiet && has (landing x.terrain.facts x.terrain.color) s) 0 1 = step_counts (facts_of x) x.terrain.color quiet (leg (kind_at x.men i) start (kind_at x.men i) s) (kind_at x.men i) start piece refl in
          change_with e (Arrives (square_at x.goals e)) (leg (kind_at x.men i) start (kind_at x.men i) s ∷ ms) le (inside, refl) (kind_at x.goals e, asked.side.goals.listing.low e inside, asked.side.goals.kinds e inside, (refl, refl, is, path)) some (omega arith) (λ a none. cc)
      by_step s n piece is (inr (last, _, _)) sum = absurd (let few : x.goals.count ≤ 16 = asked.side.goals.few in let inside : e < x.goals.count = end.0 in omega arith)

  pub changes_back : (e : ℕ) → e < 17 → (room e < 255) × Changed e → Changes d x quiet way most i e
  changes_back e le (some, changed) =
      let s : (o : Fate) × (ls : List Leg) × InEnd x.goals e o × MeetsAt d x way i ls o × (weight ls ≤ room e) = asked.roomed.some i e asked.low le some in
      change_by s.0 s.1 e le some s.4 s.2 s.3 changed
