-- What shows that a table is closed. Leads to the contracts of closed.
use Rattle.pg_tolls.proofs.Common.{◌≡◌, ◌≢◌, ℕ, suc, ◌+◌, ◌<◌, ◌≤◌, true, false, not, List, [], get_or, set, min, inl, inr, refl, sym, ap, subst, arith, ◌∙◌, eqb_tells, has, Color, Kind, Pawn, Knight, Bishop, Rook, Queen, King, other, file, IsSetOf, Becomes, Facts, Leg, IsLeg, may_take, leg, LedTo, Pushes, Captures, Men, Tariff, entry, raised, IsWithin, IsClosed, nth, cell, AreGrown, AreLesser, AreAtMost, ArePieceSteps, ArePawnSteps, IsPieceClosed, IsPawnClosed, AreStepsClosed, AreFalls, AreAllFalls, IsLayer, AreLayers, HasLowTolls, stays_kind}
use Rattle.pg_tolls.specs.Marks.{IsMark}
use Rattle.pg_tolls.specs.inner.Closing.{IsLeast}
use Rattle.pg_tolls.proofs.RowLemmas.{step_within, within_behind}

-- ---- a piece's steps
-- a row at most one grown from the least of the rows behind it
row_within : (row rows_least grown : List ℕ) (rows : List (List ℕ)) (squares weight q e : ℕ) → AreAtMost row grown 16 → AreGrown rows_least weight grown 16 → IsLeast rows squares rows_least → q < 64 → e < 16 → has squares q ≡ true →
    IsWithin (nth row e) (cell rows q e) weight
row_within row rows_least grown rows squares weight q e low grows least lq le on = step_within (nth row e) (nth grown e) (nth rows_least e) (cell rows q e) weight (low e le) (grows e le) (least q e lq le on)

pub piece_next : (f : Facts) (c : Color) (k : Kind) (weight : ℕ) (rows coming : List (List ℕ)) (least grown : List ℕ) (i m square steps : ℕ) → m ≡ i + 1 → square ≡ i →
    IsSetOf steps (λ q. IsLeg f c (leg k square k q)) → IsLeast coming steps least → AreGrown least weight grown 16 → AreAtMost (get_or rows i []) grown 16 →
    ArePieceSteps f c k weight rows coming i → ArePieceSteps f c k weight rows coming m
piece_next f c k weight rows coming least grown i m square steps e at legs low grows fits before = λ s q x ls lq lx l. elim (eqb_tells s i) [
  | inl w ↦ (let here : s ≡ square = w.1 ∙ sym at in
      let on : has steps q ≡ true = (legs q lq).1 (subst (λ (b : ℕ). IsLeg f c (leg k b k q)) here l) in
      subst (λ (b : ℕ). IsWithin (cell rows b x) (cell coming q x) weight) (sym w.1) (row_within (get_or rows i []) least grown coming steps weight q x fits grows low lq lx on))
  | inr w ↦ (let ne : s ≢ i = w.1 in before s q x (omega arith) lq lx l)
]

-- ---- a pawn's steps
-- a single square leads to where its steps go
single_leads : (P : ℕ → ℕ → Type 0) (square i set one q : ℕ) → square ≡ i → square < 64 → IsSetOf one (λ b. b ≡ square) → IsSetOf set (LedTo P one) → q < 64 → P i q → has set q ≡ true
single_leads P square i set one q at low is led lq p = (led q lq).1 (square, low, (is square low).1 refl, subst (λ (b : ℕ). P b q) (sym at) p)

lesser_left : (first second lesser : List ℕ) (e : ℕ) → e < 16 → AreLesser first second lesser 16 → nth lesser e ≤ nth first e
lesser_left first second lesser e l h = let a : nth lesser e ≡ min (nth first e) (nth second e) = h e l in omega arith

lesser_right : (first second lesser : List ℕ) (e : ℕ) → e < 16 → AreLesser first second lesser 16 → nth lesser e ≤ nth second e
lesser_right first second lesser e l h = let a : nth lesser e ≡ min (nth first e) (nth second e) = h e l in omega arith

-- what the test of a pawn on a square found
pub record PawnTested (f : Facts) (c : Color) (weight : ℕ) (rows marked : List (List ℕ)) (square : ℕ) : Type 0 where
  pub one : ℕ
  pub pushes : ℕ
  pub captures : ℕ
  pub pushed : List ℕ
  pub captured : List ℕ
  pub behind : List ℕ
  pub grown : List ℕ
  pub low : square < 64
  pub is_one : IsSetOf one (λ b. b ≡ square)
  pub are_pushes : IsSetOf pushes (LedTo (Pushes f c) one)
  pub are_captures : IsSetOf captures (LedTo (Captures f c) one)
  pub least_pushed : IsLeast rows pushes pushed
  pub least_captured : IsLeast marked captures captured
  pub lesser : AreLesser pushed captured behind 16
  pub grows : AreGrown behind weight grown 16
  pub fits : AreAtMost (get_or rows square []) grown 16

pawn_pushes : (f : Facts) (c : Color) (weight : ℕ) (rows marked : List (List ℕ)) (square q e : ℕ) → PawnTested f c weight rows marked square → q < 64 → e < 16 → Pushes f c square q → IsWithin (cell rows square e) (cell rows q e) weight
pawn_pushes f c weight rows marked square q e h lq le p =
    let on : has h.pushes q ≡ true = single_leads (Pushes f c) square square h.pushes h.one q refl h.low h.is_one h.are_pushes lq p in
    let a : nth h.behind e ≤ nth h.pushed e = lesser_left h.pushed h.captured h.behind e le h.lesser in
    let b : nth h.pushed e ≤ cell rows q e = h.least_pushed q e lq le on in
    step_within (cell rows square e) (nth h.grown e) (nth h.behind e) (cell rows q e) weight (h.fits e le) (h.grows e le) (omega arith)

pawn_captures : (f : Facts) (c : Color) (weight : ℕ) (rows marked : List (List ℕ)) (square q e : ℕ) → PawnTested f c weight rows marked square → q < 64 → e < 16 → Captures f c square q → IsWithin (cell rows square e) (cell marked q e) weight
pawn_captures f c weight rows marked square q e h lq le p =
    let on : has h.captures q ≡ true = single_leads (Captures f c) square square h.captures h.one q refl h.low h.is_one h.are_captures lq p in
    let a : nth h.behind e ≤ nth h.captured e = lesser_right h.pushed h.captured h.behind e le h.lesser in
    let b : nth h.captured e ≤ cell marked q e = h.least_captured q e lq le on in
    step_within (cell rows square e) (nth h.grown e) (nth h.behind e) (cell marked q e) weight (h.fits e le) (h.grows e le) (omega arith)

pub pawn_next : (f : Facts) (c : Color) (weight : ℕ) (rows marked : List (List ℕ)) (i m : ℕ) → m ≡ i + 1 → PawnTested f c weight rows marked i → ArePawnSteps f c weight rows marked i → ArePawnSteps f c weight rows marked m
pawn_next f c weight rows marked i m e h before = record {
  pushes = λ s q x ls lq lx p. elim (eqb_tells s i) [
    | inl w ↦ subst (λ (b : ℕ). IsWithin (cell rows b x) (cell rows q x) weight) (sym w.1) (pawn_pushes f c weight rows marked i q x h lq lx (subst (λ (b : ℕ). Pushes f c b q) w.1 p))
    | inr w ↦ (let ne : s ≢ i = w.1 in before.pushes s q x (omega arith) lq lx p)
  ];
  captures = λ s q x ls lq lx p. elim (eqb_tells s i) [
    | inl w ↦ subst (λ (b : ℕ). IsWithin (cell rows b x) (cell marked q x) weight) (sym w.1) (pawn_captures f c weight rows marked i q x h lq lx (subst (λ (b : ℕ). Captures f c b q) w.1 p))
    | inr w ↦ (let ne : s ≢ i = w.1 in before.captures s q x (omega arith) lq lx p)
  ];
}

-- ---- all layers
pub piece_of : (t : Tariff) (f : Facts) (c : Color) (table : List (List ℕ)) (j : ℕ) (k : Kind) → AreStepsClosed t f c table j → k ≢ Pawn → IsPieceClosed t f c table j k
piece_of t f c table j Pawn h ne = absurd (ne refl)
piece_of t f c table j Knight h ne = h.knight
piece_of t f c table j Bishop h ne = h.bishop
piece_of t f c table j Rook h ne = h.rook
piece_of t f c table j Queen h ne = h.queen
piece_of t f c table j King h ne = h.king

pub falls_of : (t : Tariff) (f : Facts) (c : Color) (table : List (List ℕ)) (j : ℕ) (k : Kind) → AreAllFalls t f c table j → k ≢ King → AreFalls t f c table j k
falls_of t f c table j Pawn h ne = h.pawn
falls_of t f c table j Knight h ne = h.knight
falls_of t f c table j Bishop h ne = h.bishop
falls_of t f c table j Rook h ne = h.rook
falls_of t f c table j Queen h ne = h.queen
falls_of t f c table j King h ne = absurd (ne refl)

-- a pawn's number is at most that of what he is where he comes to
pawn_into : (t : Tariff) (f : Facts) (c : Color) (table : List (List ℕ)) (i : ℕ) (k : Kind) (s e : ℕ) → IsPawnClosed t f c table i → s < 64 → e < 16 → Becomes c Pawn s k → entry table i Pawn s e ≤ entry table i k s e
unfolding Becomes
pawn_into t f c table i k s e h l le b = elim b [
  | inl w ↦ h.promoted k s e w.1 l le w.0
  | inr w ↦ subst (λ (x : Kind). entry table i Pawn s e ≤ entry table i x s e) (sym w.1) (omega arith)
]

-- a pawn's step is straight ahead unless it may take
no_take : (f : Facts) (c : Color) (r s : ℕ) (k : Kind) → may_take f c (leg Pawn r k s) ≡ false → file r ≡ file s
no_take f c r s k off = elim (eqb_tells (file r) (file s)) [
  | inl w ↦ w.1
  | inr w ↦ absurd (let on : may_take f c (leg Pawn r k s) ≡ true = ap not w.0 in cc)
]

may : (f : Facts) (c : Color) (r s : ℕ) (k : Kind) → may_take f c (leg Pawn r k s) ≡ true → file r ≢ file s
may f c r s k on = elim (eqb_tells (file r) (file s)) [
  | inl w ↦ absurd (let off : may_take f c (leg Pawn r k s) ≡ false = ap not w.0 in cc)
  | inr w ↦ w.1
]

unmarked : (f : Facts) (c : Color) (l : Leg) → l.kind ≡ Pawn → IsMark f c l false → may_take f c l ≡ false
unmarked f c l e m = elim (may_take f c l) as (λ v. may_take f c l ≡ v → v ≡ false) [
  | true ↦ λ h. absurd (let z : false ≡ true = m.must e h in cc)
  | false ↦ λ h. refl
] refl

-- ---- steps without a mark
plain_pawn : (t : Tariff) (f : Facts) (c : Color) (table : List (List ℕ)) (j r : ℕ) (k : Kind) (s e : ℕ) → IsPawnClosed t f c table j → e < 16 → IsLeg f c (leg Pawn r k s) → IsMark f c (leg Pawn r k s) false →
    IsWithin (entry table j Pawn r e) (entry table j k s e) (t.weight c)
plain_pawn t f c table j r k s e h le l m =
    let ahead : file r ≡ file s = no_take f c r s k (unmarked f c (leg Pawn r k s) refl m) in
    within_behind (entry table j Pawn r e) (entry table j Pawn s e) (entry table j k s e) (t.weight c) (pawn_into t f c table j k s e h l.free.1 le l.free.3)
    (h.plain r s e l.free.0 l.free.1 le (k, (l, ahead)))

plain_piece : (t : Tariff) (f : Facts) (c : Color) (table : List (List ℕ)) (j : ℕ) (k : Kind) (r : ℕ) (i : Kind) (s e : ℕ) → k ≢ Pawn → AreStepsClosed t f c table j → e < 16 → IsLeg f c (leg k r i s) →
    IsWithin (entry table j k r e) (entry table j i s e) (t.weight c)
plain_piece t f c table j k r i s e ne h le l =
    let same : i ≡ k = stays_kind c k i s ne l.free.3 in
    subst (λ (x : Kind). IsWithin (entry table j k r e) (entry table j x s e) (t.weight c)) (sym same)
    ((piece_of t f c table j k h ne).plain r s e l.free.0 l.free.1 le (subst (λ (x : Kind). IsLeg f c (leg k r x s)) same l))

plain_step : (t : Tariff) (f : Facts) (c : Color) (table : List (List ℕ)) (j : ℕ) (k : Kind) (r : ℕ) (i : Kind) (s e : ℕ) → AreStepsClosed t f c table j → e < 16 → IsLeg f c (leg k r i s) → IsMark f c (leg k r i s) false →
    IsWithin (entry table j k r e) (entry table j i s e) (t.weight c)
plain_step t f c table j Pawn r i s e h le l m = plain_pawn t f c table j r i s e h.pawn le l m
plain_step t f c table j Knight r i s e h le l m = plain_piece t f c table j Knight r i s e (λ z. cc) h le l
plain_step t f c table j Bishop r i s e h le l m = plain_piece t f c table j Bishop r i s e (λ z. cc) h le l
plain_step t f c table j Rook r i s e h le l m = plain_piece t f c table j Rook r i s e (λ z. cc) h le l
plain_step t f c table j Queen r i s e h le l m = plain_piece t f c table j Queen r i s e (λ z. cc) h le l
plain_step t f c table j King r i s e h le l m = plain_piece t f c table j King r i s e (λ z. cc) h le l

-- ---- marked steps
take_pawn : (t : Tariff) (f : Facts) (c : Color) (table : List (List ℕ)) (j r : ℕ) (k : Kind) (s e : ℕ) → IsPawnClosed t f c table (suc j) → IsPawnClosed t f c table j → e < 16 → IsLeg f c (leg Pawn r k s) → IsMark f c (leg Pawn r k s) true →
    IsWithin (entry table (suc j) Pawn r e) (entry table j k s e) (t.weight c + raised t c s)
take_pawn t f c table j r k s e h behind le l m =
    within_behind (entry table (suc j) Pawn r e) (entry table j Pawn s e) (entry table j k s e) (t.weight c + raised t c s) (pawn_into t f c table j k s e behind l.free.1 le l.free.3)
    (h.take j r s e refl l.free.0 l.free.1 le (k, (l, may f c r s k (m.may refl))))

take_piece : (t : Tariff) (f : Facts) (c : Color) (table : List (List ℕ)) (j : ℕ) (k : Kind) (r : ℕ) (i : Kind) (s e : ℕ) → k ≢ Pawn → AreStepsClosed t f c table (suc j) → e < 16 → IsLeg f c (leg k r i s) →
    IsWithin (entry table (suc j) k r e) (entry table j i s e) (t.weight c + raised t c s)
take_piece t f c table j k r i s e ne h le l =
    let same : i ≡ k = stays_kind c k i s ne l.free.3 in
    subst (λ (x : Kind). IsWithin (entry table (suc j) k r e) (entry table j x s e) (t.weight c + raised t c s)) (sym same)
    ((piece_of t f c table (suc j) k h ne).take j r s e refl l.free.0 l.free.1 le (subst (λ (x : Kind). IsLeg f c (leg k r x s)) same l))

take_step : (t : Tariff) (f : Facts) (c : Color) (table : List (List ℕ)) (j : ℕ) (k : Kind) (r : ℕ) (i : Kind) (s e : ℕ) → AreStepsClosed t f c table (suc j) → AreStepsClosed t f c table j → e < 16 → IsLeg f c (leg k r i s) →
    IsMark f c (leg k r i s) true → IsWithin (entry table (suc j) k r e) (entry table j i s e) (t.weight c + raised t c s)
take_step t f c table j Pawn r i s e h behind le l m = take_pawn t f c table j r i s e h.pawn behind.pawn le l m
take_step t f c table j Knight r i s e h behind le l m = take_piece t f c table j Knight r i s e (λ z. cc) h le l
take_step t f c table j Bishop r i s e h behind le l m = take_piece t f c table j Bishop r i s e (λ z. cc) h le l
take_step t f c table j Rook r i s e h behind le l m = take_piece t f c table j Rook r i s e (λ z. cc) h le l
take_step t f c table j Queen r i s e h behind le l m = take_piece t f c table j Queen r i s e (λ z. cc) h le l
take_step t f c table j King r i s e h behind le l m = take_piece t f c table j King r i s e (λ z. cc) h le l

-- ---- the whole table
pub layers_next : (t : Tariff) (f : Facts) (c : Color) (goals : Men) (table : List (List ℕ)) (i m : ℕ) → m ≡ i + 1 → IsLayer t f c goals table i → ((j : ℕ) → j < i → IsLayer t f c goals table j) → (j : ℕ) → j < m → IsLayer t f c goals table j
layers_next t f c goals table i m e here before = λ j l. elim (eqb_tells j i) [
  | inl w ↦ subst (λ (b : ℕ). IsLayer t f c goals table b) (sym w.1) here
  | inr w ↦ (let ne : j ≢ i = w.1 in before j (omega arith))
]

pub closed_by : (t : Tariff) (f : Facts) (c : Color) (goals : Men) (most : ℕ) (table : List (List ℕ)) → AreLayers t f c goals most table → IsClosed t f c goals most table
closed_by t f c goals most table layers = record {
  goal = λ j e lj le. (layers j lj).ends e le;
  fall = λ j s k lj ls ne few lands. falls_of t f c table j k ((layers j lj).falls few) ne s ls lands;
  plain = λ j e l lj le is m. plain_step t f c table j l.kind l.from l.into l.to e (layers j lj).steps le is m;
  take = λ j e l lj le is m. take_step t f c table j l.kind l.from l.into l.to e (layers (suc j) (omega arith)).steps (layers j (omega arith)).steps le is m;
}

-- ---- the empty table
empty_closed : (t : Tariff) (f : Facts) (c : Color) (goals : Men) (most : ℕ) → HasLowTolls t (other c) 64 → IsClosed t f c goals most []
empty_closed t f c goals most low = record {
  goal = λ j e lj le. omega arith;
  fall = λ j s k lj ls ne few lands. (let a : raised t (other c) s ≤ 255 = low s ls in omega arith);
  plain = λ j e l lj le is m. (omega arith, λ h. h);
  take = λ j e l lj le is m. (omega arith, λ h. h);
}

pub none_closed : (t : Tariff) (f : Facts) (c o : Color) (goals : Men) (most : ℕ) (table : List (List ℕ)) → o ≡ other c → table ≡ [] → HasLowTolls t o 64 → IsClosed t f c goals most table
none_closed t f c o goals most table e z low = subst (λ (x : List (List ℕ)). IsClosed t f c goals most x) (sym z) (empty_closed t f c goals most (subst (λ (x : Color). HasLowTolls t x 64) e low))
