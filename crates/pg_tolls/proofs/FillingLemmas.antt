-- What keeps rows above closed numbers while they are filled. Leads to the contracts of filling.
use Rattle.pg_tolls.proofs.Common.{◌≡◌, ◌≢◌, ℕ, suc, ◌+◌, ◌*◌, ◌-◌, ◌<◌, ◌≤◌, Bool, true, false, cond, List, [], ◌++◌, length, get_or, set, replicate, min, inl, inr, refl, sym, ap, subst, arith, ltb, lt-ltb, le-ltb, ◌∙◌, cases_Bool, ltb-true, ltb-false, eqb_tells, get_or-replicate, get_or-set_same, get_or-set_other, set_past, get_or_append_left, get_or-append_right, length-append, has, Color, Kind, Pawn, Knight, Bishop, Rook, Queen, King, number_of_kind, kind_eq, other, IsSetOf, IsFirstFrom, AreAll, IsWithout, all_left, Facts, IsLeg, leg, LedTo, Pushes, Captures, square_at, kind_at, Men, Tariff, entry, raised, IsWithin, nth, cell, grown_by, AreGrown, AreLesser, AreTaken, IsNoLess, HasLowTolls, Numbers, AreNumbers, AreBelow, AreWithinPushes, AreWithinCaptures, IsOffer, AreLeftOver, AreClosedAt, AreClosedTo, AreHigh, KeepsSteps, KeepsTakes, KeepsPawns, KeepsPromoted, KeepsEnds, AreBlank, IsOver, IsHigh, AreLong, with_layer, AreHighest, leg_turn, kind_is}
use Rattle.pg_position.specs.Step.{IsPiece}
use Rattle.pg_travel.proofs.RowTables.{kind_low}
use Rattle.pg_tolls.specs.declared.filling.Layer.{Layer}

-- ---- one number
-- what is within one behind is at most what is grown from a number that is no lower
pub grown_above : (before behind number charge : ℕ) → IsWithin before behind charge → before ≤ 65535 → behind ≤ number → before ≤ grown_by number charge
grown_above before behind number charge w low le =
    elim (cases_Bool (ltb number 65535)) [
      | inl t ↦ (let l : number < 65535 = ltb-true number 65535 t in let a : before < 65535 = w.1 (omega arith) in let b : before ≤ behind + charge = w.0 in omega arith)
      | inr f ↦ (let g : 65535 ≤ number = ltb-false number 65535 f in omega arith)
    ]

-- and the number behind it may be grown by a part of the charge
pub within_grown : (before behind first rest : ℕ) → IsWithin before behind (rest + first) → before ≤ 65535 → IsWithin before (grown_by behind first) rest
within_grown before behind first rest w low = (
  let a : before ≤ behind + (rest + first) = w.0 in
      elim (cases_Bool (ltb behind 65535)) [
        | inl t ↦ (let l : behind < 65535 = ltb-true behind 65535 t in let b : before < 65535 = w.1 l in omega arith)
        | inr f ↦ (let g : 65535 ≤ behind = ltb-false behind 65535 f in omega arith)
      ],
  λ l. w.1 (omega arith),
)

pub grown_more : (behind number charge : ℕ) → behind ≤ number → grown_by behind charge ≤ grown_by number charge
grown_more behind number charge le =
    elim (cases_Bool (ltb number 65535)) [
      | inl t ↦ (let l : number < 65535 = ltb-true number 65535 t in omega arith)
      | inr f ↦ (let g : 65535 ≤ number = ltb-false number 65535 f in
          elim (cases_Bool (ltb behind 65535)) [
            | inl u ↦ (let m : behind < 65535 = ltb-true behind 65535 u in omega arith)
            | inr v ↦ (let m : 65535 ≤ behind = ltb-false behind 65535 v in omega arith)
          ])
    ]

pub lesser_above : (m : ℕ) (first second lesser : List ℕ) (e : ℕ) → e < 16 → AreLesser first second lesser 16 → m ≤ nth first e → m ≤ nth second e → m ≤ nth lesser e
lesser_above m first second lesser e l h one two = let a : nth lesser e ≡ min (nth first e) (nth second e) = h e l in omega arith

pub row_grown : (before : ℕ) (behind : ℕ) (row grown : List ℕ) (charge e : ℕ) → e < 16 → AreGrown row charge grown 16 → IsWithin before behind charge → before ≤ 65535 → behind ≤ nth row e → before ≤ nth grown e
row_grown before behind row grown charge e l h w low le = subst (λ (n : ℕ). before ≤ n) (sym (h e l)) (grown_above before behind (nth row e) charge w low le)

-- ---- rows
-- a row is put in the place of another
put_below : (b : ℕ → ℕ → ℕ) (rows : List (List ℕ)) (i : ℕ) (row : List ℕ) → ((e : ℕ) → e < 16 → b i e ≤ nth row e) → AreBelow b rows → AreBelow b (set rows i row)
put_below b rows i row here before s e ls le = elim (eqb_tells s i) [
  | inl w ↦
      (elim (cases_Bool (ltb i (length rows))) [
        | inl t ↦
            (let same : get_or (set rows i row) s [] ≡ row = ap (λ (x : ℕ). get_or (set rows i row) x []) w.1 ∙ get_or-set_same rows i row [] (ltb-true i (length rows) t) in
            subst (λ (y : List ℕ). b s e ≤ nth y e) (sym same) (subst (λ (x : ℕ). b x e ≤ nth row e) (sym w.1) (here e le)))
        | inr f ↦ subst (λ (y : List (List ℕ)). b s e ≤ cell y s e) (sym (set_past rows i row (ltb-false i (length rows) f))) (before s e ls le)
      ])
  | inr w ↦ subst (λ (y : List ℕ). b s e ≤ nth y e) (sym (get_or-set_other rows i s row [] w.1)) (before s e ls le)
]

-- the lesser of a row and of another is put in its place
pub lower_put : (b : ℕ → ℕ → ℕ) (rows : List (List ℕ)) (place square : ℕ) (second lower : List ℕ) → place ≡ square → square < 64 → AreLesser (get_or rows place []) second lower 16 → AreBelow b rows → ((e : ℕ) → e < 16 → b square e ≤ nth second e) →
    AreBelow b (set rows place lower)
lower_put b rows place square second lower at low lesser before here =
    put_below b rows place lower
    (λ e le. subst (λ (i : ℕ). b i e ≤ nth lower e) (sym at) (lesser_above (b square e) (get_or rows place []) second lower e le lesser (subst (λ (i : ℕ). b square e ≤ cell rows i e) (sym at) (before square e low le)) (here e le)))
    before

-- a number is put in the place of one
number_put : (m : ℕ) (row : List ℕ) (e n o : ℕ) → m ≤ nth row o → (o ≡ e → m ≤ n) → m ≤ nth (set row e n) o
number_put m row e n o before here = elim (eqb_tells o e) [
  | inl w ↦
      (elim (cases_Bool (ltb e (length row))) [
        | inl t ↦ subst (λ (y : ℕ). m ≤ y) (sym (ap (nth (set row e n)) w.1 ∙ get_or-set_same row e n 0 (ltb-true e (length row) t))) (here w.1)
        | inr f ↦ subst (λ (y : List ℕ). m ≤ nth y o) (sym (set_past row e n (ltb-false e (length row) f))) before
      ])
  | inr w ↦ subst (λ (y : ℕ). m ≤ y) (sym (get_or-set_other row e o n 0 w.1)) before
]

pub write_below : (b : ℕ → ℕ → ℕ) (rows : List (List ℕ)) (place square e n : ℕ) → place ≡ square → square < 64 → b square e ≤ n → AreBelow b rows → AreBelow b (set rows place (set (get_or rows place []) e n))
write_below b rows place square e n at low here before =
    put_below b rows place (set (get_or rows place []) e n)
    (λ o lo. number_put (b place o) (get_or rows place []) e n o (subst (λ (i : ℕ). b i o ≤ cell rows i o) (sym at) (before square o low lo))
    (λ is. subst (λ (i : ℕ). b i o ≤ n) (sym at) (subst (λ (x : ℕ). b square x ≤ n) (sym is) here)))
    before

-- a loop over squares with Q keeps rows above whatever numbers have P
pub record IsLowering (Q : ℕ → Type 0) (P : (ℕ → ℕ → ℕ) → Type 0) (left : ℕ) (old new : List (List ℕ)) : Type 0 where
  pub part : AreAll Q left
  pub below : (b : ℕ → ℕ → ℕ) → P b → AreBelow b old → AreBelow b new

pub lowering_next : (Q : ℕ → Type 0) (P : (ℕ → ℕ → ℕ) → Type 0) (left rest square : ℕ) (old now next : List (List ℕ)) → IsFirstFrom left 0 square → IsWithout left rest square →
    (Q square → (b : ℕ → ℕ → ℕ) → P b → AreBelow b now → AreBelow b next) → IsLowering Q P left old now → IsLowering Q P rest old next
lowering_next Q P left rest square old now next is without step h = record {
  part = all_left Q left rest square h.part without;
  below = λ b p low. step (h.part square is.on_board is.member) b p (h.below b p low);
}

-- ---- a piece steps back as he steps
-- what is grown from a square's row is an offer to the squares from where a piece steps there
steps_offer : (f : Facts) (c : Color) (k : Kind) (a b : ℕ → ℕ → ℕ) (square steps charge : ℕ) (row grown : List ℕ) → k ≢ Pawn → AreNumbers b → ((s e : ℕ) → s < 64 → e < 16 → IsLeg f c (leg k s k square) → IsWithin (b s e) (a square e) charge) →
    IsSetOf steps (λ s. IsLeg f c (leg k square k s)) → AreGrown row charge grown 16 → ((e : ℕ) → e < 16 → a square e ≤ nth row e) → IsOffer b steps grown
steps_offer f c k a b square steps charge row grown ne numbers within legs grows below s e ls le on =
    row_grown (b s e) (a square e) row grown charge e le grows (within s e ls le (leg_turn f c k square s ne ((legs s ls).0 on))) (numbers s e) (below e le)

-- the squares whose rows changed offer their steps, one after the other
pub spread_next : (f : Facts) (c : Color) (k : Kind) (weight : ℕ) (first rows next : List (List ℕ)) (place square steps : ℕ) (grown : List ℕ) → k ≢ Pawn → place ≡ square → square < 64 → IsSetOf steps (λ s. IsLeg f c (leg k square k s)) →
    AreGrown (get_or rows place []) weight grown 16 → ((b : ℕ → ℕ → ℕ) → IsOffer b steps grown → AreBelow b rows → AreBelow b next) → KeepsSteps f c k weight first rows → KeepsSteps f c k weight first next
spread_next f c k weight first rows next place square steps grown ne at low legs grows offer before b numbers within old =
    let now : AreBelow b rows = before b numbers within old in
    offer b
    (steps_offer f c k b b square steps weight (get_or rows place []) grown ne numbers (λ s e ls le l. within s square e ls low le l) legs grows
    (λ e le. subst (λ (i : ℕ). b square e ≤ cell rows i e) (sym at) (now square e low le))) now

pub takes_next : (t : Tariff) (f : Facts) (c : Color) (k : Kind) (before first rows next : List (List ℕ)) (place square steps charge : ℕ) (grown : List ℕ) → k ≢ Pawn → place ≡ square → square < 64 → charge ≡ t.weight c + raised t c square → IsSetOf steps (λ s. IsLeg f c (leg k square k s)) →
    AreGrown (get_or before place []) charge grown 16 → ((b : ℕ → ℕ → ℕ) → IsOffer b steps grown → AreBelow b rows → AreBelow b next) → KeepsTakes t f c k before first rows → KeepsTakes t f c k before first next
takes_next t f c k before first rows next place square steps charge grown ne at low is legs grows offer kept a b numbers within below old =
    offer b
    (steps_offer f c k a b square steps charge (get_or before place []) grown ne numbers
    (λ s e ls le l. subst (λ (n : ℕ). IsWithin (b s e) (a square e) n) (sym is) (within s square e ls low le l)) legs grows
    (λ e le. subst (λ (i : ℕ). a square e ≤ cell before i e) (sym at) (below square e low le)))
    (kept a b numbers within below old)

-- ---- a pawn's steps
-- the least number behind from where a number is within the charge
abbrev needed : ℕ → ℕ → ℕ
needed n charge = cond (ltb n 65535) (n - charge) 65535

some_needed : (n charge : ℕ) → n < 65535 → needed n charge ≡ n - charge
some_needed n charge l = ap (λ (b : Bool). cond b (n - charge) 65535) (lt-ltb n 65535 l)

none_needed : (n charge : ℕ) → 65535 ≤ n → needed n charge ≡ 65535
none_needed n charge g = ap (λ (b : Bool). cond b (n - charge) 65535) (le-ltb n 65535 g)

needed_low : (n charge : ℕ) → needed n charge ≤ 65535
needed_low n charge = elim (cases_Bool (ltb n 65535)) [
  | inl t ↦ (let l : n < 65535 = ltb-true n 65535 t in omega (arith, some_needed n charge l))
  | inr f ↦ omega (arith, none_needed n charge (ltb-false n 65535 f))
]

needed_behind : (n behind number charge : ℕ) → IsWithin n behind charge → behind ≤ number → needed n charge ≤ number
needed_behind n behind number charge w le = elim (cases_Bool (ltb n 65535)) [
  | inl t ↦ (let l : n < 65535 = ltb-true n 65535 t in let a : n ≤ behind + charge = w.0 in omega (arith, some_needed n charge l))
  | inr f ↦
      (let g : 65535 ≤ n = ltb-false n 65535 f in
      elim (cases_Bool (ltb behind 65535)) [
        | inl u ↦ absurd (let m : n < 65535 = w.1 (ltb-true behind 65535 u) in omega arith)
        | inr v ↦ (let m : 65535 ≤ behind = ltb-false behind 65535 v in omega (arith, none_needed n charge g))
      ])
]

needed_grown : (n number charge : ℕ) → n ≤ 65535 → needed n charge ≤ number → n ≤ grown_by number charge
needed_grown n number charge low le = elim (cases_Bool (ltb n 65535)) [
  | inl t ↦ (let l : n < 65535 = ltb-true n 65535 t in omega (arith, some_needed n charge l))
  | inr f ↦ (let g : 65535 ≤ n = ltb-false n 65535 f in omega (arith, none_needed n charge g))
]

-- what a pawn on a square is offered, by the rows of pawns and by taken ones
pub record PawnOffered (f : Facts) (c : Color) (weight : ℕ) (rows taken : List (List ℕ)) (square : ℕ) (grown : List ℕ) : Type 0 where
  pub one : ℕ
  pub pushes : ℕ
  pub captures : ℕ
  pub pushed : List ℕ
  pub captured : List ℕ
  pub behind : List ℕ
  pub low : square < 64
  pub is_one : IsSetOf one (λ b. b ≡ square)
  pub are_pushes : IsSetOf pushes (LedTo (Pushes f c) one)
  pub are_captures : IsSetOf captures (LedTo (Captures f c) one)
  pub least_pushed : IsNoLess rows pushes pushed
  pub least_captured : IsNoLess taken captures captured
  pub lesser : AreLesser pushed captured behind 16
  pub grows : AreGrown behind weight grown 16

-- a step that leads from a single square leads from this square
led_from : (P : ℕ → ℕ → Type 0) (square set one q : ℕ) → IsSetOf one (λ b. b ≡ square) → IsSetOf set (LedTo P one) → q < 64 → has set q ≡ true → P square q
led_from P square set one q is led lq on = let h : LedTo P one q = (led q lq).0 on in subst (λ (s : ℕ). P s q) ((is h.0 h.1).0 h.2) h.3

pub pawn_offer : (f : Facts) (c : Color) (weight : ℕ) (rows taken : List (List ℕ)) (square : ℕ) (grown : List ℕ) (a b : ℕ → ℕ → ℕ) → PawnOffered f c weight rows taken square grown → AreNumbers b → AreWithinPushes f c b weight → AreWithinCaptures f c b a (λ q. weight) →
    AreBelow a taken → AreBelow b rows → (e : ℕ) → e < 16 → b square e ≤ nth grown e
pawn_offer f c weight rows taken square grown a b h numbers pushes captures below_a below_b e le =
    let first : needed (b square e) weight ≤ nth h.pushed e = h.least_pushed (needed (b square e) weight) e le (needed_low (b square e) weight)
    (λ q lq on. needed_behind (b square e) (b q e) (cell rows q e) weight (pushes square q e h.low lq le (led_from (Pushes f c) square h.pushes h.one q h.is_one h.are_pushes lq on)) (below_b q e lq le)) in
    let second : needed (b square e) weight ≤ nth h.captured e = h.least_captured (needed (b square e) weight) e le (needed_low (b square e) weight)
    (λ q lq on. needed_behind (b square e) (a q e) (cell taken q e) weight (captures square q e h.low lq le (led_from (Captures f c) square h.captures h.one q h.is_one h.are_captures lq on)) (below_a q e lq le)) in
    subst (λ (n : ℕ). b square e ≤ n) (sym (h.grows e le)) (needed_grown (b square e) (nth h.behind e) weight (numbers square e) (lesser_above (needed (b square e) weight) h.pushed h.captured h.behind e le h.lesser first second))

pub advance_next : (f : Facts) (c : Color) (weight : ℕ) (taken first rows : List (List ℕ)) (place square : ℕ) (grown lower : List ℕ) → place ≡ square → PawnOffered f c weight rows taken square grown → AreLesser (get_or rows place []) grown lower 16 →
    KeepsPawns f c weight taken first rows → KeepsPawns f c weight taken first (set rows place lower)
advance_next f c weight taken first rows place square grown lower at h lesser kept a b numbers pushes captures below old =
    let now : AreBelow b rows = kept a b numbers pushes captures below old in
    lower_put b rows place square grown lower at h.low lesser now (pawn_offer f c weight rows taken square grown a b h numbers pushes captures below now)

-- ---- closed numbers with a mark less
-- a number where a mark is left over, without what that counts
abbrev without_mark : ℕ → ℕ
without_mark n = cond (ltb n 65535) (n - 128) 65535

some_without : (n : ℕ) → n < 65535 → without_mark n ≡ n - 128
some_without n l = ap (λ (b : Bool). cond b (n - 128) 65535) (lt-ltb n 65535 l)

none_without : (n : ℕ) → 65535 ≤ n → without_mark n ≡ 65535
none_without n g = ap (λ (b : Bool). cond b (n - 128) 65535) (le-ltb n 65535 g)

low_without : (n : ℕ) → without_mark n ≤ 65535
low_without n = elim (cases_Bool (ltb n 65535)) [
  | inl t ↦ (let l : n < 65535 = ltb-true n 65535 t in omega (arith, some_without n l))
  | inr f ↦ (let g : 65535 ≤ n = ltb-false n 65535 f in omega (arith, none_without n g))
]

-- numbers in their order stay so
order_without : (a b : ℕ) → a ≤ b → without_mark a ≤ without_mark b
order_without a b le = elim (cases_Bool (ltb b 65535)) [
  | inl t ↦ (let l : b < 65535 = ltb-true b 65535 t in omega (arith, some_without b l, some_without a (omega arith)))
  | inr f ↦ (let g : 65535 ≤ b = ltb-false b 65535 f in omega (arith, none_without b g, low_without a))
]

within_without : (a b charge : ℕ) → a ≤ 65535 → IsWithin a b charge → IsWithin (without_mark a) (without_mark b) charge
within_without a b charge low w = elim (cases_Bool (ltb b 65535)) [
  | inl t ↦
      (let l : b < 65535 = ltb-true b 65535 t in
      let m : a < 65535 = w.1 l in
      let le : a ≤ b + charge = w.0 in
      (omega (arith, some_without b l, some_without a m), λ _. omega (arith, some_without a m)))
  | inr f ↦
      (let g : 65535 ≤ b = ltb-false b 65535 f in
      (omega (arith, none_without b g, low_without a), λ h. absurd (omega (arith, none_without b g, h))))
]

mark_within : (n : ℕ) → n ≤ 65535 → IsWithin n (without_mark n) 128
mark_within n low = elim (cases_Bool (ltb n 65535)) [
  | inl t ↦ (let l : n < 65535 = ltb-true n 65535 t in (omega (arith, some_without n l), λ _. l))
  | inr f ↦ (let g : 65535 ≤ n = ltb-false n 65535 f in (omega (arith, none_without n g), λ h. absurd (omega (arith, none_without n g, h))))
]

-- the numbers with a mark more, without what it counts
abbrev pub shifted : Numbers → Numbers
shifted u j k s e = without_mark (u (suc j) k s e)

module _ (t : Tariff) (f : Facts) (c : Color) (goals : Men) (u : Numbers) where
  shifted_at : (j : ℕ) → j ≤ 16 → HasLowTolls t (other c) 64 → AreClosedAt t f c goals u (suc j) → AreClosedAt t f c goals (shifted u) j
  shifted_at j few tolls h = record {
    numbers = λ k s e. low_without (u (suc j) k s e);
    ends = λ e le. (let a : u (suc j) (kind_at goals e) (square_at goals e) e ≤ 128 * suc j = h.ends e le in
        omega (arith, some_without (u (suc j) (kind_at goals e) (square_at goals e) e) (omega arith)));
    falls = λ room k ne s ls lands. (let a : u (suc j) k s 15 + raised t (other c) s ≤ 128 * suc j + 255 = h.falls room k ne s ls lands in
        let b : raised t (other c) s ≤ 255 = tolls s ls in
        omega (arith, some_without (u (suc j) k s 15) (omega arith)));
    plain = λ k ne s q e ls lq le l. within_without (u (suc j) k s e) (u (suc j) k q e) (t.weight c) (h.numbers k s e) (h.plain k ne s q e ls lq le l);
    take = λ i is k ne s q e ls lq le l. within_without (u (suc j) k s e) (u (suc i) k q e) (t.weight c + raised t c q) (h.numbers k s e) (h.take (suc i) (ap suc is) k ne s q e ls lq le l);
    pushed = λ s q e ls lq le l. within_without (u (suc j) Pawn s e) (u (suc j) Pawn q e) (t.weight c) (h.numbers Pawn s e) (h.pushed s q e ls lq le l);
    captured = λ i is s q e ls lq le l. within_without (u (suc j) Pawn s e) (u (suc i) Pawn q e) (t.weight c + raised t c q) (h.numbers Pawn s e) (h.captured (suc i) (ap suc is) s q e ls lq le l);
    promoted = λ k q e is lq le on. order_without (u (suc j) Pawn q e) (u (suc j) k q e) (h.promoted k q e is lq le on);
  }

  shifted_to : (n : ℕ) → n ≤ 16 → HasLowTolls t (other c) 64 → AreClosedTo t f c goals u (suc n) → AreClosedTo t f c goals (shifted u) n
  shifted_to n few tolls h j le = shifted_at j (omega arith) tolls (h (suc j) (omega arith))

  pub fewer_marks : (n : ℕ) → AreClosedTo t f c goals u (suc n) → AreClosedTo t f c goals u n
  fewer_marks n h j le = h j (omega arith)

  -- rows with a mark more left over are above the numbers with a mark more
  pub over_high : (n : ℕ) (k : Kind) (rows over : List (List ℕ)) → n ≤ 16 → HasLowTolls t (other c) 64 → AreHigh t f c goals n k rows → AreLeftOver rows over 64 → AreClosedTo t f c goals u (suc n) → AreBelow (u (suc n) k) over
  over_high n k rows over few tolls high left h s e ls le =
      row_grown (u (suc n) k s e) (shifted u n k s e) (get_or rows s []) (get_or over s []) 128 e le (left s ls)
      (mark_within (u (suc n) k s e) ((h (suc n) (omega arith)).numbers k s e)) ((h (suc n) (omega arith)).numbers k s e)
      (high (shifted u) (shifted_to n few tolls h) s e ls le)

  -- the rows of a piece, once marked steps and all others have been offered
  pub piece_high : (n : ℕ) (k : Kind) (rows over marked all : List (List ℕ)) → k ≢ Pawn → n ≤ 16 → HasLowTolls t (other c) 64 → AreHigh t f c goals n k rows → AreLeftOver rows over 64 →
      KeepsTakes t f c k rows over marked → KeepsSteps f c k (t.weight c) marked all → AreClosedTo t f c goals u (suc n) → AreBelow (u (suc n) k) all
  piece_high n k rows over marked all ne few tolls high left takes steps h =
      let at : AreClosedAt t f c goals u (suc n) = h (suc n) (omega arith) in
      steps (u (suc n) k) (at.numbers k) (at.plain k ne)
      (takes (u n k) (u (suc n) k) (at.numbers k) (at.take n refl k ne) (high u (fewer_marks n h)) (over_high n k rows over few tolls high left h))

  -- what pawns take leads to numbers below the taken rows
  abbrev pub taken_numbers : ℕ → ℕ → ℕ → ℕ
  taken_numbers n q e = grown_by (u n Pawn q e) (raised t c q)

  pub taken_below : (n : ℕ) (rows taken : List (List ℕ)) → AreTaken t c rows taken 64 → AreBelow (u n Pawn) rows → AreBelow (taken_numbers n) taken
  taken_below n rows taken are below s e ls le = subst (λ (y : ℕ). taken_numbers n s e ≤ y) (sym (are s ls e le)) (grown_more (u n Pawn s e) (cell rows s e) (raised t c s) (below s e ls le))

  pub taken_within : (n : ℕ) → AreClosedAt t f c goals u (suc n) → AreWithinCaptures f c (u (suc n) Pawn) (taken_numbers n) (λ q. t.weight c)
  taken_within n h s q e ls lq le p = within_grown (u (suc n) Pawn s e) (u n Pawn q e) (raised t c q) (t.weight c) (h.captured n refl s q e ls lq le p) (h.numbers Pawn s e)

-- ---- walks of no step
pub no_king : (k : Kind) → kind_eq k King ≡ false → k ≢ King
no_king k f e = absurd (let z : kind_eq King King ≡ false = ap (λ (x : Kind). kind_eq x King) (sym e) ∙ f in let t : kind_eq King King ≡ true = refl in cc)

-- the end of a walk to a man of the diagram is written
pub ends_next : (t : Tariff) (f : Facts) (c : Color) (goals : Men) (k : Kind) (first rows next : List (List ℕ)) (e place : ℕ) → place ≡ square_at goals e → square_at goals e < 64 → e < goals.count → kind_eq (kind_at goals e) k ≡ true →
    next ≡ set rows place (set (get_or rows place []) e 0) → KeepsEnds t f c goals k first rows → KeepsEnds t f c goals k first next
ends_next t f c goals k first rows next e place at low count is writes kept b falls ends old =
    subst (λ (y : List (List ℕ)). AreBelow b y) (sym writes)
    (write_below b rows place (square_at goals e) e 0 at low (ends e count (kind_is (kind_at goals e) k is)) (kept b falls ends old))

pub blank_below : (b : ℕ → ℕ → ℕ) (rows : List (List ℕ)) → AreNumbers b → AreBlank rows → AreBelow b rows
blank_below b rows numbers blank s e ls le = omega (arith, numbers s e, blank s e ls le)

pub ends_below : (t : Tariff) (f : Facts) (c : Color) (goals : Men) (u : Numbers) (k : Kind) (old new : List (List ℕ)) → AreClosedAt t f c goals u 0 → AreBlank old → KeepsEnds t f c goals k old new → AreBelow (u 0 k) new
ends_below t f c goals u k old new h blank keeps =
    keeps (u 0 k) (λ room ne s low lands. omega (arith, h.falls room k ne s low lands))
    (λ e low is. subst (λ (x : Kind). u 0 x (square_at goals e) e ≤ 0) is (omega (arith, h.ends e low)))
    (blank_below (u 0 k) old (h.numbers k) blank)

-- ---- all kinds
knight_is : IsPiece Knight
knight_is = (λ e. cc, λ e. cc)

bishop_is : IsPiece Bishop
bishop_is = (λ e. cc, λ e. cc)

rook_is : IsPiece Rook
rook_is = (λ e. cc, λ e. cc)

queen_is : IsPiece Queen
queen_is = (λ e. cc, λ e. cc)

-- the rows of pawns, as they are filled by those of the pieces and by their own steps
pub pawns_over : (t : Tariff) (f : Facts) (c : Color) (goals : Men) (u : Numbers) (j : ℕ) (a : ℕ → ℕ → ℕ) (x : Layer) (one two three four all taken : List (List ℕ)) →
    KeepsPromoted c x.knights x.pawns one → KeepsPromoted c x.bishops one two → KeepsPromoted c x.rooks two three → KeepsPromoted c x.queens three four → KeepsPawns f c (t.weight c) taken four all →
    AreClosedAt t f c goals u j → AreWithinCaptures f c (u j Pawn) a (λ q. t.weight c) → AreBelow a taken → IsOver u j x → AreBelow (u j Pawn) all
pawns_over t f c goals u j a x one two three four all taken first second third fourth last h within below over =
    last a (u j Pawn) (h.numbers Pawn) h.pushed within below
    (fourth (u j Queen) (u j Pawn) (λ q e lq le on. h.promoted Queen q e queen_is lq le on) over.queens
    (third (u j Rook) (u j Pawn) (λ q e lq le on. h.promoted Rook q e rook_is lq le on) over.rooks
    (second (u j Bishop) (u j Pawn) (λ q e lq le on. h.promoted Bishop q e bishop_is lq le on) over.bishops
    (first (u j Knight) (u j Pawn) (λ q e lq le on. h.promoted Knight q e knight_is lq le on) over.knights over.pawns))))

-- with no mark left no pawn takes
pub nothing_taken : (t : Tariff) (f : Facts) (c : Color) (goals : Men) (u : Numbers) → AreClosedAt t f c goals u 0 → AreWithinCaptures f c (u 0 Pawn) (λ q e. 65535) (λ q. t.weight c)
nothing_taken t f c goals u h s q e ls lq le p = (omega (arith, h.numbers Pawn s e), λ l. absurd (omega (arith, l)))

-- rows of which none is a number
pub no_numbers : (rows : List (List ℕ)) → rows ≡ replicate 64 (replicate 16 65535) → AreBlank rows
no_numbers rows e s c ls lc =
    let a : cell (replicate 64 (replicate 16 65535)) s c ≡ 65535 = ap (λ (row : List ℕ). nth row c) (get_or-replicate 64 s (replicate 16 65535) [] ls) ∙ get_or-replicate 16 c 65535 0 lc in
    let b : cell rows s c ≡ cell (replicate 64 (replicate 16 65535)) s c = ap (λ (y : List (List ℕ)). cell y s c) e in
    omega arith

-- ---- a table with one layer more
module _ (table : List (List ℕ)) (x : Layer) (n : ℕ) (long : length table ≡ n * 384) (each : AreLong x) where
  abbrev one : List (List ℕ)
  one = table ++ x.pawns

  abbrev two : List (List ℕ)
  two = one ++ x.knights

  abbrev three : List (List ℕ)
  three = two ++ x.bishops

  abbrev four : List (List ℕ)
  four = three ++ x.rooks

  abbrev five : List (List ℕ)
  five = four ++ x.queens

  long_one : length one ≡ n * 384 + 64
  long_one = omega (arith, length-append table x.pawns, long, each.pawns)

  long_two : length two ≡ n * 384 + 128
  long_two = omega (arith, length-append one x.knights, long_one, each.knights)

  long_three : length three ≡ n * 384 + 192
  long_three = omega (arith, length-append two x.bishops, long_two, each.bishops)

  long_four : length four ≡ n * 384 + 256
  long_four = omega (arith, length-append three x.rooks, long_three, each.rooks)

  long_five : length five ≡ n * 384 + 320
  long_five = omega (arith, length-append four x.queens, long_four, each.queens)

  pub long_layer : length (with_layer table x) ≡ suc n * 384
  long_layer = omega (arith, length-append five x.kings, long_five, each.kings)

  -- what stands in front of a part
  from_five : (i : ℕ) → i < n * 384 + 320 → get_or (with_layer table x) i [] ≡ get_or five i []
  from_five i l = get_or_append_left five x.kings [] i (omega (arith, long_five))

  from_four : (i : ℕ) → i < n * 384 + 256 → get_or (with_layer table x) i [] ≡ get_or four i []
  from_four i l = from_five i (omega arith) ∙ get_or_append_left four x.queens [] i (omega (arith, long_four))

  from_three : (i : ℕ) → i < n * 384 + 192 → get_or (with_layer table x) i [] ≡ get_or three i []
  from_three i l = from_four i (omega arith) ∙ get_or_append_left three x.rooks [] i (omega (arith, long_three))

  from_two : (i : ℕ) → i < n * 384 + 128 → get_or (with_layer table x) i [] ≡ get_or two i []
  from_two i l = from_three i (omega arith) ∙ get_or_append_left two x.bishops [] i (omega (arith, long_two))

  from_one : (i : ℕ) → i < n * 384 + 64 → get_or (with_layer table x) i [] ≡ get_or one i []
  from_one i l = from_two i (omega arith) ∙ get_or_append_left one x.knights [] i (omega (arith, long_one))

  from_table : (i : ℕ) → i < n * 384 → get_or (with_layer table x) i [] ≡ get_or table i []
  from_table i l = from_one i (omega arith) ∙ get_or_append_left table x.pawns [] i (omega (arith, long))

  -- the rows of a part
  part : (xs ys : List (List ℕ)) (a i s : ℕ) → length xs ≡ a → i ≡ a + s → get_or (xs ++ ys) i [] ≡ get_or ys s []
  part xs ys a i s e is = get_or-append_right xs ys a i [] e (omega arith) ∙ ap (λ (m : ℕ). get_or ys m []) (omega arith)

  abbrev rows_of_kind : Kind → List (List ℕ)
  rows_of_kind Pawn = x.pawns
  rows_of_kind Knight = x.knights
  rows_of_kind Bishop = x.bishops
  rows_of_kind Rook = x.rooks
  rows_of_kind Queen = x.queens
  rows_of_kind King = x.kings

  new_rows : (kind : Kind) (s : ℕ) → s < 64 → get_or (with_layer table x) ((n * 6 + number_of_kind kind) * 64 + s) [] ≡ get_or (rows_of_kind kind) s []
  new_rows Pawn s l = from_one ((n * 6 + 0) * 64 + s) (omega arith) ∙ part table x.pawns (n * 384) ((n * 6 + 0) * 64 + s) s long (omega arith)
  new_rows Knight s l = from_two ((n * 6 + 1) * 64 + s) (omega arith) ∙ part one x.knights (n * 384 + 64) ((n * 6 + 1) * 64 + s) s long_one (omega arith)
  new_rows Bishop s l = from_three ((n * 6 + 2) * 64 + s) (omega arith) ∙ part two x.bishops (n * 384 + 128) ((n * 6 + 2) * 64 + s) s long_two (omega arith)
  new_rows Rook s l = from_four ((n * 6 + 3) * 64 + s) (omega arith) ∙ part three x.rooks (n * 384 + 192) ((n * 6 + 3) * 64 + s) s long_three (omega arith)
  new_rows Queen s l = from_five ((n * 6 + 4) * 64 + s) (omega arith) ∙ part four x.queens (n * 384 + 256) ((n * 6 + 4) * 64 + s) s long_four (omega arith)
  new_rows King s l = part five x.kings (n * 384 + 320) ((n * 6 + 5) * 64 + s) s long_five (omega arith)

  over_kind : (u : Numbers) (kind : Kind) → IsOver u n x → AreBelow (u n kind) (rows_of_kind kind)
  over_kind u Pawn h = h.pawns
  over_kind u Knight h = h.knights
  over_kind u Bishop h = h.bishops
  over_kind u Rook h = h.rooks
  over_kind u Queen h = h.queens
  over_kind u King h = h.kings

  old_index : (j kind s : ℕ) → j < n → kind < 6 → s < 64 → (j * 6 + kind) * 64 + s < n * 384
  old_index j kind s lj lk ls = omega arith

  pub highest_next : (t : Tariff) (f : Facts) (c : Color) (goals : Men) → AreHighest t f c goals n table → IsHigh t f c goals n x → AreHighest t f c goals (suc n) (with_layer table x)
  highest_next t f c goals before high u j lj h kind s e ls le = elim (eqb_tells j n) [
    | inl w ↦
        (let here : AreClosedTo t f c goals u n = subst (λ (i : ℕ). AreClosedTo t f c goals u i) w.1 h in
        subst (λ (i : ℕ). u i kind s e ≤ entry (with_layer table x) i kind s e) (sym w.1)
        (subst (λ (y : List ℕ). u n kind s e ≤ nth y e) (sym (new_rows kind s ls)) (over_kind u kind (high u here) s e ls le)))
    | inr w ↦
        (let ne : j ≢ n = w.1 in
        let low : j < n = omega arith in
        subst (λ (y : List ℕ). u j kind s e ≤ nth y e) (sym (from_table ((j * 6 + number_of_kind kind) * 64 + s) (old_index j (number_of_kind kind) s low (kind_low kind) ls)))
        (before u j low h kind s e ls le))
  ]

-- ---- all layers
-- a table with up to n marks, and its last layer
pub record IsFilled (t : Tariff) (f : Facts) (c : Color) (goals : Men) (n : ℕ) (table : List (List ℕ)) (x : Layer) : Type 0 where
  pub long : length table ≡ suc n * 384
  pub highest : AreHighest t f c goals (suc n) table
  pub layer : IsHigh t f c goals n x

pub filled_first : (t : Tariff) (f : Facts) (c : Color) (goals : Men) (table all : List (List ℕ)) (x : Layer) → table ≡ [] → all ≡ with_layer table x → AreLong x → IsHigh t f c goals 0 x → IsFilled t f c goals 0 all x
filled_first t f c goals table all x none is each high =
    let empty : length table ≡ 0 * 384 = ap length none in
    record {
      long = ap length is ∙ long_layer table x 0 empty each;
      highest = subst (λ (rows : List (List ℕ)). AreHighest t f c goals 1 rows) (sym is) (highest_next table x 0 empty each t f c goals (λ u j low. absurd (omega (arith, low))) high);
      layer = high;
    }

pub filled_next : (t : Tariff) (f : Facts) (c : Color) (goals : Men) (n m : ℕ) (table all : List (List ℕ)) (x y : Layer) → m ≡ n + 1 → IsFilled t f c goals n table x → all ≡ with_layer table y → AreLong y → IsHigh t f c goals (suc n) y → IsFilled t f c goals m all y
filled_next t f c goals n m table all x y e before is each high =
    let one_more : suc n ≡ m = omega (arith, e) in
    subst (λ (i : ℕ). IsFilled t f c goals i all y) one_more
    (record {
      long = ap length is ∙ long_layer table y (suc n) before.long each;
      highest = subst (λ (rows : List (List ℕ)). AreHighest t f c goals (suc (suc n)) rows) (sym is) (highest_next table y (suc n) before.long each t f c goals before.highest high);
      layer = high;
    })
