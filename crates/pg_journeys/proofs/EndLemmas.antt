-- Within how many counts paths lead to an end. Leads to the contracts of `end_goals`, `fill_aims`, `aim_within`, `comes_within` and
-- `count_to`.
use Rattle.pg_journeys.proofs.Common.{◌≡◌, ◌≢◌, ◌↔◌, ℕ, ◌+◌, ◌-◌, ◌<◌, ◌≤◌, inl, inr, IsTrue, Bool, true, false, List, length, set, replicate, refl, sym, ap, subst, ◌∙◌, arith, cases_lt, eqb_tells, get_or-set_same, get_or-set_other, has, has-none, Color, Kind, Pawn, Knight, Bishop, Rook, Queen, King, other, IsSetOf, dec_kind, dec_less, known, landing, of_kind, BackWithin, AreRings, AreWithin, facts_of, square_at, kind_at, IsLike, IsEnd, EndWithin, AreAims, aim_at, InRing, IsCount, Ground, Side, Rings, Runner}
use Rattle.pg_journeys.specs.declared.facts.Facts.{Facts as FactSets}
use Rattle.pg_journeys.specs.declared.men.Men.{Men}
use Rattle.pg_journeys.proofs.CostLemmas.{path_as}
use Rattle.pg_journeys.proofs.SideLemmas.{goals_few}

-- a side goes by its own ground and its own men
pub like_itself : (x : Side) → IsLike x x.terrain x.goals
like_itself x = record {
  facts = refl;
  color = refl;
  goals = record { count = refl; squares = λ i l. refl; kinds = λ i l. refl };
}

-- ---- what rings and sets show, in other words
pub rings_as : (V W : ℕ → Kind → ℕ → Type 0) (r : Rings) → ((n : ℕ) (k : Kind) (s : ℕ) → V n k s ↔ W n k s) → AreRings V r → AreRings W r
rings_as V W r same h = record {
  some = h.some;
  few = h.few;
  kept = λ n k s l sl. (λ t. (same n k s).0 ((h.kept n k s l sl).0 t), λ w. (h.kept n k s l sl).1 ((same n k s).1 w));
  whole = λ e n k s sl w. (same (r.count - 1) k s).0 (h.whole e n k s sl ((same n k s).1 w));
}

pub within_as : (V W : ℕ → Kind → ℕ → Type 0) (n : ℕ) (sets : List ℕ) → ((n : ℕ) (k : Kind) (s : ℕ) → V n k s ↔ W n k s) → AreWithin V n sets → AreWithin W n sets
within_as V W n sets same h k s sl = (λ t. (same n k s).0 ((h k s sl).0 t), λ w. (h k s sl).1 ((same n k s).1 w))

-- ---- the men of an end
module _ (x : Side) (e : ℕ) (goal : List ℕ) (one sq : ℕ) (k : Kind) (few : x.goals.count ≤ 16) (low : square_at x.goals e < 64) (l : e < x.goals.count)
    (ek : k ≡ kind_at x.goals e) (es : sq ≡ square_at x.goals e) (is : IsSetOf one (λ q. q ≡ sq)) (here : of_kind goal k ≡ one) (others : (j : Kind) → j ≢ k → of_kind goal j ≡ 0) where
  only : (j : Kind) (t : ℕ) → t < 64 → has (of_kind goal j) t ≡ true → (j ≡ k) × (t ≡ square_at x.goals e)
  only j t tl y = elim (dec_kind j k) [
    | yes same ↦ (same, (is t tl).0 (subst (λ (n : ℕ). has n t ≡ true) (ap (of_kind goal) same ∙ here) y) ∙ es)
    | no ne ↦ absurd (let z : has (of_kind goal j) t ≡ false = ap (λ (n : ℕ). has n t) (others j ne) ∙ has-none t in cc)
  ]

  there : has (of_kind goal (kind_at x.goals e)) (square_at x.goals e) ≡ true
  there = subst (λ (n : ℕ). has n (square_at x.goals e) ≡ true) (sym (ap (of_kind goal) (sym ek) ∙ here)) ((is (square_at x.goals e) low).1 (sym es))

  goal_is : (quiet : Bool) (n : ℕ) (h : Kind) (r : ℕ) → BackWithin (facts_of x) x.terrain.color quiet goal n h r ↔ EndWithin x quiet e n h r
  goal_is quiet n h r = (
    λ w. inl (
      l,
      (let q : (w.0 ≡ k) × (w.1 ≡ square_at x.goals e) = only w.0 w.1 w.3 w.4 in
          (w.2, path_as (facts_of x) x.terrain.color h h r w.2 w.0 (kind_at x.goals e) w.1 (square_at x.goals e) refl (q.0 ∙ ek) q.1 w.5, w.6)),
    ),
    λ w. elim w [
      | inl g ↦ (kind_at x.goals e, square_at x.goals e, g.1.0, low, there, g.1.1, g.1.2)
      | inr g ↦ absurd (let z : e ≡ 16 = g.0 in omega arith)
    ],
  )

-- a search under the facts and the colour of a side
abbrev SearchesTo : Side → ℕ → List ℕ → FactSets → Color → Type 0
SearchesTo x e goal f c = (quiet : Bool) (n : ℕ) (h : Kind) (r : ℕ) → BackWithin (known f) c quiet goal n h r ↔ EndWithin x quiet e n h r

searches_like : (x : Side) (e : ℕ) (goal : List ℕ) (f : FactSets) (c : Color) → x.terrain.facts ≡ f → x.terrain.color ≡ c → SearchesTo x e goal x.terrain.facts x.terrain.color → SearchesTo x e goal f c
searches_like x e goal f c ef ec h = subst (λ (y : FactSets). SearchesTo x e goal y c) ef (subst (λ (y : Color). SearchesTo x e goal x.terrain.facts y) ec h)

pub goal_like : (x : Side) (g : Ground) (goals : Men) (e : ℕ) (goal : List ℕ) (one sq : ℕ) (k : Kind) → IsLike x g goals → goals.count ≤ 16 → square_at goals e < 64 → e < goals.count →
    k ≡ kind_at goals e → sq ≡ square_at goals e → IsSetOf one (λ q. q ≡ sq) → of_kind goal k ≡ one → ((j : Kind) → j ≢ k → of_kind goal j ≡ 0) →
    SearchesTo x e goal g.facts g.color
goal_like x g goals e goal one sq k like few low l ek es is here others =
    let count : x.goals.count ≡ goals.count = like.goals.count in
    let square : square_at x.goals e ≡ square_at goals e = like.goals.squares e l in
    searches_like x e goal g.facts g.color like.facts like.color
    (goal_is x e goal one sq k (omega arith) (omega (arith, square)) (omega arith) (ek ∙ sym (like.goals.kinds e l)) (es ∙ sym square) is here others)

-- the same squares for each kind
pub each : (t : ℕ) (j : Kind) → of_kind (replicate 6 t) j ≡ t
each t Pawn = refl
each t Knight = refl
each t Bishop = refl
each t Rook = refl
each t Queen = refl
each t King = refl

last_is : (x : Side) (e t : ℕ) → x.goals.count ≤ e → IsEnd x e → t ≡ landing x.terrain.facts (other x.terrain.color) →
    (quiet : Bool) (n : ℕ) (h : Kind) (r : ℕ) → BackWithin (facts_of x) x.terrain.color quiet (replicate 6 t) n h r ↔ EndWithin x quiet e n h r
last_is x e t past end theirs quiet n h r = (
  λ w. elim end [
    | inl l ↦ absurd (omega (arith, l, past))
    | inr z ↦ inr (z.0, z.1, (w.0, w.1, w.2, w.3, subst (λ (m : ℕ). has m w.1 ≡ true) (each t w.0 ∙ theirs) w.4, w.5, w.6))
  ],
  λ w. elim w [
    | inl g ↦ absurd (let l : e < x.goals.count = g.0 in omega arith)
    | inr g ↦ (g.2.0, g.2.1, g.2.2, g.2.3, subst (λ (m : ℕ). has m g.2.1 ≡ true) (sym (each t g.2.0 ∙ theirs)) g.2.4, g.2.5, g.2.6)
  ],
)

pub last_like : (x : Side) (g : Ground) (goals : Men) (e t : ℕ) → IsLike x g goals → goals.count ≤ e → IsEnd x e → t ≡ landing g.facts (other g.color) → SearchesTo x e (replicate 6 t) g.facts g.color
last_like x g goals e t like past end theirs =
    let count : x.goals.count ≡ goals.count = like.goals.count in
    searches_like x e (replicate 6 t) g.facts g.color like.facts like.color
    (last_is x e t (omega arith) end (theirs ∙ sym (ap (λ (f : FactSets). landing f (other g.color)) like.facts) ∙ sym (ap (λ (c : Color). landing x.terrain.facts (other c)) like.color)))

-- ---- all ends
-- the rings of the first n ends
abbrev pub AreAimsTo : Side → Bool → List Rings → ℕ → Type 0
AreAimsTo x quiet aims n = (e : ℕ) → e < n → AreRings (EndWithin x quiet e) (aim_at aims e)

pub aims_next : (x : Side) (quiet : Bool) (aims : List Rings) (r : Rings) (n m : ℕ) → m ≡ n + 1 → n < length aims → AreRings (EndWithin x quiet n) r →
    AreAimsTo x quiet aims n → AreAimsTo x quiet (set aims n r) m
aims_next x quiet aims r n m e low here before q l = elim (eqb_tells q n) [
  | inl w ↦ subst (λ (b : ℕ). AreRings (EndWithin x quiet b) (aim_at (set aims n r) b)) (sym w.1) (subst (λ (y : Rings). AreRings (EndWithin x quiet n) y) (sym (get_or-set_same aims n r _ low)) here)
  | inr w ↦ (let ne : q ≢ n = w.1 in subst (λ (y : Rings). AreRings (EndWithin x quiet q) y) (sym (get_or-set_other aims n q r _ ne)) (before q (omega arith)))
]

pub aims_full : (x : Side) (quiet : Bool) (aims : List Rings) (n : ℕ) → n ≡ x.goals.count → x.men.count ≤ x.goals.count → AreAimsTo x quiet aims n → AreAims x quiet aims
aims_full x quiet aims n all full are = record {
  ends = λ e end. elim end [ inl l ↦ are e (omega (arith, l, all)) | inr w ↦ absurd (let more : x.goals.count < x.men.count = w.1 in omega arith) ];
}

pub aims_all : (x : Side) (quiet : Bool) (aims : List Rings) (r : Rings) (n : ℕ) → n ≡ x.goals.count → x.goals.count ≤ 16 → length aims ≡ 17 → AreAimsTo x quiet aims n →
    AreRings (EndWithin x quiet 16) r → AreAims x quiet (set aims 16 r)
aims_all x quiet aims r n all few long are last = record {
  ends = λ e end. elim end [
    | inl l ↦
        (let ne : e ≢ 16 = (λ z. omega (arith, few, l)) in
        subst (λ (y : Rings). AreRings (EndWithin x quiet e) y) (sym (get_or-set_other aims 16 e r _ ne)) (are e (omega (arith, l, all))))
    | inr w ↦ subst (λ (b : ℕ). AreRings (EndWithin x quiet b) (aim_at (set aims 16 r) b)) (sym w.0)
        (subst (λ (y : Rings). AreRings (EndWithin x quiet 16) y) (sym (get_or-set_same aims 16 r _ (omega (arith, long)))) last)
  ];
}

-- so for each side of a ground and these men
abbrev pub AreLikeAimsTo : Ground → Men → Bool → List Rings → ℕ → Type 0
AreLikeAimsTo g goals quiet aims n = (x : Side) → IsLike x g goals → AreAimsTo x quiet aims n

pub like_next : (g : Ground) (goals : Men) (quiet : Bool) (aims : List Rings) (r : Rings) (n m : ℕ) → m ≡ n + 1 → n < length aims → n < goals.count →
    ((x : Side) → IsLike x g goals → IsEnd x n → AreRings (EndWithin x quiet n) r) → AreLikeAimsTo g goals quiet aims n → AreLikeAimsTo g goals quiet (set aims n r) m
like_next g goals quiet aims r n m e low inside here before x like = aims_next x quiet aims r n m e low (here x like (inl (let count : x.goals.count ≡ goals.count = like.goals.count in omega arith))) (before x like)

pub like_all : (g : Ground) (goals : Men) (quiet : Bool) (aims : List Rings) (r : Rings) (n : ℕ) (fall : Bool) → n ≡ goals.count → goals.count ≤ 16 → length aims ≡ 17 →
    ((x : Side) → IsLike x g goals → IsEnd x 16 → AreRings (EndWithin x quiet 16) r) → AreLikeAimsTo g goals quiet aims n →
    (x : Side) → IsLike x g goals → (x.goals.count < x.men.count → fall ≡ true) → AreAims x quiet (set aims 16 r)
like_all g goals quiet aims r n fall all few long last are x like asked =
    let count : x.goals.count ≡ goals.count = like.goals.count in
    elim (dec_less x.goals.count x.men.count) [
      | yes more ↦ aims_all x quiet aims r n (omega arith) (omega arith) long (are x like) (last x like (inr (refl, more)))
      | no full ↦ record {
        ends = λ e end. elim end [
          | inl l ↦ (let ne : e ≢ 16 = (λ z. omega arith) in subst (λ (y : Rings). AreRings (EndWithin x quiet e) y) (sym (get_or-set_other aims 16 e r _ ne)) (are x like e (omega (arith, l))))
          | inr w ↦ absurd (full w.1)
        ];
      }
    ]

pub like_full : (g : Ground) (goals : Men) (quiet : Bool) (aims : List Rings) (n : ℕ) (fall : Bool) → n ≡ goals.count → fall ≡ false → AreLikeAimsTo g goals quiet aims n →
    (x : Side) → IsLike x g goals → (x.goals.count < x.men.count → fall ≡ true) → AreAims x quiet aims
like_full g goals quiet aims n fall all off are x like asked =
    let count : x.goals.count ≡ goals.count = like.goals.count in
    elim (dec_less x.goals.count x.men.count) [
      | yes more ↦ absurd (let on : fall ≡ true = asked more in cc)
      | no full ↦ aims_full x quiet aims n (omega arith) (omega (arith, full)) (are x like)
    ]

-- an end is one of seventeen
pub end_low : (x : Side) (e : ℕ) → IsEnd x e → e < 17
end_low x e (inl l) = omega (arith, goals_few x)
end_low x e (inr (is, more)) = omega arith

-- whether a man is among those within a count
pub comes_in : (x : Side) (m : Runner) (e n set : ℕ) (sets : List ℕ) (b : Bool) → set ≡ of_kind sets m.kind → AreWithin (EndWithin x m.is_quiet e) n sets → m.square < 64 → b ≡ has set m.square →
    IsTrue b ↔ EndWithin x m.is_quiet e n m.kind m.square
comes_in x m e n set sets b same within low is = (
  λ t. (within m.kind m.square low).0 (subst (λ (y : ℕ). has y m.square ≡ true) same (sym is ∙ t)),
  λ w. is ∙ subst (λ (y : ℕ). has y m.square ≡ true) (sym same) ((within m.kind m.square low).1 w),
)

-- ---- the least count
pub count_far : (W : ℕ → Type 0) (most : ℕ) (b : Bool) → IsTrue b ↔ W most → b ≡ false → IsCount W most 255
count_far W most b is off = inr (refl, λ w. (let on : b ≡ true = is.1 w in cc))

pub count_here : (W : ℕ → Type 0) (most n : ℕ) (b : Bool) → IsTrue b ↔ W n → b ≡ true → n < most → ((m : ℕ) → m < n → W m → ⊥) → IsCount W most n
count_here W most n b is on low none = inl (omega arith, is.0 on, none)

pub count_last : (W : ℕ → Type 0) (most n : ℕ) (b : Bool) → IsTrue b ↔ W most → b ≡ true → most ≤ n → ((m : ℕ) → m < n → W m → ⊥) → IsCount W most most
count_last W most n b is on past none = inl (omega arith, is.0 on, λ m l. none m (omega arith))

pub none_next : (W : ℕ → Type 0) (n : ℕ) (b : Bool) → IsTrue b ↔ W n → b ≡ false → ((m : ℕ) → m < n → W m → ⊥) → (m : ℕ) → m < n + 1 → W m → ⊥
none_next W n b is off none m l w = elim (cases_lt m n) [
  | inl less ↦ none m less w
  | inr more ↦ (let same : m ≡ n = omega arith in let on : b ≡ true = is.1 (subst W same w) in absurd (cc))
]

-- ---- the least count by rings
module _ (W : ℕ → Kind → ℕ → Type 0) (r : Rings) (m : Runner) (are : AreRings W r) (low : m.square < 64) where
  abbrev Here : ℕ → Type 0
  Here n = W n m.kind m.square

  pub ring_out : (most : ℕ) (b : Bool) → (IsTrue b → (r.is_whole ≡ true) × (InRing r m (r.count - 1) → ⊥)) → b ≡ true → IsCount Here most 255
  ring_out most b out on = inr (
    refl,
    λ w. (let some : 1 ≤ r.count = are.some in (out on).1 ((are.kept (r.count - 1) m.kind m.square (omega arith) low).1 (are.whole (out on).0 most m.kind m.square low w))),
  )

  pub ring_far : (most n : ℕ) → n ≤ r.count → most < n → ((a : ℕ) → a < n → InRing r m a → ⊥) → IsCount Here most 255
  ring_far most n inside far before = inr (refl, λ w. before most far ((are.kept most m.kind m.square (omega arith) low).1 w))

  pub ring_here : (most n v : ℕ) → v ≡ n → n < r.count → n ≤ most → (n < r.count → InRing r m n) → ((a : ℕ) → a < n → InRing r m a → ⊥) → IsCount Here most v
  ring_here most n v same inside near here before = subst (λ (y : ℕ). IsCount Here most y) (sym same) (inl (
    near,
    (are.kept n m.kind m.square inside low).0 (here inside),
    λ a l w. before a l ((are.kept a m.kind m.square (omega arith) low).1 w),
  ))
