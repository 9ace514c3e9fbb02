-- A search by counts keeps what it says of a count, turn by turn, and ends with all whom that many counts meet.
use Rattle.pg_journeys.proofs.Common.{◌≡◌, ℕ, ◌+◌, ◌*◌, ◌/◌, ◌%◌, ◌-◌, ◌<◌, ◌≤◌, ◌⊎◌, ◌↔◌, inl, inr, Bool, true, false, not, ◌||◌, List, sym, ap, subst, arith, ◌∙◌, refl, zero, suc, has, total, one, count_below, total-le, total-suc, kind_of_number, kind_back, Kind, number_of_kind, of_kind, is_met, is_due, is_next, IsMeeting, AreTakenDue, NoneDue, HasAdvanced, Steps, Within, FromSome, AreDueMet, IsBefore, IsAmid, Front, cases_Bool, not-true, not_from_false, or_left, or_right, and_from, kind_low}
use Rattle.pg_journeys.specs.inner.Levels.{Men}
use Rattle.pg_journeys.proofs.FrontLemmas.{not_both, or_either, and_first}

-- ---- how many men are still to be looked at: those who are due, and those who were not met
is_left : Front → Kind → ℕ → Bool
is_left a k s = not (is_met a k s) || is_due a k s

pub unseen : Front → ℕ
unseen a = count_below (λ i. is_left a (kind_of_number (i / 64)) (i % 64)) 384

total_less : (g h : ℕ → ℕ) (n i : ℕ) → i < n → ((t : ℕ) → t < n → g t ≤ h t) → g i < h i → total g n < total h n
total_less g h zero i l e s = absurd (omega arith)
total_less g h (suc n) i l e s = elim (or_last i n l) [
  | inl m ↦
      (let a : total g n < total h n = total_less g h n i m (λ t b. e t (omega arith)) s in
      let b : g n ≤ h n = e n (omega arith) in
      omega (arith, total-suc g n, total-suc h n))
  | inr m ↦
      (let a : total g n ≤ total h n = total-le g h n (λ t b. e t (omega arith)) in
      let b : g n < h n = subst (λ (x : ℕ). g x < h x) m s in
      omega (arith, total-suc g n, total-suc h n))
]
  where
    or_last : (i n : ℕ) → i < suc n → (i < n) ⊎ (i ≡ n)
    or_last i n l = grind arith

one_or : (a b : Bool) → (a ≡ true → b ≡ true) → one a ≤ one b
one_or true b f = (let e : one b ≡ 1 = ap one (f refl) in omega arith)
one_or false b f = omega arith

kind_at : (k : Kind) (s : ℕ) → s < 64 → kind_of_number ((number_of_kind k * 64 + s) / 64) ≡ k
kind_at k s l = ap kind_of_number (quotient (number_of_kind k) s l) ∙ kind_back k
  where
    quotient : (n s : ℕ) → s < 64 → (n * 64 + s) / 64 ≡ n
    quotient n s l = omega arith

square_at : (n s : ℕ) → s < 64 → (n * 64 + s) % 64 ≡ s
square_at n s l = omega arith

square_low : (i : ℕ) → i % 64 < 64
square_low i = omega arith

-- ---- one turn: the men of a kind who are due are looked at, and those whom their steps lead to are met
module _ (S : Kind → ℕ → ℕ → Type 0) (k : Kind) (set : ℕ) (a b d : Front) (same : b.met ≡ a.met) (ready : AreDueMet a) (taken : AreTakenDue k set a b) (meets : IsMeeting S b d) where
  as_met : (j : Kind) (t : ℕ) → is_met b j t ≡ is_met a j t
  as_met j t = ap (λ (y : List ℕ). has (of_kind y j) t) same

  stays_met : (j : Kind) (t : ℕ) → t < 64 → is_met a j t ≡ true → is_met d j t ≡ true
  stays_met j t l h = meets.met j t l (as_met j t ∙ h)

  pub due_turn : AreDueMet d
  due_turn j t l h = elim (meets.new_due j t l h) [
    | inl u ↦ stays_met j t l (ready j t l (taken.rest j t l u))
    | inr (u, v) ↦ meets.free j t l v
  ]

  was_left : (j : Kind) (t : ℕ) → t < 64 → is_left d j t ≡ true → is_left a j t ≡ true
  unfolding is_left
  was_left j t l h = elim (or_either (not (is_met d j t)) (is_due d j t) h) [
    | inl u ↦ elim (cases_Bool (is_met a j t)) [
      | inl v ↦ absurd (not_both (is_met d j t) (stays_met j t l v) (not-true (is_met d j t) u))
      | inr v ↦ or_left (not (is_met a j t)) (is_due a j t) (not_from_false (is_met a j t) v)
    ]
    | inr u ↦ elim (meets.new_due j t l u) [
      | inl v ↦ or_right (not (is_met a j t)) (is_due a j t) (taken.rest j t l v)
      | inr (v, _) ↦ or_left (not (is_met a j t)) (is_due a j t) (not_from_false (is_met a j t) (sym (as_met j t) ∙ v))
    ]
  ]

  -- one of them was left, and is no longer
  seen : (t : ℕ) → t < 64 → has set t ≡ true → (is_left a k t ≡ true) × (is_left d k t ≡ false)
  unfolding is_left
  seen t l on =
      let due : is_due a k t ≡ true = taken.was t l on in
      let met : is_met a k t ≡ true = ready k t l due in (
        or_right (not (is_met a k t)) (is_due a k t) due,
        elim (cases_Bool (not (is_met d k t) || is_due d k t)) [
          | inr u ↦ u
          | inl u ↦ elim (or_either (not (is_met d k t)) (is_due d k t) u) [
            | inl v ↦ absurd (not_both (is_met d k t) (stays_met k t l met) (not-true (is_met d k t) v))
            | inr v ↦ elim (meets.new_due k t l v) [
              | inl w ↦ absurd (not_both (is_due b k t) w (taken.gone t l on))
              | inr (w, _) ↦ absurd (not_both (is_met b k t) (as_met k t ∙ met) w)
            ]
          ]
        ],
      )

  pub fewer_unseen : unseen d < unseen a
  unfolding unseen
  fewer_unseen =
      let s : ℕ = taken.some.0 in
      let low : s < 64 = taken.some.1 in
      let i : ℕ = number_of_kind k * 64 + s in
      let small : i < 384 = omega (arith, kind_low k) in
      let e : kind_of_number (i / 64) ≡ k = kind_at k s low in
      let f : i % 64 ≡ s = square_at (number_of_kind k) s low in
      let was : is_left a (kind_of_number (i / 64)) (i % 64) ≡ true = subst (λ (x : Kind). is_left a x (i % 64) ≡ true) (sym e) (subst (λ (x : ℕ). is_left a k x ≡ true) (sym f) (seen s low taken.some.2).0) in
      let is : is_left d (kind_of_number (i / 64)) (i % 64) ≡ false = subst (λ (x : Kind). is_left d x (i % 64) ≡ false) (sym e) (subst (λ (x : ℕ). is_left d k x ≡ false) (sym f) (seen s low taken.some.2).1) in
      let p : one (is_left a (kind_of_number (i / 64)) (i % 64)) ≡ 1 = ap one was in
      let q : one (is_left d (kind_of_number (i / 64)) (i % 64)) ≡ 0 = ap one is in
      total_less (λ t. one (is_left d (kind_of_number (t / 64)) (t % 64))) (λ t. one (is_left a (kind_of_number (t / 64)) (t % 64))) 384 i small
      (λ t _. one_or (is_left d (kind_of_number (t / 64)) (t % 64)) (is_left a (kind_of_number (t / 64)) (t % 64)) (was_left (kind_of_number (t / 64)) (t % 64) (square_low t)))
      (omega arith)

-- ---- what steps make of those within a count
module _ (start : Men) (step : Steps) (within : Within) (light : (k : Kind) (s : ℕ) (j : Kind) (t w : ℕ) → step k s j t w → (w ≡ 0) ⊎ (w ≡ 1)) (go : (n : ℕ) (k : Kind) (s : ℕ) (j : Kind) (t w : ℕ) → within n k s → step k s j t w → within (n + w) j t) (more : (n m : ℕ) (k : Kind) (s : ℕ) → n ≤ m → within n k s → within m k s) where
  pub amid_turn : (n : ℕ) (k : Kind) (set : ℕ) (a b d : Front) → b.met ≡ a.met → b.next ≡ a.next → AreTakenDue k set a b → IsMeeting (FromSome (step k) set) b d → IsAmid start step within n a → IsAmid start step within n d
  amid_turn n k set a b d same same_next taken meets old =
      let as_met : (j : Kind) (t : ℕ) → is_met b j t ≡ is_met a j t = λ j t. ap (λ (y : List ℕ). has (of_kind y j) t) same in
      let as_next : (j : Kind) (t : ℕ) → is_next b j t ≡ is_next a j t = λ j t. ap (λ (y : List ℕ). has (of_kind y j) t) same_next in
      let stays : (j : Kind) (t : ℕ) → t < 64 → is_met a j t ≡ true → is_met d j t ≡ true = λ j t l h. meets.met j t l (as_met j t ∙ h) in
      let they_within : (s : ℕ) → s < 64 → has set s ≡ true → within n k s = λ s l on. old.met k s l (old.due k s l (taken.was s l on)) in
      let due_within : (j : Kind) (t : ℕ) → t < 64 → is_due d j t ≡ true → within n j t = λ j t l h. elim (meets.new_due j t l h) [
        | inl u ↦ old.met j t l (old.due j t l (taken.rest j t l u))
        | inr (u, (s, ls, on, v)) ↦ more (n + 0) n j t (omega arith) (go n k s j t 0 (they_within s ls on) v)
      ] in
      record {
        met = λ j t l h. elim (meets.new_met j t l h) [
          | inl u ↦ old.met j t l (sym (as_met j t) ∙ u)
          | inr u ↦ due_within j t l u
        ];
        due = due_turn (FromSome (step k) set) k set a b d same old.due taken meets;
        next = λ j t l h. elim (meets.new_next j t l h) [
          | inl u ↦ old.next j t l (sym (as_next j t) ∙ u)
          | inr (s, ls, on, v) ↦ go n k s j t 1 (they_within s ls on) v
        ];
        started = λ j t l h. stays j t l (old.started j t l h);
        all = λ m j t l less h. stays j t l (old.all m j t l less h);
        carried = λ m i x j t lx l less h is. stays j t l (old.carried m i x j t lx l less h is);
        free = λ i x j t lx l h is. elim (meets.new_met i x lx h) [
          | inr u ↦ inl u
          | inl u ↦ elim (old.free i x j t lx l (sym (as_met i x) ∙ u) is) [
            | inr v ↦ inr (stays j t l v)
            | inl v ↦ elim (taken.each i x lx v) [
              | inl (e, on) ↦ inr (meets.free j t l (x, lx, on, subst (λ (y : Kind). step y x j t 0) e is))
              | inr w ↦ inl (meets.due i x lx w)
            ]
          ]
        ];
        counted = λ i x j t lx l h is. elim (meets.new_met i x lx h) [
          | inr u ↦ inl u
          | inl u ↦ elim (old.counted i x j t lx l (sym (as_met i x) ∙ u) is) [
            | inr v ↦ inr (elim v [ inl w ↦ inl (stays j t l w) | inr w ↦ inr (meets.next j t l (as_next j t ∙ w)) ])
            | inl v ↦ elim (taken.each i x lx v) [
              | inl (e, on) ↦ inr (inr (meets.counted j t l (x, lx, on, subst (λ (y : Kind). step y x j t 1) e is)))
              | inr w ↦ inl (meets.due i x lx w)
            ]
          ]
        ];
      }

  -- ---- from count to count
  pub first_before : (a : Front) → ((j : Kind) (t : ℕ) → is_met a j t ≡ false) → ((j : Kind) (t : ℕ) → t < 64 → start j t → is_next a j t ≡ true) →
      ((j : Kind) (t : ℕ) → t < 64 → is_next a j t ≡ true → within 0 j t) → IsBefore start step within 0 a
  first_before a unmet begins sound = record {
    met = λ j t l h. absurd (not_both (is_met a j t) h (unmet j t));
    all = λ m j t l less h. absurd (omega arith);
    next = sound;
    started = λ j t l h. inr (begins j t l h);
    free = λ i x j t lx l h is. absurd (not_both (is_met a i x) h (unmet i x));
    counted = λ i x j t lx l h is. absurd (not_both (is_met a i x) h (unmet i x));
  }

  module _ (n : ℕ) (a b : Front) (before : IsBefore start step within n a) (next : HasAdvanced a b) where
    was_met : (j : Kind) (t : ℕ) → t < 64 → is_met a j t ≡ true → is_met b j t ≡ true
    was_met j t l h = (next j t l).met ∙ or_left (is_met a j t) (is_next a j t) h

    was_next : (j : Kind) (t : ℕ) → t < 64 → is_next a j t ≡ true → is_met b j t ≡ true
    was_next j t l h = (next j t l).met ∙ or_right (is_met a j t) (is_next a j t) h

    met_or_next : (j : Kind) (t : ℕ) → t < 64 → (is_met a j t ≡ true) ⊎ (is_next a j t ≡ true) → is_met b j t ≡ true
    met_or_next j t l h = elim h [ inl u ↦ was_met j t l u | inr u ↦ was_next j t l u ]

    -- whoever is met now was met before or is due
    pub met_or_due : (j : Kind) (t : ℕ) → t < 64 → is_met b j t ≡ true → (is_met a j t ≡ true) ⊎ (is_due b j t ≡ true)
    met_or_due j t l h = elim (cases_Bool (is_met a j t)) [
      | inl u ↦ inl u
      | inr u ↦ elim (or_either (is_met a j t) (is_next a j t) (sym (next j t l).met ∙ h)) [
        | inl v ↦ inl v
        | inr v ↦ inr ((next j t l).due ∙ and_from (is_next a j t) (not (is_met a j t)) v (not_from_false (is_met a j t) u))
      ]
    ]

    pub due_advanced : AreDueMet b
    due_advanced j t l h = was_next j t l (and_first (is_next a j t) (not (is_met a j t)) (sym (next j t l).due ∙ h))

    pub amid_first : IsAmid start step within n b
    amid_first = record {
      met = λ j t l h. elim (or_either (is_met a j t) (is_next a j t) (sym (next j t l).met ∙ h)) [
        | inl u ↦ (let p = before.met j t l u in let less : p.0 < n = p.1 in more p.0 n j t (omega arith) p.2)
        | inr u ↦ before.next j t l u
      ];
      due = due_advanced;
      next = λ j t l h. absurd (not_both (is_next b j t) h (next j t l).next);
      started = λ j t l h. met_or_next j t l (before.started j t l h);
      all = λ m j t l less h. was_met j t l (before.all m j t l less h);
      carried = λ m i x j t lx l less h is. met_or_next j t l (before.counted i x j t lx l (before.all m i x lx less h) is);
      free = λ i x j t lx l h is. elim (met_or_due i x lx h) [
        | inl u ↦ inr (was_met j t l (before.free i x j t lx l u is))
        | inr u ↦ inl u
      ];
      counted = λ i x j t lx l h is. elim (met_or_due i x lx h) [
        | inl u ↦ inr (inl (met_or_next j t l (before.counted i x j t lx l u is)))
        | inr u ↦ inl u
      ];
    }

  -- what holds of those who begin and is kept by each step holds of all who are within some count
  module _ (by_steps : (P : ℕ → Kind → ℕ → Type 0) → ((k : Kind) (s : ℕ) → s < 64 → start k s → P 0 k s) →
      ((n : ℕ) (k : Kind) (s : ℕ) (j : Kind) (t w : ℕ) → s < 64 → t < 64 → P n k s → step k s j t w → P (n + w) j t) →
      ((n m : ℕ) (k : Kind) (s : ℕ) → n ≤ m → P n k s → P m k s) → (n : ℕ) (k : Kind) (s : ℕ) → s < 64 → within n k s → P n k s) (begins : (k : Kind) (s : ℕ) → s < 64 → start k s → within 0 k s) where
    amid_all : (n : ℕ) (a : Front) → NoneDue a → IsAmid start step within n a → (m : ℕ) (k : Kind) (s : ℕ) → s < 64 → m ≤ n → within m k s → is_met a k s ≡ true
    amid_all n a none amid m k s l le h =
        (by_steps (λ x j t. x ≤ n → within x j t × (is_met a j t ≡ true))
        (λ j t lt is _. (begins j t lt is, amid.started j t lt is))
        (λ x i y j t w ly lt before is small.
        (let was : within x i y × (is_met a i y ≡ true) = before (omega arith) in (
          go x i y j t w was.0 is,
          elim (light i y j t w is) [
            | inl e ↦ elim (amid.free i y j t ly lt was.1 (subst (λ (z : ℕ). step i y j t z) e is)) [
              | inl u ↦ absurd (not_both (is_due a i y) u (none i y ly))
              | inr u ↦ u
            ]
            | inr e ↦ amid.carried x i y j t ly lt (omega arith) was.0 (subst (λ (z : ℕ). step i y j t z) e is)
          ],
        )))
        (λ x y j t less before small. (let was : within x j t × (is_met a j t ≡ true) = before (omega arith) in (more x y j t less was.0, was.1)))
        m k s l h le).1

    pub amid_last : (n : ℕ) (a : Front) → NoneDue a → IsAmid start step within n a → IsBefore start step within (n + 1) a
    amid_last n a none amid = record {
      met = λ j t l h. (n, omega arith, amid.met j t l h);
      all = λ m j t l less h. amid_all n a none amid m j t l (omega arith) h;
      next = amid.next;
      started = λ j t l h. inl (amid.started j t l h);
      free = λ i x j t lx l h is. elim (amid.free i x j t lx l h is) [
        | inl u ↦ absurd (not_both (is_due a i x) u (none i x lx))
        | inr u ↦ u
      ];
      counted = λ i x j t lx l h is. elim (amid.counted i x j t lx l h is) [
        | inl u ↦ absurd (not_both (is_due a i x) u (none i x lx))
        | inr u ↦ u
      ];
    }

    -- where one count more meets nobody new, no count does
    pub idle_all : (n : ℕ) (a b : Front) → IsBefore start step within n a → HasAdvanced a b → NoneDue b → (m : ℕ) (k : Kind) (s : ℕ) → s < 64 → within m k s → is_met a k s ≡ true
    idle_all n a b before next none =
        let settled : (j : Kind) (t : ℕ) → t < 64 → (is_met a j t ≡ true) ⊎ (is_next a j t ≡ true) → is_met a j t ≡ true = λ j t l h. elim h [
          | inl u ↦ u
          | inr u ↦ elim (met_or_due n a b before next j t l (was_next n a b before next j t l u)) [
            | inl v ↦ v
            | inr v ↦ absurd (not_both (is_due b j t) v (none j t l))
          ]
        ] in
        by_steps (λ x j t. is_met a j t ≡ true)
        (λ j t l is. settled j t l (before.started j t l is))
        (λ x i y j t w ly lt met is. elim (light i y j t w is) [
          | inl e ↦ before.free i y j t ly lt met (subst (λ (z : ℕ). step i y j t z) e is)
          | inr e ↦ settled j t lt (before.counted i y j t ly lt met (subst (λ (z : ℕ). step i y j t z) e is))
        ])
        (λ x y j t less met. met)

    -- those met before the count n + 1 are within n
    pub ring_is : (n : ℕ) (a : Front) → IsBefore start step within (n + 1) a → (k : Kind) (s : ℕ) → s < 64 → (is_met a k s ≡ true) ↔ within n k s
    ring_is n a before k s l = (
      λ h. (let p = before.met k s l h in let less : p.0 < n + 1 = p.1 in more p.0 n k s (omega arith) p.2),
      λ h. before.all n k s l (omega arith) h,
    )

    -- at a count that meets nobody new those met are within each from it on
    pub idle_is : (n m : ℕ) (a b : Front) → n ≤ m → IsBefore start step within n a → HasAdvanced a b → NoneDue b → (k : Kind) (s : ℕ) → s < 64 → (is_met b k s ≡ true) ↔ within m k s
    idle_is n m a b le before next none k s l = (
      λ h. elim (met_or_due n a b before next k s l h) [
        | inl u ↦ (let p = before.met k s l u in let less : p.0 < n = p.1 in more p.0 m k s (omega arith) p.2)
        | inr u ↦ absurd (not_both (is_due b k s) u (none k s l))
      ],
      λ h. was_met n a b before next k s l (idle_all n a b before next none m k s l h),
    )

    -- then whoever is within some count is within the one before
    pub idle_within : (n m : ℕ) (a b : Front) → IsBefore start step within n a → HasAdvanced a b → NoneDue b → (k : Kind) (s : ℕ) → s < 64 → within m k s → within (n - 1) k s
    idle_within n m a b before next none k s l h =
        let p = before.met k s l (idle_all n a b before next none m k s l h) in
        let less : p.0 < n = p.1 in
        more p.0 (n - 1) k s (omega arith) p.2
