-- The squares between two that a man along a line from each reaches, and moves that parry each attack.
use Rattle.pg_moves.proofs.Common.{◌≡◌, ◌≢◌, ℕ, ◌+◌, ◌<◌, ◌⊎◌, inl, inr, true, false, ◌&&◌, ◌||◌, Some, None, refl, sym, ap, subst, ◌∙◌, arith, cases_lt, Decides-at, Color, White, Black, Kind, Pawn, Knight, Bishop, Rook, Queen, King, file, rank, has, man, other, is_man, is_man_decides, Placement, get, IsSetOf, IsFirstFrom, HasNoneFrom, and_true, set_of_union, set_of_both, apart, OnOneLine, OnOneDiagonal, InPattern, IsWithin, IsBetween, IsClear, Reaches, AttacksFrom, pawn_near, knight_near, king_near, between_turn, StaysAttacked, IsLineKind, IsStepKind, IsLineAttacker, IsStepAttacker, AreParries}
use Rattle.pg_moves.proofs.LineLemmas.{rook_within, bishop_within, between_more, same_square}
use Rattle.pg_moves.proofs.ParryLemmas.{off_both}

-- ---- of three squares of a line one is between the others
three : (a b c : ℕ) → IsWithin a b c ⊎ IsWithin b a c ⊎ IsWithin a c b
three a b c = elim (cases_lt a b) [
  | inl p ↦ elim (cases_lt b c) [
    | inl q ↦ inl (omega arith)
    | inr q ↦ elim (cases_lt a c) [ inl w ↦ inr (inr (omega arith)) | inr w ↦ inr (inl (omega arith)) ]
  ]
  | inr p ↦ elim (cases_lt c b) [
    | inl q ↦ inl (omega arith)
    | inr q ↦ elim (cases_lt a c) [ inl w ↦ inr (inl (omega arith)) | inr w ↦ inr (inr (omega arith)) ]
  ]
]

level : (a b c : ℕ) → c ≡ a → c ≡ b → IsWithin a b c × IsWithin b a c × IsWithin a c b
level a b c e f = (omega arith, omega arith, omega arith)

abbrev OneBetween : ℕ → ℕ → ℕ → Type 0
OneBetween x s h = IsBetween x s h ⊎ IsBetween s x h ⊎ IsBetween x h s

module _ (x s h : ℕ) (xs : x ≢ s) (hs : h ≢ s) (hx : h ≢ x) where
  on_file : file h ≡ file x → file h ≡ file s → OneBetween x s h
  unfolding IsBetween
  on_file e f =
      let w : IsWithin (file x) (file s) (file h) × IsWithin (file s) (file x) (file h) × IsWithin (file x) (file h) (file s) = level (file x) (file s) (file h) e f in
      elim (three (rank x) (rank s) (rank h)) [
        | inl r ↦ inl (λ i. xs (sym i), λ i. hs (sym i), w.0, r, inl (inl (sym e)))
        | inr y ↦ elim y [
          | inl r ↦ inr (inl (xs, λ i. hx (sym i), w.1, r, inl (inl (sym f))))
          | inr r ↦ inr (inr (hx, hs, w.2, r, inl (inl (sym e ∙ f))))
        ]
      ]

  on_rank : rank h ≡ rank x → rank h ≡ rank s → OneBetween x s h
  unfolding IsBetween
  on_rank e f =
      let w : IsWithin (rank x) (rank s) (rank h) × IsWithin (rank s) (rank x) (rank h) × IsWithin (rank x) (rank h) (rank s) = level (rank x) (rank s) (rank h) e f in
      elim (three (file x) (file s) (file h)) [
        | inl r ↦ inl (λ i. xs (sym i), λ i. hs (sym i), r, w.0, inl (inr (sym e)))
        | inr y ↦ elim y [
          | inl r ↦ inr (inl (xs, λ i. hx (sym i), r, w.1, inl (inr (sym f))))
          | inr r ↦ inr (inr (hx, hs, r, w.2, inl (inr (sym e ∙ f))))
        ]
      ]

  rook_one : OnOneLine h x → OnOneLine h s → OnOneLine x s → OneBetween x s h
  rook_one a b c = elim a [
    | inl e ↦ elim b [
      | inl f ↦ on_file e f
      | inr f ↦ elim c [
        | inl g ↦ absurd (hs (same_square h s (e ∙ g) f))
        | inr g ↦ absurd (hx (same_square h x e (f ∙ sym g)))
      ]
    ]
    | inr e ↦ elim b [
      | inl f ↦ elim c [
        | inl g ↦ absurd (hx (same_square h x (f ∙ sym g) e))
        | inr g ↦ absurd (hs (same_square h s f (e ∙ g)))
      ]
      | inr f ↦ on_rank e f
    ]
  ]

  bishop_one : OnOneDiagonal h x → OnOneDiagonal h s → OnOneDiagonal x s → OneBetween x s h
  unfolding IsBetween
  bishop_one a b c =
      let a' : OnOneDiagonal x h = turn_diagonal h x a in
      let b' : OnOneDiagonal s h = turn_diagonal h s b in
      let c' : OnOneDiagonal s x = turn_diagonal x s c in
      elim (three (file x) (file s) (file h)) [
        | inl r ↦ inl (λ i. xs (sym i), λ i. hs (sym i), r, sums _ _ _ _ _ _ c b' a' r, inr (c, a'))
        | inr y ↦ elim y [
          | inl r ↦ inr (inl (xs, λ i. hx (sym i), r, sums _ _ _ _ _ _ c' a' b' r, inr (c', b')))
          | inr r ↦ inr (inr (hx, hs, r, sums _ _ _ _ _ _ a' b c r, inr (a', c)))
        ]
      ]
    where
      turn : (a b : ℕ) → apart a b ≡ apart b a
      turn a b = omega arith

      turn_diagonal : (r s : ℕ) → OnOneDiagonal r s → OnOneDiagonal s r
      turn_diagonal r s e = turn (file s) (file r) ∙ e ∙ turn (rank r) (rank s)

      sums : (a b c d e f : ℕ) → a ≡ d → b ≡ e → c ≡ f → a + b ≡ c → d + e ≡ f
      sums a b c d e f p q r s = omega arith

-- ---- the squares that both ends of an attack along a line see
module _ (b : Placement) (f : Color) (k : Kind) (slides : IsLineKind k) (h x s : ℕ) where
  one_between : InPattern f k h x → InPattern f k h s → InPattern f k x s → OneBetween x s h
  unfolding InPattern
  one_between p q r = elim slides [
    | inl e ↦ as_rook (subst (λ (j : Kind). InPattern f j h x) e p) (subst (λ (j : Kind). InPattern f j h s) e q) (subst (λ (j : Kind). InPattern f j x s) e r)
    | inr e ↦ as_bishop (subst (λ (j : Kind). InPattern f j h x) e p) (subst (λ (j : Kind). InPattern f j h s) e q) (subst (λ (j : Kind). InPattern f j x s) e r)
  ]
    where
      as_rook : InPattern f Rook h x → InPattern f Rook h s → InPattern f Rook x s → OneBetween x s h
      as_rook p q r = rook_one x s h r.0 q.0 p.0 p.1 q.1 r.1

      as_bishop : InPattern f Bishop h x → InPattern f Bishop h s → InPattern f Bishop x s → OneBetween x s h
      as_bishop p q r = bishop_one x s h r.0 q.0 p.0 p.1 q.1 r.1

  pub met_between : x < 64 → h < 64 → get b x ≢ None → get b h ≢ None → Reaches b f k h x → Reaches b f k h s → Reaches b f k x s → IsBetween x s h
  unfolding IsClear
  met_between low on there here p q r = elim (one_between p.0 q.0 r.0) [
    | inl w ↦ w
    | inr y ↦ elim y [
      | inl w ↦ absurd (there (q.1 x low (between_turn s x h w)))
      | inr w ↦ absurd (here (r.1 h on w))
    ]
  ]

  within : (u v w : ℕ) → InPattern f k w u → IsBetween u v w → InPattern f k w v
  within u v w p bet = elim slides [
    | inl e ↦ subst (λ (j : Kind). InPattern f j w v) (sym e) (rook_within f u v w (subst (λ (j : Kind). InPattern f j w u) e p) bet)
    | inr e ↦ subst (λ (j : Kind). InPattern f j w v) (sym e) (bishop_within f u v w (subst (λ (j : Kind). InPattern f j w u) e p) bet)
  ]

  pub turned : (u v : ℕ) → InPattern f k u v → InPattern f k v u
  unfolding InPattern
  turned u v p = elim slides [
    | inl e ↦ subst (λ (j : Kind). InPattern f j v u) (sym e) (as_rook (subst (λ (j : Kind). InPattern f j u v) e p))
    | inr e ↦ subst (λ (j : Kind). InPattern f j v u) (sym e) (as_bishop (subst (λ (j : Kind). InPattern f j u v) e p))
  ]
    where
      as_rook : InPattern f Rook u v → InPattern f Rook v u
      as_rook (n, l) = (λ e. n (sym e), elim l [ inl e ↦ inl (sym e) | inr e ↦ inr (sym e) ])

      as_bishop : InPattern f Bishop u v → InPattern f Bishop v u
      as_bishop (n, l) = (λ e. n (sym e), omega arith)

  pub between_met : Reaches b f k h x → IsBetween x s h → Reaches b f k h s × Reaches b f k x s
  unfolding IsClear
  between_met (p, clear) bet = (
    (within x s h p bet, λ t l near. clear t l (between_turn x t h (between_more x s h t bet near))),
    (within h s x (turned h x p) (between_turn x s h bet), λ t l near. clear t l (between_more h s x t (between_turn x s h bet) near)),
  )

-- ---- a walk over the men that attack
pub record KeptTo (b : Placement) (f : Color) (h attackers at kept : ℕ) : Type 0 where
  pub vain : (s : ℕ) → s < 64 → has kept s ≡ false → StaysAttacked b f h s
  pub safe : (s : ℕ) → s < 64 → has kept s ≡ true → (x : ℕ) → x < at → has attackers x ≡ true → (x ≡ s) ⊎ IsBetween x s h

pub kept_on : (b : Placement) (f : Color) (h attackers at kept one next a after : ℕ) → KeptTo b f h attackers at kept → IsFirstFrom attackers at a
    → ((s : ℕ) → s < 64 → has one s ≡ false → StaysAttacked b f h s)
    → ((s : ℕ) → s < 64 → has one s ≡ true → (a ≡ s) ⊎ IsBetween a s h)
    → ((q : ℕ) → has next q ≡ has kept q && has one q) → after ≡ a + 1 → KeptTo b f h attackers after next
kept_on b f h attackers at kept one next a after k first lost won both end = record {
  vain = λ s l e. off_both (has kept s) (has one s) (k.vain s l) (lost s l) (sym (both s) ∙ e);
  safe = λ s l e x low on. (let (p, q) = and_true (has kept s) (has one s) (sym (both s) ∙ e) in
      elim (cases_lt x at) [
        | inl u ↦ k.safe s l p x u on
        | inr u ↦ elim (cases_lt x a) [
          | inl v ↦ absurd (let off : has attackers x ≡ false = first.before x u v in cc)
          | inr v ↦ (let same : a ≡ x = omega arith in subst (λ y. (y ≡ s) ⊎ IsBetween y s h) same (won s l q))
        ]
      ]);
}

pub kept_end : (b : Placement) (f : Color) (h attackers at kept : ℕ) (A : ℕ → Type 0) → KeptTo b f h attackers at kept → HasNoneFrom attackers at → IsSetOf attackers A → AreParries b f h A kept
kept_end b f h attackers at kept A k none are = record {
  vain = k.vain;
  safe = λ s l e x low a. (let on : has attackers x ≡ true = (are x low).1 a in
      elim (cases_lt x at) [
        | inl u ↦ k.safe s l e x u on
        | inr u ↦ absurd (let off : has attackers x ≡ false = none x u low in cc)
      ]);
}

pub men_are : (b : Placement) (f : Color) (j : Kind) (men : ℕ) → ((q : ℕ) → q < 64 → has men q ≡ is_man (man f j) (get b q)) → IsSetOf men (λ q. get b q ≡ Some (man f j))
men_are b f j men are q l = Decides-at _ _ (are q l) (is_man_decides (man f j) (get b q))

pub clear_turn : (b : Placement) (r s : ℕ) → IsClear b r s → IsClear b s r
unfolding IsClear
clear_turn b r s c t l bet = c t l (between_turn s t r bet)

-- along a line
module _ (b : Placement) (f : Color) (k : Kind) (slides : IsLineKind k) (h seen own queens men attackers : ℕ) (on : h < 64) (here : get b h ≢ None) (sees : IsSetOf seen (Reaches b f k h)) (are : (q : ℕ) → q < 64 → has own q ≡ is_man (man f k) (get b q)) (reign : (q : ℕ) → q < 64 → has queens q ≡ is_man (man f Queen) (get b q)) (either : (q : ℕ) → has men q ≡ has own q || has queens q) (found : (q : ℕ) → has attackers q ≡ has seen q && has men q) where
  pub line_attackers : IsSetOf attackers (IsLineAttacker b f k h)
  line_attackers = set_of_both attackers seen men found sees (set_of_union men own queens either (men_are b f k own are) (men_are b f Queen queens reign))

  as_queen : (x : ℕ) → InPattern f k x h → InPattern f Queen x h
  unfolding InPattern
  as_queen x p = elim slides [
    | inl e ↦ of_rook (subst (λ (j : Kind). InPattern f j x h) e p)
    | inr e ↦ of_bishop (subst (λ (j : Kind). InPattern f j x h) e p)
  ]
    where
      of_rook : InPattern f Rook x h → InPattern f Queen x h
      of_rook (n, l) = (n, inl l)

      of_bishop : InPattern f Bishop x h → InPattern f Queen x h
      of_bishop (n, l) = (n, inr l)

  module _ (a line between single one : ℕ) (low : a < 64) (is : has attackers a ≡ true) (back : IsSetOf line (Reaches b f k a)) (both : (q : ℕ) → has between q ≡ has seen q && has line q) (alone : IsSetOf single (λ q. q ≡ a)) (each : (q : ℕ) → has one q ≡ has between q || has single q) where
    one_is : IsSetOf one (λ s. (Reaches b f k h s × Reaches b f k a s) ⊎ (s ≡ a))
    one_is = set_of_union one between single each (set_of_both between seen line both sees back) alone

    attacker : IsLineAttacker b f k h a
    attacker = (line_attackers a low).0 is

    attacks : AttacksFrom b f a h
    unfolding AttacksFrom
    attacks = let p : InPattern f k a h = turned b f k slides h a a h a attacker.0.0 in
        let c : IsClear b a h = clear_turn b h a attacker.0.1 in
        elim attacker.1 [ inl at ↦ (k, at, (p, c)) | inr at ↦ (Queen, at, (as_queen a p, c)) ]

    there : get b a ≢ None
    there none = elim attacker.1 [ inl at ↦ (cc) | inr at ↦ (cc) ]

    pub line_vain : (s : ℕ) → s < 64 → has one s ≡ false → StaysAttacked b f h s
    unfolding StaysAttacked
    line_vain s l off = (
      a,
      low,
      attacks,
      λ e. (let in_set : has one s ≡ true = (one_is s l).1 (inr (sym e)) in cc),
      λ bet. (let in_set : has one s ≡ true = (one_is s l).1 (inl (between_met b f k slides h a s attacker.0 bet)) in cc),
    )

    pub line_safe : (s : ℕ) → s < 64 → has one s ≡ true → (a ≡ s) ⊎ IsBetween a s h
    line_safe s l e = elim ((one_is s l).0 e) [
      | inl r ↦ inr (met_between b f k slides h a s low on there here attacker.0 r.0 r.1)
      | inr same ↦ inl (sym same)
    ]

-- by one step
step_near : (f : Color) (k : Kind) → IsStepKind k → (r t s : ℕ) → InPattern f k r s → ¬ IsBetween r t s
step_near f k steps r t s p = elim steps [
  | inl e ↦ pawn_near f r t s (subst (λ (j : Kind). InPattern f j r s) e p)
  | inr y ↦ elim y [
    | inl e ↦ knight_near f r t s (subst (λ (j : Kind). InPattern f j r s) e p)
    | inr e ↦ king_near f r t s (subst (λ (j : Kind). InPattern f j r s) e p)
  ]
]

pawn_back : (c : Color) (r s : ℕ) → InPattern (other c) Pawn s r → InPattern c Pawn r s
unfolding InPattern
pawn_back White r s (x, y) = (omega arith, omega arith)
pawn_back Black r s (x, y) = (omega arith, omega arith)

pawn_forth : (c : Color) (r s : ℕ) → InPattern c Pawn r s → InPattern (other c) Pawn s r
unfolding InPattern
pawn_forth White r s (x, y) = (omega arith, omega arith)
pawn_forth Black r s (x, y) = (omega arith, omega arith)

knight_turn : (c d : Color) (r s : ℕ) → InPattern c Knight r s → InPattern d Knight s r
unfolding InPattern
knight_turn c d r s p = elim p [ inl (x, y) ↦ inl (omega arith, omega arith) | inr (x, y) ↦ inr (omega arith, omega arith) ]

king_turn : (c d : Color) (r s : ℕ) → InPattern c King r s → InPattern d King s r
unfolding InPattern
king_turn c d r s (n, x, y) = (omega arith, omega arith, omega arith)

step_back : (f : Color) (k : Kind) → IsStepKind k → (h x : ℕ) → InPattern (other f) k h x → InPattern f k x h
step_back f k steps h x p = elim steps [
  | inl e ↦ subst (λ (j : Kind). InPattern f j x h) (sym e) (pawn_back f x h (subst (λ (j : Kind). InPattern (other f) j h x) e p))
  | inr y ↦ elim y [
    | inl e ↦ subst (λ (j : Kind). InPattern f j x h) (sym e) (knight_turn (other f) f h x (subst (λ (j : Kind). InPattern (other f) j h x) e p))
    | inr e ↦ subst (λ (j : Kind). InPattern f j x h) (sym e) (king_turn (other f) f h x (subst (λ (j : Kind). InPattern (other f) j h x) e p))
  ]
]

module _ (b : Placement) (f : Color) (k : Kind) (steps : IsStepKind k) (h seen men attackers : ℕ) (sees : IsSetOf seen (Reaches b (other f) k h)) (are : (q : ℕ) → q < 64 → has men q ≡ is_man (man f k) (get b q)) (found : (q : ℕ) → has attackers q ≡ has seen q && has men q) where
  pub step_attackers : IsSetOf attackers (IsStepAttacker b f k h)
  step_attackers = set_of_both attackers seen men found sees (men_are b f k men are)

  module _ (a single : ℕ) (low : a < 64) (is : has attackers a ≡ true) (alone : IsSetOf single (λ q. q ≡ a)) where
    pub step_vain : (s : ℕ) → s < 64 → has single s ≡ false → StaysAttacked b f h s
    unfolding StaysAttacked AttacksFrom
    step_vain s l off =
        let attacker : IsStepAttacker b f k h a = (step_attackers a low).0 is in
        let p : InPattern f k a h = step_back f k steps h a attacker.0.0 in (
          a,
          low,
          (k, attacker.1, (p, clear_turn b h a attacker.0.1)),
          λ e. (let in_set : has single s ≡ true = (alone s l).1 (sym e) in cc),
          step_near f k steps a s h p,
        )

    pub step_safe : (s : ℕ) → s < 64 → has single s ≡ true → (a ≡ s) ⊎ IsBetween a s h
    step_safe s l e = inl (sym ((alone s l).0 e))

-- ---- all at once
pub both_parries : (b : Placement) (f : Color) (h : ℕ) (A B : ℕ → Type 0) (x y n : ℕ) → AreParries b f h A x → AreParries b f h B y → ((q : ℕ) → has n q ≡ has x q && has y q) → AreParries b f h (λ q. A q ⊎ B q) n
both_parries b f h A B x y n p q both = record {
  vain = λ s l e. off_both (has x s) (has y s) (p.vain s l) (q.vain s l) (sym (both s) ∙ e);
  safe = λ s l e u low z. (let (g, k) = and_true (has x s) (has y s) (sym (both s) ∙ e) in elim z [ inl a ↦ p.safe s l g u low a | inr a ↦ q.safe s l k u low a ]);
}

abbrev pub EachAttacker : Placement → Color → ℕ → ℕ → Type 0
EachAttacker b f h x = (((IsLineAttacker b f Rook h x ⊎ IsLineAttacker b f Bishop h x) ⊎ IsStepAttacker b f Knight h x) ⊎ IsStepAttacker b f Pawn h x) ⊎ IsStepAttacker b f King h x

each_attacker : (b : Placement) (f : Color) (h x : ℕ) → AttacksFrom b f x h → EachAttacker b f h x
unfolding AttacksFrom InPattern
each_attacker b f h x (j, at, (p, c)) =
    let clear : IsClear b h x = clear_turn b x h c in
    let held : (k : Kind) → j ≡ k → get b x ≡ Some (man f k) = (λ k e. at ∙ ap (λ (y : Kind). Some (man f y)) e) in
    let pattern : (k : Kind) → j ≡ k → InPattern f k x h = (λ k e. subst (λ (y : Kind). InPattern f y x h) e p) in
    elim j as (λ k. j ≡ k → EachAttacker b f h x) [
      | Pawn ↦ λ e. inl (inr ((pawn_forth f x h (pattern Pawn e), clear), held Pawn e))
      | Knight ↦ λ e. inl (inl (inr ((knight_turn f (other f) x h (pattern Knight e), clear), held Knight e)))
      | Bishop ↦ λ e. inl (inl (inl (inr ((turned b f Bishop (inr refl) h x x x h (pattern Bishop e), clear), inl (held Bishop e)))))
      | Rook ↦ λ e. inl (inl (inl (inl ((turned b f Rook (inl refl) h x x x h (pattern Rook e), clear), inl (held Rook e)))))
      | Queen ↦ λ e. queen clear (held Queen e) (pattern Queen e)
      | King ↦ λ e. inr ((king_turn f (other f) x h (pattern King e), clear), held King e)
    ] refl
  where
    queen : IsClear b h x → get b x ≡ Some (man f Queen) → InPattern f Queen x h → EachAttacker b f h x
    queen clear at (n, l) = elim l [
      | inl o ↦ inl (inl (inl (inl ((turned b f Rook (inl refl) h x x x h (n, o), clear), inr at))))
      | inr o ↦ inl (inl (inl (inr ((turned b f Bishop (inr refl) h x x x h (n, o), clear), inr at))))
    ]

pub all_attackers : (b : Placement) (f : Color) (h n : ℕ) → AreParries b f h (EachAttacker b f h) n → AreParries b f h (λ x. AttacksFrom b f x h) n
all_attackers b f h n p = record { vain = p.vain; safe = λ s l e x low a. p.safe s l e x low (each_attacker b f h x a) }
