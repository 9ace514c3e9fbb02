-- Sums over the men of a colour, before and after one of them moves, is captured, or castles.
use Rattle.std.proofs.Common.{◌≡◌, ◌≢◌, ℕ, ◌+◌, ◌<◌, ◌⊎◌, inl, inr, Bool, true, false, cond, refl, sym, ap, arith, ◌∙◌}
use Rattle.std.proofs.lemmas.Bool.Decides.{eqb_tells}
use Rattle.pg_board.specs.declared.man.Color.{Color}
use Rattle.pg_board.specs.declared.man.Kind.{Kind}
use Rattle.pg_board.specs.declared.man.Kind.TheVariants.{Rook, King}
use Rattle.pg_board.specs.Tally.{total}
use Rattle.pg_board.specs.Placement.{Placement}
use Rattle.pg_board.specs.lemmas.Sums.{total_same, total_changed}
use Rattle.pg_position.specs.Position.{Stands}
use Rattle.pg_captures.specs.Counting.{any_man, is_there, on, sum_over}
use Rattle.pg_travel.specs.lemmas.SumLemmas.{there_man, man_there}
use Rattle.pg_journeys.specs.lemmas.Updates.{put_at, put_here, put_there}

-- ---- one square
-- a man stands there and counts, or none does and nothing counts
Counts : Color → Placement → (ℕ → ℕ) → ℕ → Type 0
Counts c b f x =
    ((i : Kind) × Stands b c i x × (on (is_there c any_man b) f x ≡ f x))
    ⊎ (((i : Kind) → Stands b c i x → ⊥) × (on (is_there c any_man b) f x ≡ 0))

counts : (c : Color) (b : Placement) (f : ℕ → ℕ) (x : ℕ) → Counts c b f x
unfolding Counts
counts c b f x = go (is_there c any_man b x) refl
  where
    go : (t : Bool) → is_there c any_man b x ≡ t → Counts c b f x
    go true e = (let m : (j : Kind) × Stands b c j x = there_man c b x e in inl (m.0, m.1, ap (λ (t : Bool). cond t (f x) 0) e))
    go false e = inr (λ i h. (let y : true ≡ false = sym (man_there c b i x h) ∙ e in cc), ap (λ (t : Bool). cond t (f x) 0) e)

pub at_man : (c : Color) (b : Placement) (f : ℕ → ℕ) (i : Kind) (x : ℕ) → Stands b c i x → on (is_there c any_man b) f x ≡ f x
at_man c b f i x h = ap (λ (t : Bool). cond t (f x) 0) (man_there c b i x h)

pub at_none : (c : Color) (b : Placement) (f : ℕ → ℕ) (x : ℕ) → ((i : Kind) → Stands b c i x → ⊥) → on (is_there c any_man b) f x ≡ 0
unfolding Counts
at_none c b f x none = elim (counts c b f x) [ inl h ↦ absurd (none h.0 h.1) | inr h ↦ h.1 ]

same_value : (c : Color) (b a : Placement) (f g : ℕ → ℕ) (x : ℕ) → ((i : Kind) → Stands b c i x → Stands a c i x × (f x ≡ g x)) → ((i : Kind) → Stands a c i x → Stands b c i x) →
    on (is_there c any_man b) f x ≡ on (is_there c any_man a) g x
unfolding Counts
same_value c b a f g x forth back =
    elim (counts c b f x) [
      | inl h ↦ (let q : Stands a c h.0 x × (f x ≡ g x) = forth h.0 h.1 in h.2 ∙ q.1 ∙ sym (at_man c a g h.0 x q.0))
      | inr h ↦ h.1 ∙ sym (at_none c a g x (λ i st. h.0 i (back i st)))
    ]

-- ---- all squares
-- numbers that differ on two squares alone
two_changed : (u v : ℕ → ℕ) (r s : ℕ) → r < 64 → s < 64 → r ≢ s → ((t : ℕ) → t < 64 → t ≢ r → t ≢ s → u t ≡ v t) → total u 64 + (v r + v s) ≡ total v 64 + (u r + u s)
two_changed u v r s lr ls ne same =
    let a : total (put_at r (u r) v) 64 + v r ≡ total v 64 + put_at r (u r) v r = total_changed v (put_at r (u r) v) 64 r lr (λ t l n. put_there r (u r) v t n) in
    let b : total u 64 + put_at r (u r) v s ≡ total (put_at r (u r) v) 64 + u s =
    total_changed (put_at r (u r) v) u 64 s ls (λ t l n. elim (eqb_tells t r) [
      | inl z ↦ ap u z.1 ∙ sym (put_here r (u r) v t z.1)
      | inr z ↦ same t l z.1 n ∙ sym (put_there r (u r) v t z.1)
    ]) in
    let x : put_at r (u r) v r ≡ u r = put_here r (u r) v r refl in
    let y : put_at r (u r) v s ≡ v s = put_there r (u r) v s (λ e. ne (sym e)) in
    omega arith

-- nobody moved
pub same_sum : (c : Color) (b a : Placement) (f g : ℕ → ℕ) → ((i : Kind) (x : ℕ) → x < 64 → Stands b c i x → Stands a c i x × (f x ≡ g x)) → ((i : Kind) (x : ℕ) → x < 64 → Stands a c i x → Stands b c i x) →
    sum_over c any_man b f ≡ sum_over c any_man a g
same_sum c b a f g forth back =
    total_same (on (is_there c any_man a) g) (on (is_there c any_man b) f) 64 (λ t low. same_value c b a f g t (λ i h. forth i t low h) (λ i h. back i t low h))

-- the man on r is on s now
module _ (c : Color) (b a : Placement) (k j : Kind) (r s : ℕ) (lr : r < 64) (ls : s < 64) (stood : Stands b c k r) (stands : Stands a c j s) (kept : (i : Kind) (x : ℕ) → x < 64 → x ≢ r → Stands b c i x → (x ≢ s) × Stands a c i x) (others : (i : Kind) (x : ℕ) → x < 64 → x ≢ s → Stands a c i x → (x ≢ r) × Stands b c i x) (f g : ℕ → ℕ) (same : (i : Kind) (x : ℕ) → x < 64 → x ≢ r → Stands b c i x → f x ≡ g x) where
  elsewhere : (t : ℕ) → t < 64 → t ≢ r → t ≢ s → on (is_there c any_man b) f t ≡ on (is_there c any_man a) g t
  elsewhere t low nr ns = same_value c b a f g t (λ i h. ((kept i t low nr h).1, same i t low nr h)) (λ i h. (others i t low ns h).1)

  pub moved_sum : sum_over c any_man b f + g s ≡ sum_over c any_man a g + f r
  moved_sum =
      let from : on (is_there c any_man b) f r ≡ f r = at_man c b f k r stood in
      let to : on (is_there c any_man a) g s ≡ g s = at_man c a g j s stands in
      elim (eqb_tells r s) [
        | inl w ↦
            (let at : on (is_there c any_man a) g r ≡ g s = ap (on (is_there c any_man a) g) w.1 ∙ to in
            let e : total (on (is_there c any_man b) f) 64 + on (is_there c any_man a) g r ≡ total (on (is_there c any_man a) g) 64 + on (is_there c any_man b) f r =
            total_changed (on (is_there c any_man a) g) (on (is_there c any_man b) f) 64 r lr (λ t low ne. elsewhere t low ne (λ e. ne (e ∙ sym w.1))) in
            omega arith)
        | inr w ↦
            (let left : on (is_there c any_man a) g r ≡ 0 = at_none c a g r (λ i h. (others i r lr w.1 h).0 refl) in
            let free : on (is_there c any_man b) f s ≡ 0 = at_none c b f s (λ i h. (kept i s ls (λ e. w.1 (sym e)) h).0 refl) in
            let e : total (on (is_there c any_man b) f) 64 + (on (is_there c any_man a) g r + on (is_there c any_man a) g s) ≡ total (on (is_there c any_man a) g) 64 + (on (is_there c any_man b) f r + on (is_there c any_man b) f s) =
            two_changed (on (is_there c any_man b) f) (on (is_there c any_man a) g) r s lr ls w.1 elsewhere in
            omega arith)
      ]

-- the man on x is gone
pub gone_sum : (c : Color) (b a : Placement) (k : Kind) (x : ℕ) → x < 64 → Stands b c k x → ((i : Kind) → Stands a c i x → ⊥) → (f g : ℕ → ℕ) →
    ((i : Kind) (y : ℕ) → y < 64 → y ≢ x → Stands b c i y → Stands a c i y × (f y ≡ g y)) → ((i : Kind) (y : ℕ) → y < 64 → Stands a c i y → Stands b c i y) →
    sum_over c any_man b f ≡ sum_over c any_man a g + f x
gone_sum c b a k x low stood gone f g forth back =
    let e : total (on (is_there c any_man b) f) 64 + on (is_there c any_man a) g x ≡ total (on (is_there c any_man a) g) 64 + on (is_there c any_man b) f x =
    total_changed (on (is_there c any_man a) g) (on (is_there c any_man b) f) 64 x low (λ t l ne. same_value c b a f g t (λ i h. forth i t l ne h) (λ i h. back i t l h)) in
    let from : on (is_there c any_man b) f x ≡ f x = at_man c b f k x stood in
    let none : on (is_there c any_man a) g x ≡ 0 = at_none c a g x gone in
    omega arith

-- a king and a rook went from two squares to two others
pub record TwoWent (c : Color) (b a : Placement) (h r t w : ℕ) : Type 0 where
  pub king_low : h < 64
  pub rook_low : r < 64
  pub target_low : t < 64
  pub crossed_low : w < 64
  pub rook_king : r ≢ h
  pub target_king : t ≢ h
  pub crossed_king : w ≢ h
  pub target_rook : r ≢ t
  pub crossed_rook : r ≢ w
  pub apart : w ≢ t
  pub king : Stands b c King h
  pub rook : Stands b c Rook r
  pub king_now : Stands a c King t
  pub rook_now : Stands a c Rook w
  pub kept : (i : Kind) (x : ℕ) → x < 64 → x ≢ h → x ≢ r → Stands b c i x → (x ≢ t) × (x ≢ w) × Stands a c i x
  pub others : (i : Kind) (x : ℕ) → x < 64 → x ≢ t → x ≢ w → Stands a c i x → (x ≢ h) × (x ≢ r) × Stands b c i x

module _ (c : Color) (b a : Placement) (h r t w : ℕ) (two : TwoWent c b a h r t w) (f g : ℕ → ℕ) (at_king : f h ≡ g t) (at_rook : f r ≡ g w) (same : (i : Kind) (x : ℕ) → x < 64 → x ≢ h → x ≢ r → Stands b c i x → f x ≡ g x) where
  before : ℕ → ℕ
  before = on (is_there c any_man b) f

  after : ℕ → ℕ
  after = on (is_there c any_man a) g

  -- the king alone has gone
  between : ℕ → ℕ
  between = put_at h 0 (put_at t (f h) before)

  between_left : between h ≡ 0
  unfolding between
  between_left = put_here h 0 (put_at t (f h) before) h refl

  between_come : between t ≡ f h
  unfolding between
  between_come = put_there h 0 (put_at t (f h) before) t two.target_king ∙ put_here t (f h) before t refl

  between_off : (x : ℕ) → x ≢ h → x ≢ t → between x ≡ before x
  unfolding between
  between_off x nh nt = put_there h 0 (put_at t (f h) before) x nh ∙ put_there t (f h) before x nt

  empty_target : before t ≡ 0
  unfolding before
  empty_target = at_none c b f t (λ i st. (two.kept i t two.target_low two.target_king (λ e. two.target_rook (sym e)) st).0 refl)

  empty_crossed : before w ≡ 0
  unfolding before
  empty_crossed = at_none c b f w (λ i st. (two.kept i w two.crossed_low two.crossed_king (λ e. two.crossed_rook (sym e)) st).1 refl)

  left_king : after h ≡ 0
  unfolding after
  left_king = at_none c a g h (λ i st. (two.others i h two.king_low (λ e. two.target_king (sym e)) (λ e. two.crossed_king (sym e)) st).0 refl)

  left_rook : after r ≡ 0
  unfolding after
  left_rook = at_none c a g r (λ i st. (two.others i r two.rook_low two.target_rook two.crossed_rook st).1 refl)

  elsewhere_same : (x : ℕ) → x < 64 → x ≢ h → x ≢ r → x ≢ t → x ≢ w → before x ≡ after x
  unfolding before after
  elsewhere_same x low nh nr nt nw = same_value c b a f g x (λ i st. ((two.kept i x low nh nr st).2, same i x low nh nr st)) (λ i st. (two.others i x low nt nw st).2)

  king_counts : after t ≡ g t
  unfolding after
  king_counts = at_man c a g King t two.king_now

  second : (x : ℕ) → x < 64 → x ≢ r → x ≢ w → between x ≡ after x
  second x low nr nw =
      elim (eqb_tells x h) [
        | inl z ↦ ap between z.1 ∙ between_left ∙ sym (ap after z.1 ∙ left_king)
        | inr z ↦ elim (eqb_tells x t) [
          | inl y ↦ ap between y.1 ∙ between_come ∙ at_king ∙ sym (ap after y.1 ∙ king_counts)
          | inr y ↦ between_off x z.1 y.1 ∙ elsewhere_same x low z.1 nr y.1 nw
        ]
      ]

  pub carried_sum : sum_over c any_man b f ≡ sum_over c any_man a g
  unfolding before after
  carried_sum =
      let one : total before 64 + (between h + between t) ≡ total between 64 + (before h + before t) = two_changed before between h t two.king_low two.target_low (λ e. two.target_king (sym e)) (λ x low nh nt. sym (between_off x nh nt)) in
      let next : total between 64 + (after r + after w) ≡ total after 64 + (between r + between w) = two_changed between after r w two.rook_low two.crossed_low two.crossed_rook second in
      let king : before h ≡ f h = at_man c b f King h two.king in
      let rook : before r ≡ f r = at_man c b f Rook r two.rook in
      let rook_counts : after w ≡ g w = at_man c a g Rook w two.rook_now in
      let at_r : between r ≡ before r = between_off r two.rook_king two.target_rook in
      let at_w : between w ≡ before w = between_off w two.crossed_king two.apart in
      omega (arith, between_left, between_come, empty_target, empty_crossed, left_king, left_rook, at_king, at_rook)
