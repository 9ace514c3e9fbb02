-- The least of the values of the ways is the need.
use Rattle.std.proofs.Common.{◌≡◌, ℕ, ◌<◌, ◌≤◌, ◌⊎◌, inl, inr, Option, Some, None, true, min, subst, arith}
use Rattle.std.proofs.lemmas.Bool.Decides.{leb_tells}
use Rattle.pg_board.specs.declared.man.Color.{Color}
use Rattle.pg_position.specs.declared.rights.Wing.{Wing}
use Rattle.pg_position.specs.declared.rights.Wing.TheVariants.{KingSide, QueenSide}
use Rattle.pg_board.specs.Placement.{Placement}
use Rattle.pg_position.specs.declared.state.State.{State}
use Rattle.pg_position.specs.Position.{holds}
use Rattle.pg_travel.specs.Walks.{IsLeast}
use Rattle.pg_captures.specs.Owed.{plies_left}
use Rattle.pg_travel.specs.Origins.{IsWayOf}
use Rattle.pg_travel.specs.Needs.{HasValue, IsValue, TravelTest, NeedIs, ValueIs, HeldIs, lesser}
use Rattle.pg_travel.specs.lemmas.NeedLemmas.{one_value}

abbrev Best : (ℕ → Type 0) → Option ℕ → Type 0
Best P None = (v : ℕ) → ¬ P v
Best P (Some v) = IsLeast P v

lesser_best : (P Q : ℕ → Type 0) (a b : Option ℕ) → Best P a → Best Q b → Best (λ v. P v ⊎ Q v) (lesser a b)
lesser_best P Q None None f g = λ v h. elim h [ inl x ↦ f v x | inr y ↦ g v y ]
lesser_best P Q None (Some y) f g = (inr g.0, λ m h. elim h [ inl x ↦ absurd (f m x) | inr z ↦ g.1 m z ])
lesser_best P Q (Some x) None f g = (inl f.0, λ m h. elim h [ inl z ↦ f.1 m z | inr z ↦ absurd (g m z) ])
lesser_best P Q (Some x) (Some y) f g = (which, λ m h. elim h [ inl z ↦ (let a : x ≤ m = f.1 m z in omega arith) | inr z ↦ (let a : y ≤ m = g.1 m z in omega arith) ])
  where
    which : P (min x y) ⊎ Q (min x y)
    which = elim (leb_tells x y) [
      | inl w ↦ (let e : x ≡ min x y = (let l : x ≤ y = w.1 in omega arith) in inl (subst P e f.0))
      | inr w ↦ (let e : y ≡ min x y = (let l : y < x = w.1 in omega arith) in inr (subst Q e g.0))
    ]

best_along : (P Q : ℕ → Type 0) (o : Option ℕ) → ((v : ℕ) → P v → Q v) → ((v : ℕ) → Q v → P v) → Best P o → Best Q o
best_along P Q None f g h = λ v q. h v (g v q)
best_along P Q (Some v) f g h = (f v h.0, λ m q. h.1 m (g m q))

abbrev Of : State → Placement → Color → Option Wing → ℕ → Type 0
Of p d c way v = IsWayOf p c way × IsValue d p c way v

held_best : (p : State) (d : Placement) (c : Color) (way : Option Wing) (o : Option ℕ) → HeldIs d p c way o → Best (Of p d c way) o
held_best p d c way None h = λ v q. h v q.0 q.1
held_best p d c way (Some v) h = (h, λ m q. (let e : v ≡ m = one_value p d c way v m h.1 q.1 in omega arith))

free_best : (p : State) (d : Placement) (c : Color) (o : Option ℕ) → ValueIs d p c None o → Best (Of p d c None) o
free_best p d c None h = λ v q. h v q.1
free_best p d c (Some v) h = ((tt, h), λ m q. (let e : v ≡ m = one_value p d c None v m h q.1 in omega arith))

abbrev Any3 : State → Placement → Color → ℕ → Type 0
Any3 p d c v = Of p d c None v ⊎ (Of p d c (Some KingSide) v ⊎ Of p d c (Some QueenSide) v)

out : (p : State) (d : Placement) (c : Color) (v : ℕ) → Any3 p d c v → HasValue d p c v
out p d c v (inl h) = (None, h.0, h.1)
out p d c v (inr (inl h)) = (Some KingSide, h.0, h.1)
out p d c v (inr (inr h)) = (Some QueenSide, h.0, h.1)

back : (p : State) (d : Placement) (c : Color) (v : ℕ) → HasValue d p c v → Any3 p d c v
back p d c v (None, a, b) = inl (a, b)
back p d c v (Some KingSide, a, b) = inr (inl (a, b))
back p d c v (Some QueenSide, a, b) = inr (inr (a, b))

best_need : (p : State) (d : Placement) (c : Color) (o : Option ℕ) → Best (HasValue d p c) o → NeedIs d p c o
best_need p d c None h = h
best_need p d c (Some n) h = h

pub need_is : (p : State) (d : Placement) (c : Color) (a k q : Option ℕ) → ValueIs d p c None a → HeldIs d p c (Some KingSide) k → HeldIs d p c (Some QueenSide) q → NeedIs d p c (lesser a (lesser k q))
need_is p d c a k q ha hk hq =
    best_need p d c (lesser a (lesser k q))
    (best_along (Any3 p d c) (HasValue d p c) (lesser a (lesser k q)) (out p d c) (back p d c)
    (lesser_best (Of p d c None) (λ v. Of p d c (Some KingSide) v ⊎ Of p d c (Some QueenSide) v) a (lesser k q) (free_best p d c a ha)
    (lesser_best (Of p d c (Some KingSide)) (Of p d c (Some QueenSide)) k q (held_best p d c (Some KingSide) k hk) (held_best p d c (Some QueenSide) q hq))))

-- the test, from the need
pub test_none : (p : State) (d : Placement) (c : Color) (k : ℕ) → NeedIs d p c None → TravelTest d p k c
test_none p d c k h = inl h

pub test_some : (p : State) (d : Placement) (c : Color) (k n : ℕ) → NeedIs d p c (Some n) → (TravelTest d p k c → plies_left p.side c k < n) × (plies_left p.side c k < n → TravelTest d p k c)
test_some p d c k n h = (
  λ t. elim t [
    | inl none ↦ absurd (none n h.0)
    | inr m ↦ (let a : n ≤ m.0 = h.1 m.0 m.1.0 in let b : m.0 ≤ n = m.1.1 n h.0 in let l : plies_left p.side c k < m.0 = m.2 in omega arith)
  ],
  λ low. inr (n, h, low),
)

pub held_by_value : (p : State) (d : Placement) (c : Color) (w : Wing) (o : Option ℕ) → holds p.rights c w ≡ true → ValueIs d p c (Some w) o → HeldIs d p c (Some w) o
held_by_value p d c w None e h = λ v held value. h v value
held_by_value p d c w (Some v) e h = (e, h)
