-- What tests of the position before a legal move tell of the position after it.
use Rattle.pg_captures.proofs.Common.{◌≡◌, ℕ, ◌+◌, ◌<◌, ◌⊎◌, ◌↔◌, inl, inr, Some, Bool, true, false, IsTrue, refl, sym, ap, subst, ◌∙◌, Color, Kind, has, man, other, is_of, Placement, get, men, any_man, plies_left, victims, CapturesFor, CapturesHolds, own_left}
use Rattle.std.specs.Bool.{Decides}
use Rattle.pg_board.specs.declared.man.Color.TheVariants.{White, Black}
use Rattle.pg_board.specs.lemmas.Equalities.{of_decides}
use Rattle.pg_position.specs.declared.state.State.{State}
use Rattle.pg_position.specs.declared.moves.Move.{Move}
use Rattle.pg_position.specs.Position.{IsPosition}
use Rattle.pg_position.specs.Step.{IsEnemy, Legal}
use Rattle.pg_captures.specs.lemmas.OwedLemmas.{mismatched, from_mismatched}
use Rattle.pg_captures.specs.lemmas.MoveLemmas.{side_step}

-- ---- what stands on a square
pub enemy_told : (b there : Placement) (c side theirs : Color) (n s : ℕ) (r : Bool) → there ≡ b → side ≡ c → theirs ≡ other side → ((q : ℕ) → q < 64 → has n q ≡ is_of theirs (get there q)) → r ≡ has n s → s < 64 → IsTrue r ↔ IsEnemy b c s
unfolding IsEnemy
enemy_told b there c side theirs n s r eb ec et set is low =
    let color : theirs ≡ other c = et ∙ ap other ec in
    let e : r ≡ is_of (other c) (get b s) = is ∙ set s low ∙ (λ i. is_of (color i) (get (eb i) s)) in
    let d : Decides (is_of (other c) (get b s)) ((k : Kind) × (get b s ≡ Some (man (other c) k))) = of_decides (other c) (get b s) in
    (λ t. d.0 (sym e ∙ t), λ x. e ∙ d.1 x)

-- ---- the captures owed
-- fewer than none, or more than `plies`
abbrev pub Off : ℕ → ℕ → ℕ → Type 0
Off here there plies = (here < there) ⊎ (plies + there < here)

pub off_like : (r : Bool) (x y z u v w : ℕ) → x ≡ u → y ≡ v → z ≡ w → IsTrue r ↔ Off x y z → IsTrue r ↔ Off u v w
off_like r x y z u v w ex ey ez h = subst (λ (t : ℕ). IsTrue r ↔ Off t v w) ex (subst (λ (t : ℕ). IsTrue r ↔ Off x t w) ey (subst (λ (t : ℕ). IsTrue r ↔ Off x y t) ez h))

which : (c s : Color) → (c ≡ s) ⊎ (c ≡ other s)
which White White = inl refl
which White Black = inr refl
which Black White = inr refl
which Black Black = inl refl

same_men : (c : Color) (b a : Placement) → men c any_man a ≡ men c any_man b → victims (other c) b ≡ victims (other c) a
same_men White b a e = sym e
same_men Black b a e = sym e

module _ (d : Placement) (p : State) (m : Move) (k here own : ℕ) where
  abbrev pub Mine : Type 0
  Mine = Off here (victims p.side d) (plies_left (other p.side) p.side k)

  abbrev pub Theirs : Type 0
  Theirs = Off own (victims (other p.side) d) (plies_left (other p.side) (other p.side) k)

  abbrev pub Are : Type 0
  Are = IsPosition p × ((q : State) → Legal p m q → here ≡ victims p.side q.board) × (own ≡ victims (other p.side) p.board)

  -- the test of the position after the move
  for_mine : Are → (q : State) → Legal p m q → Mine ↔ CapturesFor d q.board q.side k p.side
  for_mine (valid, heres, owns) q legal =
      let e : Off here (victims p.side d) (plies_left (other p.side) p.side k) ≡ Off (victims p.side q.board) (victims p.side d) (plies_left q.side p.side k) = (λ i. Off (heres q legal i) (victims p.side d) (plies_left (sym (side_step p q m legal.0) i) p.side k)) in
      (λ h. from_mismatched d q.board q.side k p.side (rw (← e) h), λ h. rw e (mismatched d q.board q.side k p.side h))

  for_theirs : Are → (q : State) → Legal p m q → Theirs ↔ CapturesFor d q.board q.side k (other p.side)
  for_theirs (valid, heres, owns) q legal =
      let same : own ≡ victims (other p.side) q.board = owns ∙ same_men p.side p.board q.board (own_left p m q valid legal) in
      let e : Off own (victims (other p.side) d) (plies_left (other p.side) (other p.side) k) ≡ Off (victims (other p.side) q.board) (victims (other p.side) d) (plies_left q.side (other p.side) k) = (λ i. Off (same i) (victims (other p.side) d) (plies_left (sym (side_step p q m legal.0) i) (other p.side) k)) in
      (λ h. from_mismatched d q.board q.side k (other p.side) (rw (← e) h), λ h. rw e (mismatched d q.board q.side k (other p.side) h))

  holds : Are → (q : State) → Legal p m q → (Mine ⊎ Theirs) ↔ CapturesHolds d q k
  unfolding CapturesHolds
  holds are q legal = (
    λ h. elim h [ inl x ↦ (p.side, (for_mine are q legal).0 x) | inr x ↦ (other p.side, (for_theirs are q legal).0 x) ],
    λ h. elim (which h.0 p.side) [
      | inl e ↦ inl ((for_mine are q legal).1 (subst (λ (c : Color). CapturesFor d q.board q.side k c) e h.1))
      | inr e ↦ inr ((for_theirs are q legal).1 (subst (λ (c : Color). CapturesFor d q.board q.side k c) e h.1))
    ],
  )

  pub mine_told : (r : Bool) → Are → r ≡ true → IsTrue r ↔ Mine → (q : State) → Legal p m q → IsTrue r ↔ CapturesHolds d q k
  mine_told r are it h q legal = (λ t. (holds are q legal).0 (inl (h.0 t)), λ _. it)

  pub theirs_told : (first r : Bool) → Are → first ≡ false → IsTrue first ↔ Mine → IsTrue r ↔ Theirs → (q : State) → Legal p m q → IsTrue r ↔ CapturesHolds d q k
  theirs_told first r are it f h q legal = (λ t. (holds are q legal).0 (inr (h.0 t)), λ x. elim ((holds are q legal).1 x) [ inl y ↦ absurd (let t : first ≡ true = f.1 y in cc) | inr y ↦ h.1 y ])
