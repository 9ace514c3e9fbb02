-- Kings that are taken out of a set, the first each time, until one is attacked or none is left.
use Rattle.pg_position.proofs.Common.{◌≡◌, ◌≢◌, ℕ, ◌<◌, cond, eqb, eq-eqb, ne_eqb, true, false, ap, ◌∙◌, refl, arith, Color, King, other, Placement, has, IsFirstFrom, HasNoneFrom, one, count_below, Attacks, Stands, InCheck}
use Rattle.pg_board.specs.lemmas.Sums.{total_changed}

pub record AreLeft (b : Placement) (c : Color) (kings : ℕ) : Type 0 where
  pub kings_all : (q : ℕ) → q < 64 → has kings q ≡ true → Stands b c King q
  pub others_safe : (q : ℕ) → q < 64 → Stands b c King q → Attacks b (other c) q → has kings q ≡ true

-- one was taken out
abbrev pub IsWithout : ℕ → ℕ → ℕ → Type 0
IsWithout old new o = (q : ℕ) → q < 64 → has new q ≡ cond (eqb q o) false (has old q)

other_than : (old new o q : ℕ) → IsWithout old new o → q < 64 → q ≢ o → has new q ≡ has old q
other_than old new o q rest l ne = rest q l ∙ ap (λ t. cond t false (has old q)) (ne_eqb q o ne)

taken_itself : (old new o q : ℕ) → IsWithout old new o → q < 64 → q ≡ o → has new q ≡ false
taken_itself old new o q rest l e = rest q l ∙ ap (λ t. cond t false (has old q)) (eq-eqb q o e)

-- fewer are left
pub fewer : (old new o : ℕ) → IsFirstFrom old 0 o → IsWithout old new o → count_below (has new) 64 < count_below (has old) 64
fewer old new o is rest =
    let sums = total_changed (λ k. one (has old k)) (λ k. one (has new k)) 64 o is.on_board (λ t l ne. ap one (other_than old new o t rest l ne)) in
    let was : one (has old o) ≡ 1 = ap one is.member in
    let off : one (has new o) ≡ 0 = ap one (taken_itself old new o o rest is.on_board refl) in
    omega arith

pub king_hit : (b : Placement) (c : Color) (kings k : ℕ) → AreLeft b c kings → IsFirstFrom kings 0 k → Attacks b (other c) k → InCheck b c
unfolding InCheck
king_hit b c kings k left is hit = (k, is.on_board, left.kings_all k is.on_board is.member, hit)

pub none_hit : (b : Placement) (c : Color) (kings : ℕ) → AreLeft b c kings → HasNoneFrom kings 0 → ¬ InCheck b c
unfolding InCheck
none_hit b c kings left none (k, l, stands, hit) =
    let on : has kings k ≡ true = left.others_safe k l stands hit in
    let off : has kings k ≡ false = none k (omega arith) l in
    cc
