use Rattle.pg_board.proofs.Common.{◌≡◌, ℕ, zero, suc, ◌-◌, ◌*◌, ◌%◌, ◌^◌, ◌≤◌, eqb, refl, ap, ◌∙◌, arith, Decides-at, Decides-eqb, has, bits_below, has-bits_below, rank}
use Rattle.pg_board.proofs.square_set.SquareSet.of_rank.Goals as goal

rank_bits : (n : ℕ) → 1 ≤ n → n ≤ 8 → 255 * 2 ^ (8 * (n - 1)) % 2 ^ 64 ≡ bits_below (λ s. eqb (rank s) n) 64
unfolding bits_below
rank_bits zero l h = absurd (omega arith)
rank_bits (suc zero) l h = refl
rank_bits (suc (suc zero)) l h = refl
rank_bits (suc (suc (suc zero))) l h = refl
rank_bits (suc (suc (suc (suc zero)))) l h = refl
rank_bits (suc (suc (suc (suc (suc zero))))) l h = refl
rank_bits (suc (suc (suc (suc (suc (suc zero)))))) l h = refl
rank_bits (suc (suc (suc (suc (suc (suc (suc zero))))))) l h = refl
rank_bits (suc (suc (suc (suc (suc (suc (suc (suc zero)))))))) l h = refl
rank_bits (suc (suc (suc (suc (suc (suc (suc (suc (suc n))))))))) l h = absurd (omega arith)

pub returns-then-number-le8 : goal.returns-then-number-le8
returns-then-number-le8 c q l =
    let n : ℕ = c.args.number in
    Decides-at _ _ (ap (λ (x : ℕ). has x q) (rank_bits n (omega arith) (omega arith)) ∙ has-bits_below (λ s. eqb (rank s) n) 64 q l) (Decides-eqb (rank q) n)
