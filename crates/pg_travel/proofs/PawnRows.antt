-- The table of a pawn's distances is the formula. Leads to the contract of `pawn`.
use Rattle.pg_travel.proofs.Common.{◌≡◌, ℕ, ◌<◌, ◌≤◌, Bool, true, List, [], get_or, eqb, eqb-true, refl, sym, ap, arith, ◌∙◌, Color, White, Black, mirrored, pawn_steps, pawn, all_below, below_at}
use Rattle.pg_travel.specs.declared.pawn_table.TheConstants.{WHITE_PAWN}

abbrev at : List (List ℕ) → ℕ → ℕ → ℕ
at t i k = get_or (get_or t i []) k 0

-- the table gives a number for each two squares
unfoldable is_table : List (List ℕ) → (ℕ → ℕ) → (ℕ → ℕ → ℕ) → Bool
is_table t g f = all_below (λ r. all_below (λ s. eqb (at t (g r) (g s)) (f r s)) 64) 64

white_is : is_table WHITE_PAWN (λ s. s) (pawn White) ≡ true
unfolding is_table all_below pawn pawn_steps
white_is = refl

black_is : is_table WHITE_PAWN (λ s. mirrored s) (pawn Black) ≡ true
unfolding is_table all_below pawn pawn_steps
black_is = refl

entry : (t : List (List ℕ)) (g : ℕ → ℕ) (f : ℕ → ℕ → ℕ) (r s : ℕ) → is_table t g f ≡ true → r < 64 → s < 64 → at t (g r) (g s) ≡ f r s
unfolding is_table
entry t g f r s h lr ls = eqb-true (at t (g r) (g s)) (f r s) (below_at (λ k. eqb (at t (g r) (g k)) (f r k)) 64 s (below_at (λ i. all_below (λ k. eqb (at t (g i) (g k)) (f i k)) 64) 64 r h lr) ls)

pub white_at : (c : Color) (r s i k : ℕ) → c ≡ White → i ≡ r → k ≡ s → r < 64 → s < 64 → get_or (get_or WHITE_PAWN i []) k 0 ≡ pawn c r s
white_at c r s i k e f g lr ls = ap (λ (x : ℕ). at WHITE_PAWN x k) f ∙ ap (λ (x : ℕ). at WHITE_PAWN r x) g ∙ entry WHITE_PAWN (λ n. n) (pawn White) r s white_is lr ls ∙ ap (λ (x : Color). pawn x r s) (sym e)

pub black_at : (c : Color) (r s i k : ℕ) → c ≡ Black → i ≡ mirrored r → k ≡ mirrored s → r < 64 → s < 64 → get_or (get_or WHITE_PAWN i []) k 0 ≡ pawn c r s
black_at c r s i k e f g lr ls = ap (λ (x : ℕ). at WHITE_PAWN x k) f ∙ ap (λ (x : ℕ). at WHITE_PAWN (mirrored r) x) g ∙ entry WHITE_PAWN (λ n. mirrored n) (pawn Black) r s black_is lr ls ∙ ap (λ (x : Color). pawn x r s) (sym e)

pub pawn_low : (c : Color) (r s : ℕ) → s < 64 → pawn c r s ≤ 64
unfolding pawn pawn_steps
pawn_low White r s l = grind (arith)
pawn_low Black r s l = grind (arith)
