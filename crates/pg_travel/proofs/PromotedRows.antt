-- The table of a pawn's distances to other men is the formulas. Leads to the contract of `promoted`.
use Rattle.pg_travel.proofs.Common.{◌≡◌, ℕ, ◌<◌, ◌/◌, ◌%◌, Bool, true, List, [], get_or, eqb, eqb-true, refl, sym, ap, subst, ◌∙◌, Color, White, Black, mirrored, knight, bishop, rook, queen, pawn_steps, least_of, pawn_to, all_below, below_at}
use Rattle.pg_travel.specs.declared.promotion_table.TheConstants.{WHITE_PROMOTED}
use Rattle.pg_travel.specs.inner.Promoted.{told, ArePromoted}

abbrev at : List (List ℕ) → ℕ → ℕ → ℕ
at t i k = get_or (get_or t i []) k 0

-- seen so, the table gives a number for each two squares
unfoldable is_seen : List (List ℕ) → (ℕ → ℕ) → (ℕ → ℕ) → (ℕ → ℕ → ℕ) → Bool
is_seen t v g f = all_below (λ r. all_below (λ s. eqb (v (at t (g r) (g s))) (f r s)) 64) 64

seen_at : (t : List (List ℕ)) (v g : ℕ → ℕ) (f : ℕ → ℕ → ℕ) (r s : ℕ) → is_seen t v g f ≡ true → r < 64 → s < 64 → v (at t (g r) (g s)) ≡ f r s
unfolding is_seen
seen_at t v g f r s h lr ls = eqb-true (v (at t (g r) (g s))) (f r s) (below_at (λ k. eqb (v (at t (g r) (g k))) (f r k)) 64 s (below_at (λ i. all_below (λ k. eqb (v (at t (g i) (g k))) (f i k)) 64) 64 r h lr) ls)

white_knight : is_seen WHITE_PROMOTED (λ n. told (n % 16)) (λ s. s) (pawn_to knight White) ≡ true
unfolding is_seen all_below pawn_to pawn_steps least_of knight
white_knight = refl

white_bishop : is_seen WHITE_PROMOTED (λ n. told (n / 16 % 16)) (λ s. s) (pawn_to bishop White) ≡ true
unfolding is_seen all_below pawn_to pawn_steps least_of bishop
white_bishop = refl

white_rook : is_seen WHITE_PROMOTED (λ n. told (n / 256 % 16)) (λ s. s) (pawn_to rook White) ≡ true
unfolding is_seen all_below pawn_to pawn_steps least_of rook
white_rook = refl

white_queen : is_seen WHITE_PROMOTED (λ n. told (n / 4096 % 16)) (λ s. s) (pawn_to queen White) ≡ true
unfolding is_seen all_below pawn_to pawn_steps least_of queen
white_queen = refl

black_knight : is_seen WHITE_PROMOTED (λ n. told (n % 16)) (λ s. mirrored s) (pawn_to knight Black) ≡ true
unfolding is_seen all_below pawn_to pawn_steps least_of knight
black_knight = refl

black_bishop : is_seen WHITE_PROMOTED (λ n. told (n / 16 % 16)) (λ s. mirrored s) (pawn_to bishop Black) ≡ true
unfolding is_seen all_below pawn_to pawn_steps least_of bishop
black_bishop = refl

black_rook : is_seen WHITE_PROMOTED (λ n. told (n / 256 % 16)) (λ s. mirrored s) (pawn_to rook Black) ≡ true
unfolding is_seen all_below pawn_to pawn_steps least_of rook
black_rook = refl

black_queen : is_seen WHITE_PROMOTED (λ n. told (n / 4096 % 16)) (λ s. mirrored s) (pawn_to queen Black) ≡ true
unfolding is_seen all_below pawn_to pawn_steps least_of queen
black_queen = refl

white_entry : (r s : ℕ) → r < 64 → s < 64 → ArePromoted White r s (at WHITE_PROMOTED r s)
white_entry r s lr ls = record {
  knight = seen_at WHITE_PROMOTED (λ n. told (n % 16)) (λ x. x) (pawn_to knight White) r s white_knight lr ls;
  bishop = seen_at WHITE_PROMOTED (λ n. told (n / 16 % 16)) (λ x. x) (pawn_to bishop White) r s white_bishop lr ls;
  rook = seen_at WHITE_PROMOTED (λ n. told (n / 256 % 16)) (λ x. x) (pawn_to rook White) r s white_rook lr ls;
  queen = seen_at WHITE_PROMOTED (λ n. told (n / 4096 % 16)) (λ x. x) (pawn_to queen White) r s white_queen lr ls;
}

pub white_promoted : (c : Color) (r s i k : ℕ) → c ≡ White → i ≡ r → k ≡ s → r < 64 → s < 64 → ArePromoted c r s (get_or (get_or WHITE_PROMOTED i []) k 0)
white_promoted c r s i k e f g lr ls =
    subst (λ (x : Color). ArePromoted x r s (at WHITE_PROMOTED i k)) (sym e)
    (subst (λ (x : ℕ). ArePromoted White r s x) (sym (ap (λ (x : ℕ). at WHITE_PROMOTED x k) f ∙ ap (λ (x : ℕ). at WHITE_PROMOTED r x) g)) (white_entry r s lr ls))

black_entry : (r s : ℕ) → r < 64 → s < 64 → ArePromoted Black r s (at WHITE_PROMOTED (mirrored r) (mirrored s))
black_entry r s lr ls = record {
  knight = seen_at WHITE_PROMOTED (λ n. told (n % 16)) (λ x. mirrored x) (pawn_to knight Black) r s black_knight lr ls;
  bishop = seen_at WHITE_PROMOTED (λ n. told (n / 16 % 16)) (λ x. mirrored x) (pawn_to bishop Black) r s black_bishop lr ls;
  rook = seen_at WHITE_PROMOTED (λ n. told (n / 256 % 16)) (λ x. mirrored x) (pawn_to rook Black) r s black_rook lr ls;
  queen = seen_at WHITE_PROMOTED (λ n. told (n / 4096 % 16)) (λ x. mirrored x) (pawn_to queen Black) r s black_queen lr ls;
}

pub black_promoted : (c : Color) (r s i k : ℕ) → c ≡ Black → i ≡ mirrored r → k ≡ mirrored s → r < 64 → s < 64 → ArePromoted c r s (get_or (get_or WHITE_PROMOTED i []) k 0)
black_promoted c r s i k e f g lr ls =
    subst (λ (x : Color). ArePromoted x r s (at WHITE_PROMOTED i k)) (sym e)
    (subst (λ (x : ℕ). ArePromoted Black r s x) (sym (ap (λ (x : ℕ). at WHITE_PROMOTED x k) f ∙ ap (λ (x : ℕ). at WHITE_PROMOTED (mirrored r) x) g)) (black_entry r s lr ls))
