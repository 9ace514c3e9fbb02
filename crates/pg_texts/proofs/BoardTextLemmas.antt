-- The text of a board grows by a square and by a rank. Leads to the contract of `write_board`.
use Rattle.pg_texts.proofs.Common.{◌≡◌, ℕ, ◌+◌, ◌-◌, ◌*◌, List, [], ◌∷◌, Option, sym, subst, add-one, Appends-nil, Appends-trans, Appends, Placement, get, cell_of, squares_text, rank_line, upper_lines}

pub no_cells : (b : Placement) (r : ℕ) (held : Option (List ℕ)) → Appends held held (squares_text b r 0)
unfolding squares_text
no_cells b r held = Appends-nil held

pub one_cell_more : (b : Placement) (r n : ℕ) (old mid new : Option (List ℕ)) (cell : ℕ) → cell ≡ cell_of (get b (8 * r + n)) → Appends old mid (squares_text b r n) → Appends mid new (32 ∷ cell ∷ []) → Appends old new (squares_text b r (n + 1))
unfolding squares_text
one_cell_more b r n old mid new cell is before more =
    let here : Appends mid new (32 ∷ cell_of (get b (8 * r + n)) ∷ []) = subst (λ (x : ℕ). Appends mid new (32 ∷ x ∷ [])) is more in
    subst (λ (k : ℕ). Appends old new (squares_text b r k)) (sym (add-one n)) (Appends-trans old mid new (squares_text b r n) (32 ∷ cell_of (get b (8 * r + n)) ∷ []) before here)

pub no_lines : (b : Placement) (held : Option (List ℕ)) → Appends held held (upper_lines b 0)
unfolding upper_lines
no_lines b held = Appends-nil held

pub one_line_more : (b : Placement) (n : ℕ) (old mid new : Option (List ℕ)) → Appends old mid (upper_lines b n) → Appends mid new (rank_line b (7 - n)) → Appends old new (upper_lines b (n + 1))
unfolding upper_lines
one_line_more b n old mid new before more = subst (λ (k : ℕ). Appends old new (upper_lines b k)) (sym (add-one n)) (Appends-trans old mid new (upper_lines b n) (rank_line b (7 - n)) before more)
