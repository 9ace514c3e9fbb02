-- A test that can be decided, as a yes or a no: what a bound excludes is a fixed answer for each diagram, position
-- and number of plies.
use Rattle.std.proofs.Common.{◌≡◌, ℕ, Bool, true, false}
use Rattle.pg_board.specs.Placement.{Placement}
use Rattle.pg_board.specs.lemmas.Decisions.{dec_along, dec_or, dec_less, dec_colors, answer}
use Rattle.pg_position.specs.declared.state.State.{State}
use Rattle.pg_captures.specs.lemmas.OwedLemmas.{mismatched, from_mismatched}
use Rattle.pg_captures.specs.Owed.{victims, CapturesFor, CapturesHolds, PromotionsFor, PromotionsHolds}

pub dec_captures : (d : Placement) (p : State) (k : ℕ) → Dec (CapturesHolds d p k)
unfolding CapturesHolds
dec_captures d p k = dec_colors (CapturesFor d p.board p.side k)
    (λ c. dec_along (from_mismatched d p.board p.side k c) (mismatched d p.board p.side k c) (dec_or (dec_less (victims c p.board) (victims c d)) (dec_less _ _)))

-- whether the captures test holds
abbrev pub captures_test : Placement → State → ℕ → Bool
captures_test d p k = answer (dec_captures d p k)

pub dec_promotions : (d : Placement) (p : State) → Dec (PromotionsHolds d p)
unfolding PromotionsHolds
dec_promotions d p = dec_colors (PromotionsFor d p.board) (λ c. dec_less _ _)

-- whether the promotions test holds
abbrev pub promotions_test : Placement → State → Bool
promotions_test d p = answer (dec_promotions d p)

-- a bound that never excludes says nothing
pub never_excludes : {A : Type 0} → false ≡ true → A
never_excludes h = absurd (cc)
