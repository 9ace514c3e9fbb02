use Rattle.pg_moves.proofs.Common.{◌≡◌, ℕ, subst, rank, IsSetOf}
use Rattle.pg_moves.proofs.pawns.home.Goals as goal

pub returns : goal.returns
returns c = subst (λ (r : ℕ). IsSetOf c.of_rank.result (λ q. rank q ≡ r)) c.home_rank.ensures.value c.of_rank.ensures
