use Rattle.pg_fen.proofs.Common.{◌≡◌, ◌∙◌, ℕ, true, false, ap, sym, nat_eq}
use Rattle.pg_fen.proofs.DiagramLemmas.{diagram_from_tests, tests_of_diagram}
use Rattle.pg_fen.proofs.placement.is_diagram.Goals as goal

pub returns-then-has_kings : goal.returns-then-has_kings
returns-then-has_kings c = (
  λ t. diagram_from_tests c.args.board.now (sym c.has_kings.ensures ∙ c.if-has_kings.true) (ap (λ (n : ℕ). nat_eq n 0) (sym c.edge_pawns.ensures) ∙ t),
  λ d. ap (λ (n : ℕ). nat_eq n 0) c.edge_pawns.ensures ∙ (tests_of_diagram c.args.board.now d).1,
)

pub returns-else-has_kings : goal.returns-else-has_kings
returns-else-has_kings c = (
  λ t. let no_ : false ≡ true = sym c.if-has_kings.false ∙ t in absurd cc,
  λ d. c.has_kings.ensures ∙ (tests_of_diagram c.args.board.now d).0,
)
