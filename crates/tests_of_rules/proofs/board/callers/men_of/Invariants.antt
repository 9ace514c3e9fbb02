use Rattle.std.proofs.Common.{◌≡◌}
use Rattle.pg_board.specs.Men.{color_eq}
use Rattle.pg_board.specs.Tally.{tally_below}
use Rattle.tests_of_rules.proofs.board.callers.men_of.Given as goal

abbrev pub invariant-loop-i : goal.invariant-loop-i
invariant-loop-i l = l.n ≡ tally_below (λ _ m. color_eq m.color l.color) l.board l.i
