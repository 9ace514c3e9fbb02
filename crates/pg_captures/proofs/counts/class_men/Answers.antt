use Rattle.pg_captures.proofs.Common.{of_color, in_class}
use Rattle.pg_captures.proofs.TallyLemmas.{tally_set}
use Rattle.pg_captures.proofs.counts.class_men.Goals as goal

pub returns-clause-value : goal.returns-clause-value
returns-clause-value c = tally_set (of_color c.args.color (in_class c.args.class)) c.args.board.now c.class_set.result c.len.result c.len.ensures.squares c.class_set.ensures
