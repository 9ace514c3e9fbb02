use Rattle.pg_captures.proofs.TallyLemmas.{all_men_set}
use Rattle.pg_captures.proofs.counts.all_men.Goals as goal

pub returns-clause-value : goal.returns-clause-value
returns-clause-value c = all_men_set _ _ _ _ c.len.ensures.squares c.squares_of_color.ensures
