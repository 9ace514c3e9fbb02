use Rattle.pg_page.proofs.LetterLemmas.{letter_is_ascii}
use Rattle.pg_page.proofs.lines.letter_of.Goals as goal

pub returns-clause-ascii : goal.returns-clause-ascii
returns-clause-ascii c = letter_is_ascii c.args.square c.from.result (cc) c.index.ensures.bound
