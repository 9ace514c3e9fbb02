use Rattle.pg_cli.proofs.Common.{found_of}
use Rattle.pg_cli.proofs.WordLemmas.{word_given, word_missing}
use Rattle.pg_cli.proofs.spelling.text_of.Goals as goal

pub returns-in-Some : goal.returns-in-Some
returns-in-Some c = word_given (found_of c.args.words.now) c.args.name.now c.in-Some.text.now c.in-Some.ensures

pub returns-in-None : goal.returns-in-None
returns-in-None c = word_missing (found_of c.args.words.now) c.args.name.now c.in-None.ensures
