use Rattle.pg_cli.proofs.Common.{codes, rules, found_of}
use Rattle.pg_cli.proofs.WordLemmas.{flag_told, flag_missing}
use Rattle.pg_cli.proofs.spelling.say.Goals as goal

pub returns-in-Some : goal.returns-in-Some
returns-in-Some c = flag_told (found_of c.args.words.now) c.args.flag.now c.in-Some.text.now (codes "true") c.eq.result c.in-Some.ensures (search rules)

pub returns-in-None : goal.returns-in-None
returns-in-None c = flag_missing (found_of c.args.words.now) c.args.flag.now (codes "true") c.in-None.ensures
