use Rattle.pg_cli.proofs.Common.{sym, None, codes, found_of}
use Rattle.pg_cli.proofs.WordLemmas.{word_or_none}
use Rattle.pg_cli.proofs.searching.begin_list.Goals as goal

pub returns-in-None : goal.returns-in-None
returns-in-None g c = record { ok = sym (word_or_none (found_of c.args.words.now) (codes "games") None c.in-None.ensures); err = tt }
