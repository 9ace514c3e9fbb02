use Rattle.pg_fen.proofs.GameLemmas.{game_grammar}
use Rattle.pg_fen.proofs.laws.position_grammar.Goals as goal

pub returns : goal.returns
returns c = λ g. game_grammar c.args.text.now g
