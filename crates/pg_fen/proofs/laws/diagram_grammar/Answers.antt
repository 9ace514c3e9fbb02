use Rattle.pg_fen.proofs.GrammarLemmas.{diagram_grammar}
use Rattle.pg_fen.proofs.laws.diagram_grammar.Goals as goal

pub returns : goal.returns
returns c = λ b. diagram_grammar c.args.text.now b
