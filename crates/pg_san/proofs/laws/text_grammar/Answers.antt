use Rattle.pg_san.proofs.TextFoundLemmas.{said_grammar, nothing_said}
use Rattle.pg_san.proofs.laws.text_grammar.Goals as goal

pub returns-clause-says : goal.returns-clause-says
returns-clause-says c = said_grammar

pub returns-clause-nothing : goal.returns-clause-nothing
returns-clause-nothing c = nothing_said
