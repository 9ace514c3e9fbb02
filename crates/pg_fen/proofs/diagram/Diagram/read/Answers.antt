use Rattle.pg_fen.proofs.Common.{◌∙◌, sym, fields}
use Rattle.pg_fen.proofs.DiagramLemmas.{diagram_of_is}
use Rattle.pg_fen.proofs.diagram.Diagram.read.Goals as goal

pub invariant_of-result : goal.invariant_of-result
invariant_of-result c = diagram_of_is (fields c.as_bytes.result.now) c.in-Ok.board (sym c.read_board.ensures ∙ c.in-Ok.is)

pub returns-in-Ok-clause-diagram : goal.returns-in-Ok-clause-diagram
returns-in-Ok-clause-diagram c = diagram_of_is (fields c.as_bytes.result.now) c.in-Ok.board (sym c.read_board.ensures ∙ c.in-Ok.is)
