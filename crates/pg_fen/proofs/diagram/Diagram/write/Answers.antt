use Rattle.pg_fen.proofs.Common.{◌∙◌, ap, subst, List, ℕ, ◌++◌, fields, placement_text, IsDiagram, diagram_of}
use Rattle.pg_fen.proofs.GrammarLemmas.{written_again, written_alone}
use Rattle.pg_fen.proofs.diagram.Diagram.write.Goals as goal

pub returns-clause-text : goal.returns-clause-text
returns-clause-text c = c.put_placement.ensures.text ∙ ap (λ (t : List ℕ). t ++ placement_text c.self.inside.board) c.new-text.ensures ∙ ap placement_text c.self.view_is

pub returns-clause-read_again : goal.returns-clause-read_again
returns-clause-read_again c =
    let diagram : IsDiagram c.args.self.now = subst IsDiagram c.self.view_is c.self.invariant in
    ap (λ (t : List ℕ). diagram_of (fields t)) (returns-clause-text c) ∙ written_again c.args.self.now diagram

pub returns-clause-alone : goal.returns-clause-alone
returns-clause-alone c = λ other e. written_alone other c.args.self.now (e ∙ returns-clause-text c)
