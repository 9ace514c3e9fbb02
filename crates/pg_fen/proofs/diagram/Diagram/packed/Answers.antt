use Rattle.pg_fen.proofs.Common.{◌∙◌, ap, packed_of}
use Rattle.pg_fen.proofs.PackingLemmas.{packed_apart}
use Rattle.pg_fen.proofs.diagram.Diagram.packed.Goals as goal

pub returns-clause-alone : goal.returns-clause-alone
returns-clause-alone c = λ other e. (packed_apart other c.args.self.now).0 (e ∙ c.packed_of.ensures ∙ ap packed_of c.self.view_is)
