use Rattle.pg_travel.proofs.Common.{arith, [], ◌∷◌}
use Rattle.pg_travel.proofs.SourceLemmas.{one_page, are_paged, sources_by}
use Rattle.pg_travel.proofs.sources.few_fit.Goals as goal

pub sources_fit-requires-clause-paged : goal.sources_fit-requires-clause-paged
sources_fit-requires-clause-paged c = are_paged c.args.rows.now c.args.color c.args.v.now (c.sixteen.result ∷ []) (one_page c.args.v.now c.sixteen.result c.requires.few c.sixteen.ensures) (omega arith) c.requires.priced.1

pub returns : goal.returns
returns c = sources_by c.args.board.now c.args.rows.now c.args.color c.args.way c.args.u.now c.args.v.now (c.sixteen.result ∷ []) c.sources_fit.result (one_page c.args.v.now c.sixteen.result c.requires.few c.sixteen.ensures) c.requires.priced.1 c.sources_fit.ensures
