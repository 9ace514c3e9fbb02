use Rattle.pg_travel.proofs.Common.{arith, [], ◌∷◌}
use Rattle.pg_travel.proofs.SourceLemmas.{four_pages, priced_low, are_paged, sources_by}
use Rattle.pg_travel.proofs.sources.many_fit.Goals as goal

pub sources_fit-requires-clause-paged : goal.sources_fit-requires-clause-paged
sources_fit-requires-clause-paged c = are_paged c.args.rows.now c.args.color c.args.v.now (c.sixteen.result ∷ c.sixteen-2.result ∷ c.sixteen-3.result ∷ c.sixteen-4.result ∷ []) (four_pages c.args.v.now c.sixteen.result c.sixteen-2.result c.sixteen-3.result c.sixteen-4.result (priced_low c.args.v.now c.args.color c.args.rows.now c.requires.priced.1) c.sixteen.ensures c.sixteen-2.ensures c.sixteen-3.ensures c.sixteen-4.ensures) (omega arith) c.requires.priced.1

pub returns : goal.returns
returns c = sources_by c.args.board.now c.args.rows.now c.args.color c.args.way c.args.u.now c.args.v.now (c.sixteen.result ∷ c.sixteen-2.result ∷ c.sixteen-3.result ∷ c.sixteen-4.result ∷ []) c.sources_fit.result (four_pages c.args.v.now c.sixteen.result c.sixteen-2.result c.sixteen-3.result c.sixteen-4.result (priced_low c.args.v.now c.args.color c.args.rows.now c.requires.priced.1) c.sixteen.ensures c.sixteen-2.ensures c.sixteen-3.ensures c.sixteen-4.ensures) c.requires.priced.1 c.sources_fit.ensures
