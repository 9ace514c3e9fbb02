use Rattle.pg_journeys.proofs.TableLemmas.{all_kinds, all_zeros, free_is, table_is}
use Rattle.pg_journeys.proofs.ground.steps_table.Goals as goal

pub returns : goal.returns
returns c = λ f x same. table_is f x c.blocked-blocks.result c.args.still c.sub-free.result same
    (free_is c.full.result c.args.still c.sub-free.result c.full.ensures c.sub-free.ensures.members)
    c.blocked-blocks.ensures
    c.fill_kind-4.new.table
    (all_kinds c.blocked-blocks.result c.sub-free.result _ c.fill_kind.new.table c.fill_kind-2.new.table c.fill_kind-3.new.table c.fill_queens.new.table c.fill_kind-4.new.table (λ i. all_zeros 384 c.empty-table.result i c.empty-table.ensures.value) c.fill_kind.ensures c.fill_kind-2.ensures c.fill_kind-3.ensures c.fill_queens.ensures c.fill_kind-4.ensures)
