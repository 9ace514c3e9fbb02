-- The table of named nodes.
use Rattle.std.specs.Prelude.{ℕ, List}
use Rattle.pg_checker.specs.declared.table.Entry.{Entry}

-- the entries of the nodes that have closed, in that order, and for how many more nodes a place is kept
pub record TableState : Type 0 where
  pub entries : List Entry
  pub kept : ℕ
