-- Sets for each kind of man.
use Rattle.std.specs.Prelude.{ℕ, List, get_or}
use Rattle.pg_board.specs.declared.man.Kind.{Kind}
use Rattle.pg_board.specs.Men.{number_of_kind}

-- the set of a kind
abbrev pub of_kind : List ℕ → Kind → ℕ
of_kind sets k = get_or sets (number_of_kind k) 0
