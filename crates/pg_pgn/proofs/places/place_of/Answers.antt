use Rattle.pg_pgn.proofs.Common.{ℕ, List, ap, ◌∙◌, before, line_from, column_from}
use Rattle.pg_pgn.proofs.places.place_of.Goals as goal

pub returns : goal.returns
returns c =
    let e = c.without_mark-text.ensures in (
      c.line_behind.ensures ∙ ap (λ (x : List ℕ). line_from 1 (before x c.args.rest.now)) e,
      c.column_behind.ensures ∙ ap (λ (x : List ℕ). column_from 1 (before x c.args.rest.now)) e,
    )
