use Rattle.std.proofs.Common.{lit<}
use Rattle.std.proofs.lemmas.Iterator.Consumers.{nth_from_yields_List}
use Rattle.std.proofs.lemmas.Iterator.Splits.{YieldsList-from_str_split}
use Rattle.pg_hints.proofs.PlaceLemmas.{line_found}
use Rattle.pg_hints.proofs.places.line_at.Goals as goal

pub returns : goal.returns
returns c = line_found c.args.text.now c.args.number c.in_ok-checked_sub.field-0 c.nth.result c.in_ok-checked_sub.ensures
    (nth_from_yields_List _ _ c.in_ok-checked_sub.field-0 c.nth.ensures.ran (YieldsList-from_str_split 10 c.args.text.now (lit< tt) c.split.ensures.text c.split.ensures.has_more c.split.ensures.pattern))
