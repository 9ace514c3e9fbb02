use Rattle.pg_fen.proofs.Common.{rules, is_slash, is_eight_wide}
use Rattle.std.proofs.lemmas.Iterator.Search.{all_from_yields_List}
use Rattle.std.proofs.lemmas.Iterator.Splits.{YieldsList-from_slice_split}
use Rattle.pg_fen.proofs.placement.ranks_are_wide.Goals as goal

pub returns : goal.returns
returns c =
    all_from_yields_List is_eight_wide _ _ _ c.all.ensures.ran
    (YieldsList-from_slice_split _ is_slash c.args.text.now c.split.ensures.rest c.split.ensures.done c.split.ensures.closure (λ x b q k. search rules))
    (λ x b q k. search rules)
