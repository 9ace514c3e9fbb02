use Rattle.pg_hints.proofs.PlaceLemmas.{cut_first, cut_none}
use Rattle.std.proofs.Common.{arith}
use Rattle.pg_hints.proofs.places.first_line.Goals as goal

pub returns-in-Some-clause-cut : goal.returns-in-Some-clause-cut
returns-in-Some-clause-cut c =
    let cut = c.in-Some.ensures.byte (omega arith) (λ w o h. h) in
    cut_first c.args.text.now c.in-Some.line.now c.in-Some.more.now cut.0 cut.1 cut.2

pub returns-in-None-clause-cut : goal.returns-in-None-clause-cut
returns-in-None-clause-cut c = cut_none c.args.text.now (c.in-None.ensures.byte (omega arith) (λ w o h. h))
