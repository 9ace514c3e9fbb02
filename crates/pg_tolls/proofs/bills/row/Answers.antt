use Rattle.pg_tolls.proofs.Common.{ap, arith, ◌∙◌, get_or_default, kind_at, counted, entry}
use Rattle.pg_tolls.proofs.HalfRows.{row_is, row_past}
use Rattle.pg_tolls.proofs.bills.row.Goals as goal

pub returns-clause-costs : goal.returns-clause-costs
returns-clause-costs c = λ p is e l.
    row_is c.args.half.now p c.args.party.now c.args.way is c.args.i c.charges-row.result c.with_falls.result c.fall-fall.result
    (λ n. c.charges-row.ensures n ∙ ap (λ t. entry c.args.half.now.rows.items c.args.party.now.marks (kind_at c.args.party.now.men c.args.i) t n)
    (c.counted-square.ensures ∙ ap (counted c.args.half.now.color c.args.way) (get_or_default c.args.party.now.men.squares c.args.i _ _ (omega (arith, c.well_formed, c.requires.man, c.requires.few)))))
    c.fall-fall.ensures.fits c.fall-fall.ensures.value c.with_falls.ensures e c.requires.man l c.requires.few

pub returns-clause-past : goal.returns-clause-past
returns-clause-past c = λ p is e l b.
    row_past c.args.half.now p c.args.party.now c.args.way is c.args.i c.charges-row.result c.with_falls.result c.fall-fall.result
    (λ n. c.charges-row.ensures n ∙ ap (λ t. entry c.args.half.now.rows.items c.args.party.now.marks (kind_at c.args.party.now.men c.args.i) t n)
    (c.counted-square.ensures ∙ ap (counted c.args.half.now.color c.args.way) (get_or_default c.args.party.now.men.squares c.args.i _ _ (omega (arith, c.well_formed, c.requires.man, c.requires.few)))))
    c.fall-fall.ensures.fits c.fall-fall.ensures.value c.with_falls.ensures e l b
