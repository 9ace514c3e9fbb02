use Rattle.pg_certificate.proofs.Common.{ap, ◌∙◌, ◌+◌, ◌-◌, arith, lists_spelling}
use Rattle.pg_certificate.proofs.PriceLoops.{first_made, next_made, all_made}
use Rattle.pg_certificate.proofs.ListTexts.{spelled_lists}
use Rattle.pg_certificate.proofs.PricedLemmas.{lists_fit}
use Rattle.pg_certificate.proofs.outline.put_prices.Goals as goal

pub loop-init : goal.loop-init
loop-init c =
    let o = c.args.outline.now in
    let is = first_made c.args.prices.now c.set.new.self c.set.result o.ways (o.ways - 1) o.sources o.targets (o.sources + o.targets - o.sources) c.args.bytes.now (omega (arith, c.requires.fits.some)) (omega arith) c.requires.fits.sources c.requires.fits.targets c.requires.whole c.set.ensures.when c.set.ensures.set in
    record { started = omega arith; bound = c.requires.fits.some; held = is.0; made = is.1 }

pub loop-preserved : goal.loop-preserved
loop-preserved c =
    let o = c.args.outline.now in
    let i = c.loop.invariant in
    let is = next_made c.loop.prices c.add.new.self c.add.result (o.ways - c.loop.counter) (o.ways - (c.loop.counter + 1)) o.sources o.targets c.loop.at _ _ c.args.bytes.now _ (omega (arith, c.loop-test.true)) (omega arith) (omega arith) (omega (arith, i.started, i.held)) (omega (arith, i.held, c.loop-test.true, c.requires.fits.few)) i.made c.add.ensures.when c.add.ensures.added in
    record { started = omega arith; bound = omega (arith, c.loop-test.true); held = omega (arith, is.0, i.held); made = is.1 }

pub returns-clause-spelled : goal.returns-clause-spelled
returns-clause-spelled c =
    let o = c.args.outline.now in
    let all = all_made c.loop.prices (o.ways - c.loop.counter) o.sources o.targets c.loop.at c.args.bytes.now _ (omega (arith, c.loop-test.false)) c.loop.invariant.made in
    ap lists_spelling all ∙ spelled_lists o.ways o.sources o.targets c.args.bytes.now c.requires.whole

pub returns-clause-fits : goal.returns-clause-fits
returns-clause-fits c =
    let o = c.args.outline.now in
    let all = all_made c.loop.prices (o.ways - c.loop.counter) o.sources o.targets c.loop.at c.args.bytes.now _ (omega (arith, c.loop-test.false)) c.loop.invariant.made in
    lists_fit o c.args.bytes.now c.loop.prices c.requires.whole all (λ k p. omega (arith, c.type_inv.bytes k))
