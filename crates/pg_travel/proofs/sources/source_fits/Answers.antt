use Rattle.pg_travel.proofs.Common.{arith}
use Rattle.pg_travel.proofs.SourceLemmas.{fit_none, fit_next, fit_all, fit_not, page_at, few_pages}
use Rattle.pg_travel.proofs.sources.source_fits.Goals as goal

pub loop-page-init : goal.loop-page-init
loop-page-init c = fit_none c.args.rows.now c.args.man.color c.args.man.kind c.args.origin c.args.price c.args.v.now

pub on_page-requires : goal.on_page-requires
on_page-requires c = few_pages c.args.rows.now c.args.man.color c.args.v.now c.loop-page.page c.requires (omega arith)

pub returns-then-not-fits : goal.returns-then-not-fits
returns-then-not-fits c = fit_not c.args.rows.now c.args.man.color c.args.man.kind c.args.origin c.args.price c.loop-page.page c.args.v.now c.fits.result (omega arith) c.if-not-fits.true
    (page_at c.args.rows.now c.args.man.color c.args.man.kind c.args.origin c.args.price c.loop-page.page c.args.v.now c.on_page.result c.fits.result (omega (arith, c.index.ensures.value, c.index.ensures.bound)) (omega arith) c.requires c.on_page.ensures c.fits.ensures)

pub loop-page-preserved : goal.loop-page-preserved
loop-page-preserved c = fit_next c.args.rows.now c.args.man.color c.args.man.kind c.args.origin c.args.price c.loop-page.page c.args.v.now c.loop-page.invariant
    ((page_at c.args.rows.now c.args.man.color c.args.man.kind c.args.origin c.args.price c.loop-page.page c.args.v.now c.on_page.result c.fits.result (omega (arith, c.index.ensures.value, c.index.ensures.bound)) (omega arith) c.requires c.on_page.ensures c.fits.ensures).0 c.if-not-fits.false)

pub returns : goal.returns
returns c = fit_all c.args.rows.now c.args.man.color c.args.man.kind c.args.origin c.args.price c.loop-page.page c.args.v.now (omega (arith, c.loop-page-test.false, c.loop-page.auto.page-end)) c.loop-page.invariant
