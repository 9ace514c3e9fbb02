use Rattle.pg_travel.proofs.Common.{FirstFit}
use Rattle.pg_travel.proofs.sources.source_fits.Given as goal

abbrev pub invariant-loop-page : goal.invariant-loop-page
invariant-loop-page l = FirstFit l.rows l.man.color l.man.kind l.origin l.price l.v l.page
