use Rattle.pg_travel.proofs.Common.{refl, arith, ◌/◌}
use Rattle.pg_travel.proofs.FurtherRows.{at_white, at_black, at_none}
use Rattle.pg_travel.proofs.rows.further_at.Goals as goal

pub returns-then-page-white : goal.returns-then-page-white
returns-then-page-white c = at_white c.args.goal.now c.args.place (c.args.place / 134) _ c.args.white c.further_in.result refl refl c.requires.white (omega (arith, c.if-page-white.true)) c.further_in.ensures

pub returns-then-page-black : goal.returns-then-page-black
returns-then-page-black c = at_black c.args.goal.now c.args.place (c.args.place / 134) _ c.args.white c.further_in-then-page-black.result refl refl c.requires.white (omega (arith, c.if-page-white.false)) c.further_in-then-page-black.ensures

pub returns : goal.returns
returns c = at_none c.args.goal.now c.args.place (c.args.place / 134) c.args.white c.args.black _ refl c.requires.white c.requires.black (omega (arith, c.if-page-white.false)) (omega (arith, c.if-page-black.false))
