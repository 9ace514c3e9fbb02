use Rattle.pg_tolls.proofs.Common.{◌+◌, replicate, refl, arith, known, stated}
use Rattle.pg_tolls.proofs.FillingLemmas.{no_numbers, filled_first, filled_next}
use Rattle.pg_tolls.proofs.filling.fill.Goals as goal

pub fill_first-requires-clause-blank : goal.fill_first-requires-clause-blank
fill_first-requires-clause-blank c = record {
  pawns = no_numbers (replicate 64 (replicate 16 65535)) refl;
  knights = no_numbers (replicate 64 (replicate 16 65535)) refl;
  bishops = no_numbers (replicate 64 (replicate 16 65535)) refl;
  rooks = no_numbers (replicate 64 (replicate 16 65535)) refl;
  queens = no_numbers (replicate 64 (replicate 16 65535)) refl;
  kings = no_numbers (replicate 64 (replicate 16 65535)) refl;
}

pub loop-marks-init : goal.loop-marks-init
loop-marks-init c =
    filled_first (stated c.args.tariff.now) (known c.args.ground.now.facts) c.args.ground.now.color c.args.goals.now c.in_ok-table.table.items c.add_layer.new.table.items c.fill_first.new.layer
    c.in_ok-table.ensures.items c.in_ok-add_layer.ensures.added c.add_layer.ensures.long c.fill_first.ensures

pub loop-marks-preserved : goal.loop-marks-preserved
loop-marks-preserved c =
    filled_next (stated c.args.tariff.now) (known c.args.ground.now.facts) c.args.ground.now.color c.args.goals.now c.loop-marks._marks (c.loop-marks._marks + 1) c.loop-marks.table.items c.add_layer-in-loop-marks.new.table.items c.loop-marks.layer c.fill_next.new.layer
    refl c.loop-marks.invariant c.in_ok-add_layer-2.ensures.added c.add_layer-in-loop-marks.ensures.long
    (c.fill_next.ensures c.args.goals.now c.loop-marks._marks (omega (arith, c.requires.most, c.loop-marks-test.true)) c.requires.tolls c.loop-marks.invariant.layer)

pub returns : goal.returns
returns c = λ u j low. c.loop-marks.invariant.highest u j (omega (arith, low, c.loop-marks-test.false))
