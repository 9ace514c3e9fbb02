use Rattle.pg_tolls.proofs.Common.{ap, known, stated, AreOfWalls}
use Rattle.pg_tolls.proofs.MadeHalves.{sound_of, tight_of}
use Rattle.pg_tolls.proofs.tolls.Tolls.new.Goals as goal

pub invariant_of-result : goal.invariant_of-result
invariant_of-result c =
    let walls : AreOfWalls (known c.facts_of_walls-facts.result) c.board-goal.result = record { walls = c.facts_of_walls-facts.ensures.walls; landing = c.facts_of_walls-facts.ensures.landing } in
    record {
      sound = ∣
          sound_of (stated c.args.tariff.now) (known c.facts_of_walls-facts.result) (known c.ground_of.result.facts) (known c.ground_of-2.result.facts) c.board-goal.result c.args.diagram.now c.in_ok-white.white c.in_ok-black.black c.ground_of.result.color c.ground_of-2.result.color
          c.board-goal.ensures.value (ap known c.ground_of.ensures.facts) (ap known c.ground_of-2.ensures.facts) c.ground_of.ensures.color c.ground_of-2.ensures.color c.in_ok-white.ensures.color c.in_ok-black.ensures.color
          walls
          (c.in_ok-white.ensures.lost, c.in_ok-white.ensures.half) (c.in_ok-black.ensures.lost, c.in_ok-black.ensures.half)
          ∣₁;
      white_tight = ∣
          tight_of (stated c.args.tariff.now) (known c.facts_of_walls-facts.result) (known c.ground_of.result.facts) c.board-goal.result c.args.diagram.now c.in_ok-white.white
          c.board-goal.ensures.value (ap known c.ground_of.ensures.facts) walls c.in_ok-white.ensures.tight
          ∣₁;
      black_tight = ∣
          tight_of (stated c.args.tariff.now) (known c.facts_of_walls-facts.result) (known c.ground_of-2.result.facts) c.board-goal.result c.args.diagram.now c.in_ok-black.black
          c.board-goal.ensures.value (ap known c.ground_of-2.ensures.facts) walls c.in_ok-black.ensures.tight
          ∣₁;
    }
