use Rattle.std.proofs.Common.{◌≡◌, ◌∙◌, true, false, List, ℕ, ◌+◌, ◌<◌, ◌≤◌, length, Bor, subst, sym, ap, arith}
use Rattle.std.specs.Prelude.{Option}
use Rattle.pg_hints.specs.Places.{length_left, pieces_left}
use Rattle.pg_hints.proofs.PlaceLemmas.{first_at, line_next, lines_left, none_more}
use Rattle.pg_hints.proofs.places.line_of.Goals as goal

pub returns-then-branch : goal.returns-then-branch
returns-then-branch c =
    let at = line_next c.args.list.now _ _ c.first_line.result.0.now c.loop-rest.number (c.loop-rest.invariant.left ∙ ap pieces_left c.in-Some.is) c.first_line.ensures.cut in
    first_at c.args.list.now c.first_line.result.0.now c.args.game.now c.loop-rest.number at (c.in_ok-is_game.ensures.0 c.if-branch.true) c.loop-rest.invariant.none

pub loop-rest-preserved : goal.loop-rest-preserved
loop-rest-preserved c =
    let left = c.loop-rest.invariant.left ∙ ap pieces_left c.in-Some.is in
    let at = line_next c.args.list.now _ _ c.first_line.result.0.now c.loop-rest.number left c.first_line.ensures.cut in
    let few : c.loop-rest.number + (length c.in-Some.left.now + 1) ≤ length c.args.list.now + 1 = subst (λ (o : Option (Bor (List ℕ))). c.loop-rest.number + length_left o ≤ length c.args.list.now + 1) c.in-Some.is c.loop-rest.invariant.few in
    let less : length_left c.first_line.result.1 < length c.in-Some.left.now + 1 = c.first_line.ensures.less in
    record {
      few = omega arith;
      left = lines_left c.args.list.now _ _ c.first_line.result.0.now c.loop-rest.number left c.first_line.ensures.cut;
      none = none_more c.args.list.now c.first_line.result.0.now c.args.game.now c.loop-rest.number at (λ g. let e : false ≡ true = sym c.if-branch.false ∙ c.in_ok-is_game.ensures.1 g in cc) c.loop-rest.invariant.none;
    }
