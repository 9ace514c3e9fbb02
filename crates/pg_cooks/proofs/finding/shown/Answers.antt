use Rattle.pg_cooks.proofs.FoundLemmas.{is_other, is_shorter}
use Rattle.pg_cooks.proofs.finding.shown.Goals as goal

pub returns-then-plies : goal.returns-then-plies
returns-then-plies c =
    is_shorter c.args.diagram.now c.args.length c.in-Some.own c.plies.result c.plies-2.result c.as_slice.result.now c.as_slice-2.result.now c.args.game.items
    c.in-Some.ensures c.as_slice.ensures.value c.as_slice-2.ensures.value c.plies.ensures.value c.plies-2.ensures.value c.if-plies.true (c.in-Ok-true.ensures c.in-Ok-true.field-0-test)

pub returns-then-not-contains : goal.returns-then-not-contains
returns-then-not-contains c =
    is_other c.args.diagram.now c.args.length c.in-Some.own c.plies-else-plies.result c.plies-else-plies-2.result c.args.games.now c.as_slice-2.result.now c.as_slice-then-plies-2.result.now c.args.game.items c.contains.result
    c.as_slice-2.ensures.value c.as_slice-then-plies-2.ensures.value c.plies-else-plies.ensures.value c.plies-else-plies-2.ensures.value c.if-plies-2.true (c.in-Ok-true.ensures c.in-Ok-true.field-0-test) c.contains.ensures c.if-not-contains.true
