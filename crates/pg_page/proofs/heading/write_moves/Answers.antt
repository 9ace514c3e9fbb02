use Rattle.pg_page.proofs.Common.{List, ℕ, refl, sym, subst, ◌∙◌, Appends}
use Rattle.pg_page.proofs.HeadLemmas.{no_moves, is_next, one_move_more, all_moves}
use Rattle.pg_page.proofs.heading.write_moves.Goals as goal

pub loop-m-init : goal.loop-m-init
loop-m-init g c = record {
  moves = no_moves c.args.game.now c.array-position.result (g.W.Sink.held c.args.out.now) c.array-position.ensures c.requires;
  runs = refl;
}

pub unreachable-requires : goal.unreachable-requires
unreachable-requires g c =
    let (q, legal, game) = is_next c.args.game.now c.loop-m.m-index c.m-item.result c.loop-m.position _ _ c.loop-m-test.true c.m-item.is c.loop-m.invariant.moves in
    absurd (c.in-Err.ensures.err.1 q legal)

pub move_text-requires : goal.move_text-requires
move_text-requires g c = (c.in-Ok.ensures.ok c.in-Ok.next).0 refl

pub loop-m-preserved : goal.loop-m-preserved
loop-m-preserved g c = record {
  moves = one_move_more c.args.game.now c.loop-m.m-index c.m-item.result c.loop-m.position c.in-Ok.next c.move_text.result.bytes _ _ _ _ c.loop-m-test.true c.m-item.is c.loop-m.invariant.moves c.in-Ok.ensures.ok c.move_text.ensures.text (subst (λ (t : List ℕ). Appends (g.W.Sink.held c.loop-m.out) (g.W.Sink.held c.push.new.self) t) (c.as_bytes.ensures.value ∙ c.as_str.ensures.value) c.in_ok-push.ensures.bytes) c.in_ok-push-2.ensures.bytes;
  runs = c.in_ok-push-2.ensures.runs.1 ∙ sym c.in_ok-push.ensures.runs.0 ∙ c.loop-m.invariant.runs;
}

pub returns : goal.returns
returns g c = record {
  text = all_moves c.args.game.now c.loop-m.m-index c.loop-m.position _ _ c.loop-m-test.false c.loop-m.invariant.moves;
  runs = c.loop-m.invariant.runs;
  fault = tt;
}
