-- The topmost frame is played on where it stands, and a child is entered; or it closes.
use Rattle.pg_checker.proofs.Common.{reverse, refl, to_come, cuts_for, stops, path, spot_of}
use Rattle.pg_checker.proofs.Running.{few_none}
use Rattle.pg_checker.proofs.Played.{closes_played, play_leads, play_played}
use Rattle.pg_checker.proofs.Found.{finding_none}
use Rattle.pg_checker.proofs.Tops.{closes_kept, play_depth, play_kept, same_items, top_closes, top_plays}
use Rattle.pg_checker.proofs.Turning.{with_frames}
use Rattle.pg_checker.proofs.walk.turn.Goals as goal

pub enter-requires-clause-depth : goal.enter-requires-clause-depth
enter-requires-clause-depth g c = play_depth c.args.tree c.in-Some.child.plies c.args.machine.now.stack.frames.items c.play_top.new.frames.items c.in-Some.ensures.plays c.requires.stacked

pub enter-requires-clause-ready : goal.enter-requires-clause-ready
enter-requires-clause-ready g c = record { reader = c.requires.ready.reader; kept = play_kept c.in-Some.child.plies c.args.machine.now c.play_top.new.frames.items c.in-Some.ensures.plays c.requires.ready.kept; played = play_played c.in-Some.child.plies c.args.machine.now.stack.frames.items c.play_top.new.frames.items c.in-Some.ensures.plays c.requires.ready.played }

pub returns-in-Some-clause-says : goal.returns-in-Some-clause-says
returns-in-Some-clause-says g c = λ listed serves. top_plays c.args.question.now.diagram.now c.args.question.now.plies listed (cuts_for (λ b. (goal.Bound-dyn g (b.vtable, b.value)).code_of b.value) (λ b. (goal.Bound-dyn g (b.vtable, b.value)).excluded b.value) c.args.question.now) c.args.tree (to_come c.args.machine.now.input.reader (g.S.Source.left c.args.source.now)) (to_come c.enter.new.machine.input.reader (g.S.Source.left c.enter.new.source)) c.args.machine.now (with_frames c.args.machine.now c.play_top.new.frames) c.enter.new.machine (spot_of c.in-Some.child.spot) c.in-Some.child.plies (stops (path (reverse c.enter.new.machine.stack.frames.items)) c.enter.result) c.in-Some.ensures.plays refl refl refl (c.enter.ensures.says listed serves)

pub returns-in-None-clause-says : goal.returns-in-None-clause-says
returns-in-None-clause-says g c = λ listed serves. top_closes c.args.question.now.diagram.now c.args.question.now.plies listed (cuts_for (λ b. (goal.Bound-dyn g (b.vtable, b.value)).code_of b.value) (λ b. (goal.Bound-dyn g (b.vtable, b.value)).excluded b.value) c.args.question.now) c.args.tree (to_come c.args.machine.now.input.reader (g.S.Source.left c.args.source.now)) c.args.machine.now c.play_top.new.frames c.close_top.new.stack c.close_top.new.table c.in-None.ensures.plays c.close_top.ensures

pub returns-in-None-clause-keeps : goal.returns-in-None-clause-keeps
returns-in-None-clause-keeps g c = record {
  ready = record {
    reader = c.requires.ready.reader;
    kept = closes_kept (record c.args.machine.now.stack { frames = c.play_top.new.frames }) c.close_top.new.stack c.args.machine.now.names.table c.close_top.new.table c.close_top.ensures (rw (same_items c.args.machine.now.stack.frames.items c.play_top.new.frames.items c.in-None.ensures.plays) c.requires.ready.kept);
    played = closes_played (record c.args.machine.now.stack { frames = c.play_top.new.frames }) c.close_top.new.stack c.args.machine.now.names.table c.close_top.new.table c.close_top.ensures (rw (same_items c.args.machine.now.stack.frames.items c.play_top.new.frames.items c.in-None.ensures.plays) c.requires.ready.played);
  };
  fails = tt;
  few = few_none (to_come c.args.machine.now.input.reader (g.S.Source.left c.args.source.now)) c.args.machine.now.input.records;
}

pub enter-requires-clause-played : goal.enter-requires-clause-played
enter-requires-clause-played g c = play_leads c.in-Some.child.plies c.args.machine.now.stack.frames.items c.play_top.new.frames.items c.in-Some.ensures.plays c.requires.ready.played

pub returns-in-None-clause-finds : goal.returns-in-None-clause-finds
returns-in-None-clause-finds g c = finding_none c.args.question.now.diagram.now c.args.question.now.plies c.args.machine.now.finds
