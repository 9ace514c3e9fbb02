use Rattle.pg_cli.proofs.Common.{inl, inr, subst, Option, IfSome, IsEntry, Entry}
use Rattle.pg_cli.proofs.JudgeLemmas.{bad_adds, place_adds, ruled_adds}
use Rattle.pg_cli.proofs.WrittenLemmas.{held_by}
use Rattle.pg_cli.proofs.judging.judge_line.Goals as goal

pub returns-in-Err-clause-row : goal.returns-in-Err-clause-row
returns-in-Err-clause-row g c = bad_adds c.args.line.now c.say_bad.result (held_by g.W.Sink.held c.args.out.now) c.say_bad.ensures (inl (c.in-Err.fault, c.in-Err.ensures.err))

pub returns-in-Ok-false-clause-row : goal.returns-in-Ok-false-clause-row
returns-in-Ok-false-clause-row g c =
    let is = subst (λ (o : Option Entry). IfSome o (λ e. IsEntry c.args.line.now e)) c.in-Ok-Some.field-0-is c.in-Ok-Some.ensures.ok in
    bad_adds c.args.line.now c.say_bad-in-Ok-false.result (held_by g.W.Sink.held c.args.out.now) c.say_bad-in-Ok-false.ensures (inr (c.in-Ok-Some.entry, is))

pub returns-in-Ok-clause-row : goal.returns-in-Ok-clause-row
returns-in-Ok-clause-row g c =
    let is = subst (λ (o : Option Entry). IfSome o (λ e. IsEntry c.args.line.now e)) c.in-Ok-Some.field-0-is c.in-Ok-Some.ensures.ok in
    ruled_adds c.args.line.now c.in-Ok.status c.in-Ok-Some.entry (held_by g.W.Sink.held c.args.out.now) (held_by g.W.Sink.held c.judge_and_tell.new.out) is c.in-Ok.ensures.row

pub returns-clause-row : goal.returns-clause-row
returns-clause-row g c =
    let is = subst (λ (o : Option Entry). IfSome o (λ e. IsEntry c.args.line.now e)) c.in-Ok-Some.field-0-is c.in-Ok-Some.ensures.ok in
    place_adds g.W.Sink.held c.args.line.now c.say_bad-in-Err-Place.result c.in-Err-Place.fault c.in-Err-Place.field-0 c.args.out.now c.judge_and_tell.new.out
    c.say_bad-in-Err-Place.ensures (inr (c.in-Ok-Some.entry, is)) c.in-Err-Place.field-0-is c.in-Err-Place.ensures.unwritten
