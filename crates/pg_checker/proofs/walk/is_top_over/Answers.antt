use Rattle.pg_checker.proofs.Common.{◌≡◌, ◌-◌, ◌<◌, length, arith, Passed}
use Rattle.pg_checker.proofs.Tops.{on_top}
use Rattle.pg_checker.proofs.walk.is_top_over.Goals as goal

pub returns-in-Some : goal.returns-in-Some
returns-in-Some c = on_top (Passed c.args.diagram.now c.is_over.result) c.args.frames.now.items (c.len-last.result - 1) c.in-Some.top.now c.is_over.new.top (let count : c.len-last.result ≡ length c.args.frames.now.items = c.len-last.ensures.value in let some : 0 < length c.args.frames.now.items = c.requires in omega arith) c.in-Some.ensures.value c.is_over.ensures
