use Rattle.pg_checker.proofs.Common.{◌≡◌, ◌-◌, ◌<◌, length, arith, HasNone, Plays, spot_of}
use Rattle.pg_checker.specs.declared.spot.Child.{Child}
use Rattle.pg_checker.proofs.Tops.{each_on_top}
use Rattle.pg_checker.proofs.walk.play_top.Goals as goal

pub returns-in-Some : goal.returns-in-Some
returns-in-Some c = record { plays = each_on_top c.play_on.result HasNone (λ (child : Child). Plays c.args.fertile (spot_of child.spot) child.plies) c.args.frames.now.items (c.len-last.result - 1) c.in-Some.top.now c.play_on.new.top (let count : c.len-last.result ≡ length c.args.frames.now.items = c.len-last.ensures.value in let some : 0 < length c.args.frames.now.items = c.requires in omega arith) c.in-Some.ensures.value c.play_on.ensures.plays; reached = c.play_on.ensures.reached }
