use Rattle.pg_checker.proofs.Common.{to_come, record_of}
use Rattle.pg_checker.specs.inner.Halting.{full}
use Rattle.pg_checker.proofs.Heads.{next_ok, next_unread, as_record, few_record}
use Rattle.pg_checker.proofs.node.next.Goals as goal

pub returns-in-Ok-clause-says : goal.returns-in-Ok-clause-says
returns-in-Ok-clause-says g c = λ game.
    next_ok c.args.reader.now.version (to_come c.args.reader.now (g.S.Source.left c.args.source.now)) (to_come c.next_bare.new.self (g.S.Source.left c.next_bare.new.source)) (record_of c.next_bare.new.prices c.in-Ok.bare) c.in-Ok.ensures.spelled c.in-Ok.ensures.found

pub returns-in-Ok-clause-few : goal.returns-in-Ok-clause-few
returns-in-Ok-clause-few g c = λ most. few_record c.args.reader.now.version (to_come c.args.reader.now (g.S.Source.left c.args.source.now)) (to_come c.next_bare.new.self (g.S.Source.left c.next_bare.new.source)) (g.S.Source.left c.next_bare.new.source) (record_of c.next_bare.new.prices c.in-Ok.bare) c.in-Ok.ensures.spelled c.in-Ok.ensures.found most

pub returns-in-Err-clause-says : goal.returns-in-Err-clause-says
returns-in-Err-clause-says g c = λ game. next_unread c.args.reader.now.version (to_come c.args.reader.now (g.S.Source.left c.args.source.now)) (to_come c.next_bare.new.self (g.S.Source.left c.next_bare.new.source)) c.in-Err.fault (full game c.halt_of.result) (c.halt_of.ensures.says game) (as_record c.args.reader.now.version c.next_bare.new.prices (to_come c.args.reader.now (g.S.Source.left c.args.source.now)) (to_come c.next_bare.new.self (g.S.Source.left c.next_bare.new.source)) c.in-Err.fault c.in-Err.ensures.bytes)
