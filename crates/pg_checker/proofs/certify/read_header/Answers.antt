use Rattle.pg_checker.proofs.Common.{packed_of, to_come}
use Rattle.pg_checker.proofs.Certifying.{header_plies, header_diagram, unequal}
use Rattle.pg_checker.proofs.certify.read_header.Goals as goal

pub returns-then-header-plies-clause-err : goal.returns-then-header-plies-clause-err
returns-then-header-plies-clause-err g c = header_plies c.args.plies c.args.reader.now (g.S.Source.left c.args.source.now) (to_come c.header.new.self (g.S.Source.left c.header.new.source)) c.in-Ok.header c.requires.held c.in-Ok.ensures.bytes c.if-header-plies.true

pub returns-then-ne-clause-err : goal.returns-then-ne-clause-err
returns-then-ne-clause-err g c = header_diagram c.args.diagram.now c.args.plies c.args.reader.now (g.S.Source.left c.args.source.now) (to_come c.header.new.self (g.S.Source.left c.header.new.source)) c.in-Ok.header c.requires.held c.in-Ok.ensures.bytes c.if-header-plies.false (unequal c.in-Ok.header.diagram c.packed.result (packed_of c.args.diagram.now) c.ne.result c.ne.ensures c.if-ne.true c.packed.ensures.bytes)
