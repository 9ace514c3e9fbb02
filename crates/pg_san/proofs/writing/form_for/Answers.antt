use Rattle.pg_san.proofs.MoveLemmas.{castles_there}
use Rattle.pg_san.proofs.Common.{KingSide, QueenSide}
use Rattle.pg_san.proofs.writing.form_for.Goals as goal

pub returns-then-castles : goal.returns-then-castles
returns-then-castles c = (castles_there c.args.position.now c.args.kind c.args.m.now KingSide c.requires.legal c.requires.stands).0 (c.castles.ensures.0 c.if-castles.true)

pub returns-then-castles-2 : goal.returns-then-castles-2
returns-then-castles-2 c = (castles_there c.args.position.now c.args.kind c.args.m.now QueenSide c.requires.legal c.requires.stands).0 (c.castles-2.ensures.0 c.if-castles-2.true)
