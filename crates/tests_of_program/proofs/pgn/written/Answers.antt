use Rattle.tests_of_program.proofs.pgn.written.Goals as goal

pub write-requires : goal.write-requires
write-requires c = c.is_legal.ensures.0 c.if-is_legal.true
