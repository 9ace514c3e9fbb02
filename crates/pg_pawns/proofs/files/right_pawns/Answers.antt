use Rattle.pg_pawns.proofs.FileLemmas.{right_counted}
use Rattle.pg_pawns.proofs.files.right_pawns.Goals as goal

pub returns-clause-value : goal.returns-clause-value
returns-clause-value c = right_counted c.args.board.now c.args.color c.args.n c.requires c.new.result c.squares_of.result _ _ _ c.new.ensures c.squares_of.ensures c.bitand.ensures.members c.len.ensures.squares c.of_bits.ensures
