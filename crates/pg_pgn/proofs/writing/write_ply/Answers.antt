use Rattle.pg_pgn.proofs.Common.{◌∙◌}
use Rattle.pg_pgn.proofs.WritingLemmas.{ply_written}
use Rattle.pg_pgn.proofs.writing.write_ply.Goals as goal

pub returns-clause-text : goal.returns-clause-text
returns-clause-text g c =
    ply_written c.write_word.result c.args.n c.args.ply c.in_ok-n.n c.args.position.now c.args.m.now c.write_with-san.result.bytes c.as_bytes.result.now (g.W.Sink.held c.args.out.now) (g.W.Sink.held c.write_number.new.out) (g.W.Sink.held c.write_word.new.out) c.write_with-san.ensures (c.as_bytes.ensures.value ∙ c.deref.ensures.0) c.in_ok-n.ensures.push.text c.in_ok-n.ensures.columns c.write_word.ensures.push.text c.write_word.ensures.columns
