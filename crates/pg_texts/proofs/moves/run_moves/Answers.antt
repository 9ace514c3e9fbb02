use Rattle.pg_moves.specs.Moves.{IsMoveList}
use Rattle.pg_texts.proofs.moves.run_moves.Goals as goal

pub returns-in-Ok-write_lines-clause-ok : goal.returns-in-Ok-write_lines-clause-ok
returns-in-Ok-write_lines-clause-ok g c =
    let (text, lines, grows) = c.in-Ok-write_lines.ensures.text in
    let listed : IsMoveList c.in-Ok.game.position c.as_slice.result.now = rw c.as_slice.ensures.value c.in-Ok-legal_moves.ensures.ok in
    (c.in-Ok.game.position, c.in-Ok.ensures.ok, (text, (c.as_slice.result.now, listed, lines), grows))
