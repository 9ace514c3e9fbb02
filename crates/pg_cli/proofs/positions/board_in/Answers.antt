use Rattle.pg_cli.proofs.Common.{sym, subst, ℕ, List, Option, None, Some, codes, found_of, rows_of, fields, diagram_of, spelled, IsAsked}
use Rattle.pg_cli.proofs.WordLemmas.{is_read, word_or_none}
use Rattle.pg_cli.proofs.positions.board_in.Goals as goal

pub returns-in-Err-clause-err : goal.returns-in-Err-clause-err
returns-in-Err-clause-err c =
    is_read (λ (x : List ℕ). diagram_of (fields x)) c.text_of-text.result.now (spelled (codes "DIAGRAM") (rows_of (found_of c.args.words.now))) _ c.text_of-text.ensures c.in-Err.ensures.value

pub returns-in-None-clause-spelled : goal.returns-in-None-clause-spelled
returns-in-None-clause-spelled c = (
  is_read (λ (x : List ℕ). diagram_of (fields x)) c.text_of-text.result.now (spelled (codes "DIAGRAM") (rows_of (found_of c.args.words.now))) _ c.text_of-text.ensures c.in-Ok.ensures.value,
  subst (λ (o : Option (List ℕ)). IsAsked o None) (word_or_none (found_of c.args.words.now) (codes "LENGTH") None c.in-None.ensures) tt,
)

pub returns-in-Ok-read-clause-spelled : goal.returns-in-Ok-read-clause-spelled
returns-in-Ok-read-clause-spelled c = (
  is_read (λ (x : List ℕ). diagram_of (fields x)) c.text_of-text.result.now (spelled (codes "DIAGRAM") (rows_of (found_of c.args.words.now))) _ c.text_of-text.ensures c.in-Ok.ensures.value,
  subst (λ (o : Option (List ℕ)). IsAsked o (Some c.in-Ok-read.length)) (word_or_none (found_of c.args.words.now) (codes "LENGTH") (Some c.in-Some.word.now) c.in-Some.ensures) (sym c.in-Ok-read.ensures),
)

pub returns-in-Err-read-clause-err : goal.returns-in-Err-read-clause-err
returns-in-Err-read-clause-err c = (
  (
    c.in-Ok.diagram,
    is_read (λ (x : List ℕ). diagram_of (fields x)) c.text_of-text.result.now (spelled (codes "DIAGRAM") (rows_of (found_of c.args.words.now))) _ c.text_of-text.ensures c.in-Ok.ensures.value,
  ),
  (
    c.in-Some.word.now,
    sym (word_or_none (found_of c.args.words.now) (codes "LENGTH") (Some c.in-Some.word.now) c.in-Some.ensures),
    sym c.in-Err-read.ensures,
  ),
)
