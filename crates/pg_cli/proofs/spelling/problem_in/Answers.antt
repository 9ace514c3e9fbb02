use Rattle.pg_cli.proofs.Common.{found_of, rows_of}
use Rattle.pg_cli.proofs.WordLemmas.{is_of_words}
use Rattle.pg_cli.proofs.spelling.problem_in.Goals as goal

pub returns : goal.returns
returns c = is_of_words (rows_of (found_of c.args.words.now)) c.text_of-diagram.result.now c.text_of-length.result.now c.read.result
    c.text_of-diagram.ensures c.text_of-length.ensures c.read.ensures.ok c.read.ensures.err
