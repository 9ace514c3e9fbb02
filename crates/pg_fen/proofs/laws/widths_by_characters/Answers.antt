use Rattle.pg_fen.proofs.CharLemmas.{fields_by_chars, ranks_by_chars}
use Rattle.pg_fen.proofs.laws.widths_by_characters.Goals as goal

pub returns-clause-fields : goal.returns-clause-fields
returns-clause-fields c = fields_by_chars c.args.text.now c.utf8.text

pub returns-clause-widths : goal.returns-clause-widths
returns-clause-widths c = ranks_by_chars
