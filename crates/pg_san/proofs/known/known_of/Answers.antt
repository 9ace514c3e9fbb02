use Rattle.pg_san.proofs.Common.{[], ◌∷◌, drop, length}
use Rattle.pg_san.proofs.KnownLemmas.{kept}
use Rattle.pg_san.proofs.known.known_of.Goals as goal

pub returns : goal.returns
returns c = rw c.copy_from_slice.ensures.after (kept c.args.position.now c.args.found.now.next c.args.text.now (drop (length c.args.text.now) (0 ∷ 0 ∷ 0 ∷ 0 ∷ 0 ∷ 0 ∷ 0 ∷ 0 ∷ [])) c.args.found.now.m c.requires.reading.0 c.requires.reading.1)
