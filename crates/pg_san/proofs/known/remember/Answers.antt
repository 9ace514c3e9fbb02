use Rattle.pg_san.proofs.Common.{◌<◌, length, bit_or, arith, All, nat_tests, All-set, IsKnown}
use Rattle.pg_san.proofs.KnownLemmas.{kept_beside}
use Rattle.pg_san.proofs.known.remember.Goals.{then-beside-known, else-beside-known}
use Rattle.pg_san.proofs.known.remember.Goals as goal

pub returns : goal.returns
returns c =
    let low : c.args.place < length c.args.known.now = grind (arith, nat_tests) in
    let all : All IsKnown c.if-beside-known.known = elim c.if-beside-known.branch [
      | then-beside-known w ↦ rw w.known-is (kept_beside c.args.known.now c.args.place (bit_or c.args.place 1) w.index-known-place.result c.requires.known low w.index-known-place.is)
      | else-beside-known w ↦ rw w.known-is c.requires.known
    ] in
    All-set IsKnown c.if-beside-known.known c.args.place c.known_of.result c.known_of.ensures all
