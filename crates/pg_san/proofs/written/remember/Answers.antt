use Rattle.pg_san.proofs.Common.{◌<◌, length, bit_or, arith, All, nat_tests, All-set, IsWritten}
use Rattle.pg_san.proofs.WrittenLemmas.{kept_beside}
use Rattle.pg_san.proofs.written.remember.Goals.{then-beside-known, else-beside-known}
use Rattle.pg_san.proofs.written.remember.Goals as goal

pub returns : goal.returns
returns c =
    let low : c.args.place < length c.args.known.now = grind (arith, nat_tests) in
    let all : All IsWritten c.if-beside-known.known = elim c.if-beside-known.branch [
      | then-beside-known w ↦ rw w.known-is (kept_beside c.args.known.now c.args.place (bit_or c.args.place 1) w.index-known-place.result c.requires.known low w.index-known-place.is)
      | else-beside-known w ↦ rw w.known-is c.requires.known
    ] in
    All-set IsWritten c.if-beside-known.known c.args.place c.args.written c.requires.new all
