use Rattle.pg_san.proofs.Common.{◌<◌, length, bit_or, arith, nat_tests}
use Rattle.pg_san.proofs.KnownLemmas.{recalled}
use Rattle.pg_san.proofs.known.find.Goals as goal

pub returns-then-is_known : goal.returns-then-is_known
returns-then-is_known c =
    let low : c.args.place < length c.args.known.now = grind (arith, nat_tests) in
    recalled c.args.known.now c.args.place c.index-known-place.result c.index-known-place-then-is_known.result c.args.position.now c.args.text.now c.requires low c.index-known-place.is c.index-known-place-then-is_known.is (c.is_known.ensures c.if-is_known.true)

pub returns-then-is_known-2 : goal.returns-then-is_known-2
returns-then-is_known-2 c =
    let low : bit_or c.args.place 1 < length c.args.known.now = grind (arith, nat_tests) in
    recalled c.args.known.now (bit_or c.args.place 1) c.index-known-beside.result c.index-known-beside-then-is_known-2.result c.args.position.now c.args.text.now c.requires low c.index-known-beside.is c.index-known-beside-then-is_known-2.is (c.is_known-then-beside-known.ensures c.if-is_known-2.true)
