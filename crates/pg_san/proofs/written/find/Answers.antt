use Rattle.pg_san.proofs.Common.{◌<◌, length, bit_or, arith, nat_tests}
use Rattle.pg_san.proofs.WrittenLemmas.{recalled}
use Rattle.pg_san.proofs.written.find.Goals as goal

pub returns-then-is_text_of : goal.returns-then-is_text_of
returns-then-is_text_of c =
    let low : c.args.place < length c.args.known.now = grind (arith, nat_tests) in
    recalled c.args.known.now c.args.place c.index-known-place.result c.index-known-place-then-is_text_of.result c.args.position.now c.args.m.now c.requires low c.index-known-place.is c.index-known-place-then-is_text_of.is (c.is_text_of.ensures c.if-is_text_of.true)

pub returns-then-is_text_of-2 : goal.returns-then-is_text_of-2
returns-then-is_text_of-2 c =
    let low : bit_or c.args.place 1 < length c.args.known.now = grind (arith, nat_tests) in
    recalled c.args.known.now (bit_or c.args.place 1) c.index-known-beside.result c.index-known-beside-then-is_text_of-2.result c.args.position.now c.args.m.now c.requires low c.index-known-beside.is c.index-known-beside-then-is_text_of-2.is (c.is_text_of-then-beside-known.ensures c.if-is_text_of-2.true)
