use Rattle.pg_cooks.proofs.Common.{◌≡◌, false, true, arith, rules, is_same}
use Rattle.pg_cooks.proofs.PartingLemmas.{ends_first, ends_second, goes_on, parts_here}
use Rattle.pg_cooks.proofs.parting.part.Goals as goal

pub loop-i-init : goal.loop-i-init
loop-i-init c = omega arith

pub returns-then-i-b : goal.returns-then-i-b
returns-then-i-b c = ends_second c.args.a.now c.args.b.now c.loop-i.i c.loop-i.invariant (omega arith)

pub returns-then-not-is_same : goal.returns-then-not-is_same
returns-then-not-is_same c =
    let off : is_same c.index-a-i.result c.index-b-i.result ≡ false = search rules in
    parts_here c.args.a.now c.args.b.now c.loop-i.i c.index-a-i.result c.index-b-i.result c.loop-i.invariant (omega arith) (omega arith) c.index-a-i.is c.index-b-i.is off

pub loop-i-preserved : goal.loop-i-preserved
loop-i-preserved c =
    let on : is_same c.index-a-i.result c.index-b-i.result ≡ true = search rules in
    goes_on c.args.a.now c.args.b.now c.loop-i.i c.index-a-i.result c.index-b-i.result c.loop-i.invariant (omega arith) (omega arith) c.index-a-i.is c.index-b-i.is on

pub returns : goal.returns
returns c = omega (arith, ends_first c.args.a.now c.args.b.now c.loop-i.i c.loop-i.invariant (omega arith))
