use Rattle.pg_san.proofs.Common.{◌≡◌, ◌≤◌, ◌<◌, ◌+◌, ◌∷◌, length, ap, ◌∙◌, arith, lines, lines_left, length_left}
use Rattle.pg_san.proofs.OrderLemmas.{no_games}
use Rattle.pg_san.proofs.ListingLemmas.{read_none, read_line_more, read_all, read_fault}
use Rattle.pg_san.proofs.listing.read_games.Goals as goal

pub loop-rest-init : goal.loop-rest-init
loop-rest-init c =
    let same : c.as_bytes.result.now ≡ c.args.text.now = c.as_bytes.ensures.value in
    record {
      few = rw same (omega arith);
      read = rw (same, c.new-games.ensures) (read_none (lines c.args.text.now) no_games);
    }

pub loop-rest-preserved : goal.loop-rest-preserved
loop-rest-preserved c =
    let cut : lines_left c.loop-rest.rest ≡ c.next_line.result.0.now ∷ lines_left c.next_line.result.1 = ap lines_left c.in-Some.is ∙ c.next_line.ensures.cut in
    let n : length_left c.loop-rest.rest ≡ length c.in-Some.left.now + 1 = ap length_left c.in-Some.is in
    let less : length_left c.next_line.result.1 < length c.in-Some.left.now + 1 = c.next_line.ensures.less in
    let before : c.loop-rest.number + length_left c.loop-rest.rest ≤ length c.args.text.now + 1 = c.loop-rest.invariant.few in
    let fits : c.loop-rest.number + 1 + length_left c.next_line.result.1 ≤ length c.args.text.now + 1 = omega arith in
    record {
      few = fits;
      read = read_line_more (lines c.args.text.now) (lines_left c.loop-rest.rest) (lines_left c.next_line.result.1) c.next_line.result.0.now c.loop-rest.number c.loop-rest.games c.read_line.new.games c.loop-rest.invariant.read cut c.in-Ok.ensures.ok;
    }

pub returns-in-Err-clause-err : goal.returns-in-Err-clause-err
returns-in-Err-clause-err c =
    let cut : lines_left c.loop-rest.rest ≡ c.next_line.result.0.now ∷ lines_left c.next_line.result.1 = ap lines_left c.in-Some.is ∙ c.next_line.ensures.cut in
    read_fault c.args.text.now (lines_left c.loop-rest.rest) (lines_left c.next_line.result.1) c.next_line.result.0.now c.loop-rest.number c.loop-rest.games c.in-Err.fault c.loop-rest.invariant.read cut c.in-Err.ensures.err

pub returns-clause-ok : goal.returns-clause-ok
returns-clause-ok c = read_all c.args.text.now (lines_left c.loop-rest.rest) c.loop-rest.number c.loop-rest.games c.loop-rest.invariant.read (ap lines_left c.in_default.is)
