use Rattle.pg_fen.proofs.Common.{◌≡◌, ◌+◌, nat_eq, arith, length, slice_split, count_by, length-slice_split, is_slash}
use Rattle.pg_fen.proofs.placement.has_eight_ranks.Goals as goal

pub returns : goal.returns
returns c =
    let e : length (slice_split is_slash c.args.text.now) ≡ count_by is_slash c.args.text.now + 1 = length-slice_split is_slash c.args.text.now in
    let n = count_by is_slash c.args.text.now in
    let k : nat_eq n 7 ≡ nat_eq (n + 1) 8 = grind arith in
    rw (e, c.slash_count.ensures) k
