use Rattle.pg_fen.proofs.Decimals.{front_is_digits}
use Rattle.pg_fen.proofs.length.read_plies.Goals as goal

pub number_up_to-requires-clause-digits : goal.number_up_to-requires-clause-digits
number_up_to-requires-clause-digits c =
    rw (c.split_at.ensures.front, c.digits_len.ensures.value) (front_is_digits c.args.bytes.now)
