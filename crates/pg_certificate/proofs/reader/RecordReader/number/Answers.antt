use Rattle.pg_certificate.proofs.Common.{◌≡◌, ◌<◌, ℕ, length, arith}
use Rattle.pg_certificate.proofs.Numbers.{number_text}
use Rattle.pg_certificate.proofs.reader.RecordReader.number.Goals as goal

pub returns-clause-text : goal.returns-clause-text
returns-clause-text g c =
    let len : length c.exact.new.out ≡ 4 = omega (arith, c.exact.auto.out) in
    let fits = λ (k : ℕ) (h : k < 4). c.in_ok-exact.ensures.fits k (omega arith) in
    number_text _ _ c.exact.new.out _ c.in_ok-exact.ensures.text len (fits 0 (omega arith)) (fits 1 (omega arith)) (fits 2 (omega arith)) (fits 3 (omega arith)) c.from_be_bytes.ensures
