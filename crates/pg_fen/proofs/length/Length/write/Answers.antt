use Rattle.pg_fen.proofs.Common.{◌≡◌, ◌+◌, ◌/◌, ◌%◌, ◌≤◌, [], ◌∷◌, ◌++◌, ap, ◌∙◌, arith, append_assoc, decimal, length_text, length_of}
use Rattle.pg_fen.proofs.Decimals.{decimal_of_two}
use Rattle.pg_fen.proofs.LengthLemmas.{written_again, written_alone}
use Rattle.pg_fen.proofs.length.Length.write.Goals as goal
use Rattle.pg_fen.proofs.length.Length.write.Goals.{then-moves-ge10, else-moves-ge10, then-self-eq0, else-self-eq0}

pub returns-clause-text : goal.returns-clause-text
unfolding length_text
returns-clause-text c =
    let m = c.args.self / 2 in
    let low : c.args.self ≤ 128 = omega arith in
    let front = c.if-moves-ge10.text.bytes in
    let whole : decimal m ≡ front ++ (48 + m % 10) ∷ [] =
    elim c.if-moves-ge10.branch [
      | then-moves-ge10 w ↦ decimal_of_two m front (omega arith) (λ _. grind arith) (λ lt. absurd (omega arith))
      | else-moves-ge10 w ↦ decimal_of_two m front (omega arith) (λ le. absurd (omega arith)) (λ _. grind arith)
    ] in
    elim c.if-self-eq0.branch [
      | then-self-eq0 w ↦ grind (arith, append_assoc)
      | else-self-eq0 w ↦ grind (arith, append_assoc)
    ]

pub returns-clause-read_again : goal.returns-clause-read_again
returns-clause-read_again c =
    let low : c.args.self ≤ 128 = omega arith in
    ap length_of (returns-clause-text c) ∙ written_again c.args.self low

pub returns-clause-alone : goal.returns-clause-alone
returns-clause-alone c = λ other le e.
    let low : c.args.self ≤ 128 = omega arith in
    written_alone other c.args.self le low (e ∙ returns-clause-text c)
