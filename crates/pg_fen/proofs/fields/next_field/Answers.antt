use Rattle.pg_fen.proofs.Common.{◌<◌, length, ℕ, take, drop, ap, ◌∙◌, arith, is_field_gap}
use Rattle.pg_fen.proofs.Cutting.{no_part, first_part}
use Rattle.pg_fen.proofs.fields.next_field.Goals as goal

pub returns-then-is_empty-clause-cut : goal.returns-then-is_empty-clause-cut
returns-then-is_empty-clause-cut c =
    no_part is_field_gap c.args.text.now c.split_at.result.1.now
    (c.split_at.ensures.back ∙ ap (λ (n : ℕ). drop n c.args.text.now) c.gap_len.ensures.value) (grind arith)

pub returns-clause-cut : goal.returns-clause-cut
returns-clause-cut c =
    let rest = c.split_at.result.1.now in
    let some : 0 < length rest = grind arith in
    (first_part is_field_gap c.args.text.now rest c.split_at-2.result.0.now c.split_at-2.result.1.now
    (c.split_at.ensures.back ∙ ap (λ (n : ℕ). drop n c.args.text.now) c.gap_len.ensures.value) some
    (c.split_at-2.ensures.front ∙ ap (λ (n : ℕ). take n rest) c.word_len.ensures.value)
    (c.split_at-2.ensures.back ∙ ap (λ (n : ℕ). drop n rest) c.word_len.ensures.value)).0

pub returns-clause-less : goal.returns-clause-less
returns-clause-less c =
    let rest = c.split_at.result.1.now in
    let some : 0 < length rest = grind arith in
    (first_part is_field_gap c.args.text.now rest c.split_at-2.result.0.now c.split_at-2.result.1.now
    (c.split_at.ensures.back ∙ ap (λ (n : ℕ). drop n c.args.text.now) c.gap_len.ensures.value) some
    (c.split_at-2.ensures.front ∙ ap (λ (n : ℕ). take n rest) c.word_len.ensures.value)
    (c.split_at-2.ensures.back ∙ ap (λ (n : ℕ). drop n rest) c.word_len.ensures.value)).1
