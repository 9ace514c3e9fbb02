use Rattle.pg_texts.proofs.Common.{◌+◌, ◌*◌, ◌<◌, ℕ, subst, arith, Consumes-kept, flat_map, to_come, Leaves, more_at, spelling, longest_record}
use Rattle.pg_texts.proofs.UpgradeLemmas.{ended, too_many, stopped, one_copied, gone_with, gone_copied, few_copied}
use Rattle.pg_texts.proofs.upgrading.copy_records.Goals as goal

pub returns-in-Ok-false-clause-answer : goal.returns-in-Ok-false-clause-answer
returns-in-Ok-false-clause-answer g c = ended c.records.count c.args.max_records _ _ _ _ _ c.records.invariant.copied c.records.invariant.few c.in-Ok-false.ensures.kept (c.in-Ok-false.ensures.end c.in-Ok-false.field-0-test)

pub returns-in-Ok-false-clause-takes : goal.returns-in-Ok-false-clause-takes
returns-in-Ok-false-clause-takes g c = gone_copied c.records.count c.args.max_records _ _ _ _ _ c.records.invariant.copied (omega (arith, c.records.invariant.few)) c.in-Ok-false.ensures.pulls

pub returns-then-count-max_records-clause-err : goal.returns-then-count-max_records-clause-err
returns-then-count-max_records-clause-err g c =
    too_many c.records.count c.args.max_records _ _ _ _ _ c.records.invariant.copied c.if-count-max_records.true
    (subst (Leaves more_at (to_come c.records.reader (g.R.Source.left c.records.source)) (to_come c.more.new.self (g.R.Source.left c.more.new.source))) c.in-Ok-true.field-0-test c.in-Ok-true.ensures.bytes)

pub returns-then-count-max_records-clause-takes : goal.returns-then-count-max_records-clause-takes
returns-then-count-max_records-clause-takes g c = gone_copied c.records.count c.args.max_records _ _ _ _ _ c.records.invariant.copied (omega (arith, c.records.invariant.few)) c.in-Ok-true.ensures.pulls

pub returns-in-Err-copy_record-clause-err : goal.returns-in-Err-copy_record-clause-err
returns-in-Err-copy_record-clause-err g c =
    let few : c.records.count < c.args.max_records = omega (arith, c.records.invariant.few, c.if-count-max_records.false) in
    stopped c.records.count c.args.max_records _ _ _ _ _ _ _ c.in-Err-copy_record.fault c.records.invariant.copied few
    (subst (Leaves more_at (to_come c.records.reader (g.R.Source.left c.records.source)) (to_come c.more.new.self (g.R.Source.left c.more.new.source))) c.in-Ok-true.field-0-test c.in-Ok-true.ensures.bytes)
    c.in-Err-copy_record.ensures.err

pub returns-in-Err-copy_record-clause-takes : goal.returns-in-Err-copy_record-clause-takes
returns-in-Err-copy_record-clause-takes g c =
    let copied = c.records.invariant.copied in
    let few : c.records.count < c.args.max_records = omega (arith, c.records.invariant.few, c.if-count-max_records.false) in
    gone_with (Unit {0}) ℕ _ _ _ (flat_map spelling copied.nodes) (longest_record * c.records.count) (longest_record + 4096) (longest_record * c.args.max_records + 4096) c.in-Err-copy_record.fault (Consumes-kept _ _ _ _ copied.taken c.in-Ok-true.ensures.kept) (few_copied _ _ _ _ _ copied) (omega (arith, few)) c.in-Err-copy_record.ensures.takes

pub records-preserved : goal.records-preserved
records-preserved g c = record {
  copied = one_copied c.records.count _ _ _ _ _ _ _ c.records.invariant.copied c.in-Ok-true.ensures.kept c.in-Ok.ensures.copied;
  few = omega (arith, c.records.invariant.few, c.if-count-max_records.false);
  copying = c.in-Ok.ensures.copying;
  held = c.in-Ok.ensures.held;
}
