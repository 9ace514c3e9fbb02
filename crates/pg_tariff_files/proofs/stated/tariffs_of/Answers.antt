use Rattle.std.proofs.Common.{◌+◌, List, rules, subst, sym}
use Rattle.pg_tolls.specs.declared.tariff.Tariff.{Tariff as Told}
use Rattle.pg_tariff_files.specs.Files.{AreRead}
use Rattle.pg_tariff_files.proofs.StatedLemmas.{more_read}
use Rattle.pg_tariff_files.proofs.stated.tariffs_of.Goals as goal

pub loop-number-preserved : goal.loop-number-preserved
loop-number-preserved c =
    let n = c.loop-number.number in
    let before = c.loop-number.tariffs.items in
    record {
      few = search rules;
      are = subst (λ (ts : List Told). AreRead c.args.bytes.now ts (n + 1)) (sym c.in_ok-push.ensures.items)
          (more_read c.args.bytes.now before c.tariff_at.result n c.loop-number.invariant.are c.tariff_at.ensures);
    }
