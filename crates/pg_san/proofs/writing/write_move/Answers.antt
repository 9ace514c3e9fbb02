use Rattle.pg_san.proofs.SpellLemmas.{writable}
use Rattle.pg_san.proofs.writing.write_move.Goals as goal

pub write_form-requires : goal.write_form-requires
write_form-requires c = writable c.args.position.now c.mover-kind.result c.args.m.now c.form_for-form.result c.args.next.now c.sign_after.result.now c.mover-kind.ensures (c.args.next.now, c.requires) c.form_for-form.ensures c.sign_after.ensures

pub returns : goal.returns
returns c = record {
  kind = c.mover-kind.result;
  form = c.form_for-form.result;
  sign = c.sign_after.result.now;
  after = c.args.next.now;
  stands = c.mover-kind.ensures;
  form_is = c.form_for-form.ensures;
  legal = c.requires;
  sign_is = c.sign_after.ensures;
  spelled = c.write_form.ensures;
}
