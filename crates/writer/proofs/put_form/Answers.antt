use native.Mathlib.Omega.{arith}
use mathlib.Core.Path.{refl}
use Rattle.writer.proofs.Copying.{too_short, four_writes}
use Rattle.writer.proofs.put_form.Goals as goal

pub returns-in_err-end : goal.returns-in_err-end
returns-in_err-end c = rw c.from_residual.ensures (too_short c.args.form c.args.x.now c.args.y.now c.args.z.now c.args.out.now (omega (arith, c.in_err-end.ensures)))

pub returns : goal.returns
returns c = four_writes c.args.form c.args.x.now c.args.y.now c.args.z.now c.args.out.now _ _ _ _ _ _ _ _ refl refl (omega (arith, c.in_ok-end.ensures)) (omega (arith, c.in_ok-end.ensures)) c.head-table.ensures c.copy_at.ensures c.copy_at-2.ensures c.copy_at-3.ensures c.copy_at-4.ensures
