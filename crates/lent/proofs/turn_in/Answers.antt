-- What `take_turn` is shown is what the step looks at, and so what it says and leaves is the step's.
use mathlib.Core.Path.{◌≡◌, refl, sym, ap, ◌∙◌}
use Prim.Native.Nat.{ℕ, ◌≤◌}
use lib.ListN.{length}
use native.Mathlib.Omega.{arith}
use Rattle.std.proofs.Common.{rules}
use Rattle.std.specs.Prelude.{Result, Ok, Err}
use Rattle.registry.proofs.Tests.{exits}
use Rattle.book.specs.Book.{name_bytes, place_record, transfer_record}
use Rattle.book.specs.declared.error.BookError.{BookError}
use Rattle.steps.specs.Turn.{Turned, stored_at}
use Rattle.steps.specs.declared.step.View.{View}
use Rattle.lent.proofs.Shown.{shown, stored_so, done, undone}
use Rattle.lent.proofs.turn_in.Goals as goal

pub overflow_cast-named : goal.overflow_cast-named
overflow_cast-named c = omega (arith, c.as_bytes.ensures.short)

pub returns-in_err-left : goal.returns-in_err-left
unfolding place_record transfer_record
returns-in_err-left c e =
    let b = c.args.book.now in
    let s = c.args.step in
    let m : Turned b s c.args.sheet.now c.take_turn.result =
    c.take_turn.ensures b (shown b s c.transfer.ensures c.place.ensures c.destination.ensures (ap length c.as_bytes.ensures.text) e c.is_awaited-awaited.ensures) refl in
    let m' : Turned b s c.args.sheet.now (Err c.in_err-left.field-0.0) = rw c.in_err-left.was at m in
    undone b s c.args.sheet.now m' _ _ (exits _ _ c.from_residual.ensures.1)

pub returns : goal.returns
unfolding place_record transfer_record stored_at
returns c e =
    let b = c.args.book.now in
    let s = c.args.step in
    let m : Turned b s c.args.sheet.now c.take_turn.result =
    c.take_turn.ensures b (shown b s c.transfer.ensures c.place.ensures c.destination.ensures (ap length c.as_bytes.ensures.text) e c.is_awaited-awaited.ensures) refl in
    let m' : Turned b s c.args.sheet.now (Ok c.in_ok-left.left) = rw c.in_ok-left.was at m in
    done b s c.args.sheet.now (record { places = search rules; transfers = search rules; opened = search rules; pending = search rules }) c.in_ok-left.left m'
    (stored_so b s c.transfer.ensures c.place.ensures c.args.sheet.now c.in_ok-left.left c.subject-place.ensures)
