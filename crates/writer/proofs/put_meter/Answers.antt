use Rattle.writer.specs.Encode.{meter_sheet}
use Rattle.writer.proofs.put_meter.Goals as goal

pub returns : goal.returns
unfolding meter_sheet
returns c = rw (← c.amount_bytes-first.ensures, ← c.amount_bytes-second.ensures) c.put_form.ensures
