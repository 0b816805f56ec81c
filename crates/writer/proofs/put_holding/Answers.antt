use Rattle.writer.proofs.put_holding.Goals as goal

pub returns : goal.returns
returns c = rw (← c.amount_bytes-bytes.ensures) c.put_form.ensures
