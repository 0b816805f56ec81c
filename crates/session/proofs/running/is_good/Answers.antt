use Rattle.std.proofs.Common.{sym, ◌∙◌}
use Rattle.session.specs.Session.{good}
use Rattle.session.proofs.running.is_good.Goals as goal

pub returns-then-is_sound : goal.returns-then-is_sound
unfolding good
returns-then-is_sound c = rw (sym c.is_sound.ensures ∙ c.if-is_sound.true, ← c.unit.ensures, ← c.start_outcome.ensures) c.is_ok.ensures.value

pub returns-else-is_sound : goal.returns-else-is_sound
unfolding good
returns-else-is_sound c = rw (c.if-is_sound.false, sym c.is_sound.ensures ∙ c.if-is_sound.false)
