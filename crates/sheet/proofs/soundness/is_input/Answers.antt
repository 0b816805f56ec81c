use Rattle.std.proofs.Common.{sym, ◌∙◌}
use Rattle.sheet.proofs.Walking.{walk_start, walk_turn, walk_end}
use Rattle.sheet.proofs.soundness.is_input.Goals as goal

pub loop-e-init : goal.loop-e-init
loop-e-init c = rw c.new-reader.ensures (walk_start _)

pub loop-e-preserved : goal.loop-e-preserved
loop-e-preserved c =
    rw c.next_if_fits.ensures.moved (walk_turn _ _ _ c.loop-e.invariant _ (sym c.next_if_fits.ensures.found ∙ c.in-Some.is))

pub returns : goal.returns
returns c =
    rw (c.is_at_end.ensures, c.next_if_fits.ensures.moved)
    (walk_end _ _ _ c.loop-e.invariant (sym c.next_if_fits.ensures.found ∙ c.in_default.is))
