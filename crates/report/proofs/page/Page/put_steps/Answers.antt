use native.Mathlib.Numerals.{add-one}
use native.Mathlib.Omega.{arith}
use mathlib.Core.Path.{◌≡◌}
use lib.ListN.{length}
use lib.Seq.{take-length}
use Rattle.session.specs.Session.{no_answer}
use Rattle.report.specs.Listing.{step_lines}
use Rattle.report.proofs.Putting.{◌then◌, wrote_none, as_text_lem, at_most}
use Rattle.report.proofs.Turns.{step_more}
use Rattle.report.proofs.page.Page.put_steps.Goals as goal

pub loop-i-init : goal.loop-i-init
unfolding step_lines
loop-i-init c = wrote_none _

pub loop-i-preserved : goal.loop-i-preserved
loop-i-preserved c =
    let more = step_more 1 c.loop-i.i c.args.answers.now no_answer c.loop-i-test.true in
    rw add-one (at_most (omega arith) (as_text_lem more (c.loop-i.invariant then c.put_step.ensures)))

pub returns : goal.returns
returns c =
    let all : c.loop-i.i ≡ length c.args.answers.now = omega arith in
    at_most (omega arith) (rw (all, take-length) at c.loop-i.invariant)
