use mathlib.Core.Path.{refl, ap, ◌∙◌}
use Prim.Native.Nat.{◌<◌, ◌+◌}
use native.Mathlib.Omega.{arith}
use Rattle.book.specs.Steps.{start_book}
use Rattle.session.specs.Session.{line_count, start_of, filled, bad_run, good_run}
use Rattle.session.proofs.Walking.{good_count}
use Rattle.session.proofs.Standing.{read_step, is_read, answers_length}
use Rattle.session.proofs.Rounds.{ran_none, ran_done, ran_refused, ran_all, fresh_total}
use Rattle.session.proofs.running.do_steps.Goals.{In-loop-j, in-Ok, in-Err}
use Rattle.session.proofs.running.do_steps.Goals as goal

pub overflow_sub-run : goal.overflow_sub-run
overflow_sub-run c = omega (arith, c.u16_at.ensures, (good_count _ c.requires.sound).0)

pub loop-j-init : goal.loop-j-init
unfolding bad_run filled
loop-j-init c = (rw c.requires.blank (ran_none _ _ _ (c.start_book-run.ensures ∙ ap start_book c.unit.ensures) (fresh_total _ c.requires.sound)), refl, refl)

-- the entry of a round is one of the session's
few : (c : In-loop-j) → (c.loop-j.j < 255) × (1 + c.loop-j.j < 256) × (1 + c.loop-j.j < line_count c.args.s.now)
few c =
    let g = good_count _ c.requires.sound in
    (omega (arith, g.1, c.u16_at.ensures, c.loop-j-test.true), omega (arith, g.1, c.u16_at.ensures, c.loop-j-test.true), omega (arith, c.u16_at.ensures, c.loop-j-test.true))

pub line_at-l-requires : goal.line_at-l-requires
line_at-l-requires c = omega (arith, (few (goal.at.line_at-l-requires c).In-loop-j).1)

pub unwrap-step-requires : goal.unwrap-step-requires
unwrap-step-requires c = is_read _ _ _ c.line_at-l.ensures c.step_of.ensures c.requires.sound (omega arith) (omega (arith, (few (goal.at.unwrap-step-requires c).In-loop-j).2))

pub bounds-run-j : goal.bounds-run-j
bounds-run-j c = (few (goal.at.bounds-run-j c).In-loop-j).0

pub loop-j-preserved : goal.loop-j-preserved
loop-j-preserved c =
    let f = few (goal.at.loop-j-preserved c).In-loop-j in
    let ran = c.loop-j.invariant.0 in
    let len = answers_length c.args.s.now c.requires.sound (start_of c.args.s.now) 1 (omega arith) c.loop-j.j (omega (arith, f.2)) in
    let step-is = read_step _ _ c.line_at-l.ensures c.step_of.ensures c.unwrap-step.ensures c.body.ensures in
    let turn = c.turn_in.ensures ran.total in
    elim c.match-turn_in.branch [
      | in-Ok w ↦ rw w.run-is (ran_done _ _ _ ran len f.0 step-is (rw w.in-Ok.is at turn.0) turn.1 (w.total-is ∙ (rw w.in-Ok.is at turn.2)), c.loop-j.invariant.1, c.loop-j.invariant.2)
      | in-Err w ↦ rw (w.total-is, w.run-is) (ran_refused _ _ _ ran len f.0 step-is _ (rw w.in-Err.is at turn.0) turn.1 w.from.ensures, c.loop-j.invariant.1, c.loop-j.invariant.2)
    ]

pub returns : goal.returns
unfolding good_run
returns c =
    let count = c.u16_at.ensures in
    let ran = c.loop-j.invariant in
    let len = answers_length c.args.s.now c.requires.sound (start_of c.args.s.now) 1 (omega arith) c.loop-j.j (omega (arith, count, (good_count _ c.requires.sound).0)) in
    rw (← count) (ran_all _ _ _ c.loop-j.run ran.0 len _ (omega arith) ran.1 ran.2)
