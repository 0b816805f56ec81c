use borrow.Author.Rules.{rules}
use mathlib.Core.Path.{sym, ◌∙◌}
use native.Mathlib.Omega.{arith}
use Rattle.session.proofs.Walking.{walk_start, walk_turn, walk_torn, too_long, no_entry, too_many, torn_entry, walk_end}
use Rattle.session.proofs.layout.is_sound.Goals as goal

pub returns-then-s-gt-MAX_BYTES : goal.returns-then-s-gt-MAX_BYTES
returns-then-s-gt-MAX_BYTES c = sym (too_long _ c.if-s-gt-MAX_BYTES.true)

pub returns-then-n-lt1 : goal.returns-then-n-lt1
returns-then-n-lt1 c = sym (no_entry _ (omega arith) (omega arith))

pub returns-then-n-gt-MAX_ENTRIES : goal.returns-then-n-gt-MAX_ENTRIES
returns-then-n-gt-MAX_ENTRIES c = sym (too_many _ (omega arith) (omega arith) (omega arith))

pub loop-k-init : goal.loop-k-init
loop-k-init c = (search rules, rw c.u16_at-n.ensures (walk_start _))

pub returns-then-not-line_fits : goal.returns-then-not-line_fits
returns-then-not-line_fits c =
    sym
    (torn_entry _ (omega arith) (omega arith) (omega arith)
    (walk_torn _ c.line_at-l.result _ _ c.loop-k.invariant.1 c.line_at-l.ensures _ (omega arith) (sym c.line_fits.ensures ∙ c.if-not-line_fits.true)))

pub loop-k-preserved : goal.loop-k-preserved
loop-k-preserved c =
    (search rules, walk_turn _ c.line_at-l.result _ _ c.loop-k.invariant.1 c.line_at-l.ensures (sym c.line_fits.ensures ∙ c.if-not-line_fits.false))

pub returns : goal.returns
returns c = sym (walk_end _ (omega arith) (omega arith) (omega arith) _ _ c.loop-k.invariant.1 (omega arith))
