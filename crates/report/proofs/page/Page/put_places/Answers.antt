use mathlib.Core.Path.{sym, ◌∙◌, ◌≡◌}
use native.Mathlib.Numerals.{add-one}
use native.Mathlib.Omega.{arith}
use borrow.Author.Rules.{rules}
use Rattle.book.specs.Book.{place_record}
use Rattle.book.proofs.Formed.{formed}
use Rattle.report.specs.Listing.{place_lines}
use Rattle.report.proofs.Putting.{◌then◌, wrote_none, as_text_lem, at_most}
use Rattle.report.proofs.Turns.{open_more, closed_more}
use Rattle.report.proofs.page.Page.put_places.Goals as goal
use Rattle.report.proofs.page.Page.put_places.Goals.{then-has, else-has}

pub loop-p-init : goal.loop-p-init
unfolding place_lines
loop-p-init c = wrote_none _

pub put_place-requires-clause-whole : goal.put_place-requires-clause-whole
unfolding place_record
put_place-requires-clause-whole c =
    let whole = (formed c.args.book.now c.requires.whole).whole_places c.loop-p.p (search rules) in
    (whole.balance, whole.reserved)

pub loop-p-preserved : goal.loop-p-preserved
loop-p-preserved c =
    let b = c.args.book.now in
    let p = c.loop-p.p in
    elim c.if-has.branch [
      | then-has w ↦
          let more = open_more b p (sym c.has.ensures ∙ w.if-has.true) in
          rw (w.self-is, add-one) (at_most (omega arith) (as_text_lem more (c.loop-p.invariant then w.put_place.ensures)))
      | else-has w ↦
          let more = closed_more b p (sym c.has.ensures ∙ w.if-has.false) in
          rw (w.self-is, add-one) (at_most (omega arith) (as_text_lem more c.loop-p.invariant))
    ]

pub returns : goal.returns
returns c =
    let all : c.loop-p.p ≡ 16 = omega arith in
    rw all at c.loop-p.invariant
