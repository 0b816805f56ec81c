use native.Mathlib.Numerals.{add-one}
use native.Mathlib.Omega.{arith}
use borrow.Author.Rules.{rules}
use Rattle.report.proofs.Putting.{one_more, full, all_in}
use Rattle.report.proofs.page.Page.put.Goals as goal

pub loop-i-preserved : goal.loop-i-preserved
loop-i-preserved c =
    let l = c.loop-i in
    record {
      bytes = rw add-one (one_more c.args.self.now.out.now c.args.text.now _ c.args.self.now.at l.i (search rules) l.invariant.bytes);
      behind = l.invariant.behind;
      same_buffer = l.invariant.same_buffer;
    }

pub returns-then-self-at : goal.returns-then-self-at
returns-then-self-at c =
    let l = c.loop-i in
    record {
      bytes = full c.args.self.now.out.now c.args.text.now _ c.args.self.now.at l.i c.loop-i-test.true c.if-self-at.true l.invariant.bytes;
      behind = l.invariant.behind;
      within = omega arith;
      same_buffer = l.invariant.same_buffer;
    }

pub returns : goal.returns
returns c =
    let l = c.loop-i in
    record {
      bytes = all_in c.args.self.now.out.now c.args.text.now _ c.args.self.now.at l.i (omega arith) l.invariant.bytes;
      behind = l.invariant.behind;
      within = omega arith;
      same_buffer = l.invariant.same_buffer;
    }
