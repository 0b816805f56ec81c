use native.Mathlib.Omega.{arith}
use Rattle.report.proofs.Putting.{as_text_lem, at_most}
use Rattle.report.proofs.Digits.{one_digit, two_digits, three_digits}
use Rattle.report.proofs.page.Page.put_number.Goals as goal

pub returns-then-n-lt10 : goal.returns-then-n-lt10
returns-then-n-lt10 c = at_most (omega arith) (as_text_lem (one_digit _ (omega arith)) c.put.ensures)

pub returns-then-n-lt100 : goal.returns-then-n-lt100
returns-then-n-lt100 c = at_most (omega arith) (as_text_lem (two_digits _ (omega arith) (omega arith)) c.put-then-n-lt100.ensures)

pub returns : goal.returns
returns c = as_text_lem (three_digits _ (omega arith) (omega arith)) c.put-2.ensures
