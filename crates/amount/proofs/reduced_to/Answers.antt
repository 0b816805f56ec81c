use Rattle.amount.proofs.Scaling.{reduce_left, reduce_fresh}
use Rattle.amount.proofs.reduced_to.Goals as goal

pub returns-then-r : goal.returns-then-r
returns-then-r c = λ n j k h e f. reduce_left h k _ _ e f c.if-r.true

pub returns-else-r : goal.returns-else-r
returns-else-r c = λ n j k h e f. reduce_fresh h k _ _ e f c.if-r.false
