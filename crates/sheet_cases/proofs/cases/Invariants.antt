use Rattle.std.proofs.Common.{length}
use Rattle.sheet_cases.proofs.cases.Given as goal

abbrev pub decreases-loop-s : goal.decreases-loop-s
decreases-loop-s g l = length l.s
