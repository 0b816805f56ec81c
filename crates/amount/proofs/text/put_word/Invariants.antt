use Rattle.amount.proofs.Writing.{Writing}
use Rattle.amount.proofs.text.put_word.Given as goal

abbrev pub invariant-loop-k : goal.invariant-loop-k
invariant-loop-k l = Writing l.initial.out l.at l.n l.out l.rest l.k
