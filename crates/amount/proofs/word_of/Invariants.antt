use Rattle.amount.proofs.Reading.{WordRead}
use Rattle.amount.proofs.word_of.Given as goal

abbrev pub invariant-loop-byte : goal.invariant-loop-byte
invariant-loop-byte l = WordRead l.text l.number l.byte-index
