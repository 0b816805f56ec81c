use Rattle.amount.proofs.Reading.{Numbered}
use Rattle.std.specs.Slice.Iter.{chunks_rest, chunks_size}
use Rattle.std.proofs.Common.{◌≡◌}
use Rattle.amount.proofs.Amount.try_from_str.Given as goal

abbrev pub invariant-loop-part : goal.invariant-loop-part
invariant-loop-part l = Numbered l.text l.mantissa (chunks_rest l.part-iterator) × (chunks_size l.part-iterator ≡ 9)
