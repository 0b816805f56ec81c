-- For the code: what it reads as the step of an entry.
use Rattle.std.proofs.Math.Option.{Option, some, none}
use Rattle.std.specs.Prelude.{List, ℕ, Some, None}
use Rattle.std.specs.Prelude as std
use Rattle.book.specs.Steps.{Step}
use Rattle.steps.specs.Turn.{with_sheet}
use Rattle.steps.specs.declared.step.Step.{Step as Kind}

abbrev pub entry_step : std.Option Kind → List ℕ → Option Step
entry_step (Some x) i = some (with_sheet x i)
entry_step None i = none
