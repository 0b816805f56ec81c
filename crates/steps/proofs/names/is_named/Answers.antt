use Rattle.std.proofs.Common.{ℕ, List, ap, ◌∙◌}
use Rattle.book.specs.Steps.{same_bytes}
use Rattle.steps.proofs.Same.{same_text}
use Rattle.steps.proofs.names.is_named.Goals as goal

pub returns : goal.returns
returns c = c.eq.ensures ∙ same_text c.as_bytes.result.now c.args.text.now ∙ ap (λ (a : List ℕ). same_bytes a c.args.text.now) c.as_bytes.ensures.text
