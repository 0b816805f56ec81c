use Rattle.amount.proofs.Assembling.{text_bytes}
use Rattle.amount.specs.Canonical.{canonical_text}
use Rattle.std.proofs.Common.{◌≡◌, ◌∙◌}
use Rattle.amount.proofs.text.AmountDisplay.fmt.Goals as goal

pub returns-clause-writes : goal.returns-clause-writes
returns-clause-writes g c =
    let e : c.in-Ok.text.now ≡ canonical_text c.args.self.now = c.in-Ok.ensures.cases.0 ∙ c.as_bytes.ensures ∙ rw c.to_canonical_string-text.ensures (text_bytes _) in
    λ p ok. rw (← e) (c.write_str.ensures.writes p ok)
