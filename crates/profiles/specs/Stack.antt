-- Document 01, section "Operations", Check: the lists of the stack profile, in the document's order.
use Rattle.std.specs.Prelude.{List, [], ◌∷◌, ℕ}
use Rattle.sheet.specs.Fields.{Field, Sight, quantity, to_subject}
use Rattle.registry.specs.Tests.{born, in_text, in_amount, positive, draws_on, creates, Row, row, ruled}
use Rattle.registry.specs.Refusals.{Outcome, Reading}

-- 1 create; 2 credit and 9 adjust; 7 release; 8 expire; 3 debit, 4 consume and 6 reserve; 5 transfer
abbrev pub stack_rows : List Row
stack_rows =
    row (1 ∷ []) (creates quantity)
    ∷ row (2 ∷ 9 ∷ []) (born ∷ in_amount quantity ∷ [])
    ∷ row (7 ∷ []) (born ∷ in_amount quantity ∷ positive quantity ∷ [])
    ∷ row (8 ∷ []) (born ∷ [])
    ∷ row (3 ∷ 4 ∷ 6 ∷ []) (born ∷ draws_on quantity quantity)
    ∷ row (5 ∷ []) (born ∷ in_text to_subject ∷ draws_on quantity quantity)
    ∷ []

unfoldable pub stack_rules : (ℕ → Field → Reading) → Sight → (ℕ → Field) → ℕ → Outcome
stack_rules read st inp op = ruled read st inp op stack_rows
