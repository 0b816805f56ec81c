-- Document 01, section "Operations", Check: the lists of the balance profile, in the document's order.
use Rattle.std.specs.Prelude.{List, [], ◌∷◌, ℕ}
use Rattle.sheet.specs.Fields.{Field, Sight, balance, amount, to_subject, to_unit, authorized_by}
use Rattle.registry.specs.Tests.{Test, born, in_text, in_amount, st_amount, positive, draws_on, creates, Row, row, ruled}
use Rattle.registry.specs.Refusals.{Outcome, Reading}

-- in amount, st balance, 14
abbrev pub credited : List Test
credited = in_amount amount ∷ st_amount balance ∷ positive amount ∷ []

-- st balance, in amount, 14, 15
abbrev pub debited : List Test
debited = draws_on balance amount

-- 11 create; 12 mint; 13 credit and 17 release; 14 debit, 16 reserve and 18 spend; 15 transfer; 19 burn; 20 convert
abbrev pub balance_rows : List Row
balance_rows =
    row (11 ∷ []) (creates balance)
    ∷ row (12 ∷ []) (born ∷ in_text authorized_by ∷ credited)
    ∷ row (13 ∷ 17 ∷ []) (born ∷ credited)
    ∷ row (14 ∷ 16 ∷ 18 ∷ []) (born ∷ debited)
    ∷ row (15 ∷ []) (born ∷ in_text to_subject ∷ debited)
    ∷ row (19 ∷ []) (born ∷ in_text authorized_by ∷ debited)
    ∷ row (20 ∷ []) (born ∷ in_text to_unit ∷ debited)
    ∷ []

unfoldable pub balance_rules : (ℕ → Field → Reading) → Sight → (ℕ → Field) → ℕ → Outcome
balance_rules read st inp op = ruled read st inp op balance_rows
