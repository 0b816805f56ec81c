-- Document 01, section "Operations", Check: the lists of the meter profile, in the document's order.
use Rattle.std.specs.Prelude.{List, [], ◌∷◌, ℕ}
use Rattle.sheet.specs.Fields.{Field, Sight, subject, remaining, maximum, amount}
use Rattle.registry.specs.Tests.{unborn, born, in_text, in_amount, st_amount, up_to_maximum, draws_on, Row, row, ruled}
use Rattle.registry.specs.Refusals.{Outcome, Reading}

-- 21 create; 22 consume; 23 refill; 24 set_maximum; 25 reset and 26 expire
abbrev pub meter_rows : List Row
meter_rows =
    row (21 ∷ []) (unborn ∷ in_text subject ∷ in_amount remaining ∷ in_amount maximum ∷ up_to_maximum remaining maximum ∷ [])
    ∷ row (22 ∷ []) (born ∷ draws_on remaining amount)
    ∷ row (23 ∷ []) (born ∷ st_amount remaining ∷ st_amount maximum ∷ [])
    ∷ row (24 ∷ []) (born ∷ in_amount maximum ∷ [])
    ∷ row (25 ∷ 26 ∷ []) (born ∷ [])
    ∷ []

unfoldable pub meter_rules : (ℕ → Field → Reading) → Sight → (ℕ → Field) → ℕ → Outcome
meter_rules read st inp op = ruled read st inp op meter_rows
