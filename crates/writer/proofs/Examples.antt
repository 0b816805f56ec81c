-- Document 01's section "Sheets" on a worked sheet that is written, by computation.
use mathlib.Core.Path.{◌≡◌, refl, ap}
use mathlib.Core.List.{List, [], ◌∷◌}
use Prim.Native.Nat.{ℕ}
use native.Mathlib.Omega.{arith}
use lib.ListN.{length}
use Rattle.sheet.proofs.Examples.{held}
use Rattle.writer.specs.Encode.{encode, balance_sheet, over, put_into}

written : balance_sheet (78 ∷ 49 ∷ []) (114 ∷ 100 ∷ []) (record { mantissa = record { hi = 0; lo = 12 }; scale = 1 }) ≡ held
unfolding balance_sheet encode
written = refl

-- a buffer that is too short is not written: there is one that writing alters
pub not_where_narrow : put_into (1 ∷ []) [] ≡ over (1 ∷ []) [] → ⊥
unfolding put_into
not_where_narrow h = let e : ◌≡◌ {A = ℕ} 0 1 = ap (λ (l : List ℕ). length l) h in absurd (omega (arith, e))
