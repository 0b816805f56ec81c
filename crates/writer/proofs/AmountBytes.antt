-- "3 amount (17 bytes: mantissa, scale)": the bytes of an amount read back as the amount. The theorem is `amount_back`.
use mathlib.Core.Path.{◌≡◌, ◌∙◌}
use mathlib.Core.List.{List, ◌∷◌, ◌++◌}
use Prim.Native.Nat.{ℕ, ◌+◌, ◌*◌, ◌<◌, ◌^◌}
use native.Mathlib.Omega.{arith}
use Rattle.std.proofs.lemmas.Nat.{from_le_bytes-to_le_bytes_8}
use Rattle.amount.specs.declared.Amount.{Amount}
use Rattle.sheet.specs.Amounts.{u64_at, le8, amount_at, amount_bytes}

-- pairs of pairs of bytes are eight bytes in a row, as std has them
in_pairs : (a b c d e f g h : ℕ)
    → a + 256 * b + 65536 * (c + 256 * d) + 4294967296 * (e + 256 * f + 65536 * (g + 256 * h))
    ≡ a + b * 256 + c * 65536 + d * 16777216 + e * 4294967296 + f * 1099511627776 + g * 281474976710656 + h * 72057594037927936
in_pairs a b c d e f g h = omega arith

pub le8_back : (n : ℕ) (rest : List ℕ) → n < 2 ^ 64 → u64_at (le8 n rest) 0 ≡ n
le8_back n rest h = in_pairs _ _ _ _ _ _ _ _ ∙ from_le_bytes-to_le_bytes_8 n h

-- THE THEOREM: wherever its bytes stand first
pub amount_back : (a : Amount) (rest : List ℕ) → a.mantissa.lo < 2 ^ 64 → a.mantissa.hi < 2 ^ 64 → amount_at (amount_bytes a ++ rest) 0 ≡ a
unfolding amount_at
amount_back a rest hl hh =
    let l : u64_at (le8 a.mantissa.lo (le8 a.mantissa.hi (a.scale ∷ rest))) 0 ≡ a.mantissa.lo =
    le8_back a.mantissa.lo (le8 a.mantissa.hi (a.scale ∷ rest)) hl in
    let g : u64_at (le8 a.mantissa.hi (a.scale ∷ rest)) 0 ≡ a.mantissa.hi = le8_back a.mantissa.hi (a.scale ∷ rest) hh in
    λ i. record { mantissa = record { hi = g i; lo = l i }; scale = a.scale }
