-- Document 01, section "Sheets", kind 3: an amount's 17 bytes, mantissa and scale, the lowest byte first.
use Rattle.std.specs.Prelude.{List, [], ◌∷◌, ℕ, ◌+◌, ◌*◌, ◌/◌, ◌%◌, get_or}
use Rattle.amount.specs.declared.Amount.{Amount}
use Rattle.sheet.specs.Sheet.{u16_at}

abbrev pub u32_at : List ℕ → ℕ → ℕ
u32_at s i = u16_at s i + 65536 * u16_at s (i + 2)

abbrev pub u64_at : List ℕ → ℕ → ℕ
u64_at s i = u32_at s i + 4294967296 * u32_at s (i + 4)

-- the amount whose bytes start at i
unfoldable pub amount_at : List ℕ → ℕ → Amount
amount_at s i = record { mantissa = record { hi = u64_at s (i + 8); lo = u64_at s i }; scale = get_or s (i + 16) 0 }

-- eight bytes of n, and then `rest`
abbrev pub le8 : ℕ → List ℕ → List ℕ
le8 n rest =
    n % 256 ∷ n / 256 % 256 ∷ n / 65536 % 256 ∷ n / 16777216 % 256
    ∷ n / 4294967296 % 256 ∷ n / 1099511627776 % 256 ∷ n / 281474976710656 % 256 ∷ n / 72057594037927936 % 256 ∷ rest

-- the bytes of an amount
abbrev pub amount_bytes : Amount → List ℕ
amount_bytes a = le8 a.mantissa.lo (le8 a.mantissa.hi (a.scale ∷ []))
