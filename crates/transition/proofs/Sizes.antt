-- The amounts of a slice of bytes have 128 bits.
use mathlib.Core.Path.{◌≡◌}
use mathlib.Core.Bool.{Bool, true, false, cond}
use mathlib.Core.List.{List, [], ◌∷◌}
use Prim.Native.Nat.{ℕ, zero, suc, ◌+◌, ◌^◌, ◌<◌}
use native.Mathlib.Omega.{arith}
use lib.Dec.{eqb}
use lib.ListN.{take, drop}
use lib.Seq.{get_or-drop}
use Rattle.amount.specs.declared.Amount.{Amount}
use Rattle.sheet.specs.Sheet.{u16_at, lookup, table, part_of}
use Rattle.sheet.specs.Amounts.{u32_at, u64_at, amount_at}
use Rattle.sheet.specs.declared.Entry.{Entry}
use Rattle.sheet.specs.Fields.{text, figure, other, field_of, field}
use Rattle.writer.proofs.RoundTrip.{Sized}
use Rattle.transition.specs.Written.{Bytes}
use Rattle.std.specs.Prelude.{None, Option, Some}

take_bytes : (n : ℕ) (s : List ℕ) → Bytes s → Bytes (take n s)
take_bytes zero s h k = omega arith
take_bytes (suc n) [] h k = omega arith
take_bytes (suc n) (b ∷ s) h zero = h 0
take_bytes (suc n) (b ∷ s) h (suc k) = take_bytes n s (λ j. h (suc j)) k

drop_bytes : (n : ℕ) (s : List ℕ) → Bytes s → Bytes (drop n s)
drop_bytes n s h k = rw (get_or-drop n s k 0) (h (n + k))

u16_fits : (s : List ℕ) (i : ℕ) → Bytes s → u16_at s i < 65536
u16_fits s i h = omega (arith, h i, h (i + 1))

u32_fits : (s : List ℕ) (i : ℕ) → Bytes s → u32_at s i < 4294967296
u32_fits s i h = omega (arith, u16_fits s i h, u16_fits s (i + 2) h)

u64_fits : (s : List ℕ) (i : ℕ) → Bytes s → u64_at s i < 2 ^ 64
u64_fits s i h = omega (arith, u32_fits s i h, u32_fits s (i + 4) h)

read_sized : (s : List ℕ) (i : ℕ) → Bytes s → Sized (amount_at s i)
unfolding amount_at
read_sized s i h = record { lo = u64_fits s i h; hi = u64_fits s (i + 8) h }

kind_sized : (t u : Bool) (body : List ℕ) (a : Amount) → Bytes body → cond t (text body) (cond u (figure (amount_at body 0)) other) ≡ figure a → Sized a
kind_sized true u body a h e = let z : ◌≡◌ {A = ℕ} 0 1 = cc in absurd (omega arith)
kind_sized false true body a h e =
    let q : amount_at body 0 ≡ a = cc in
    rw (← q) (read_sized body 0 h)
kind_sized false false body a h e = let z : ◌≡◌ {A = ℕ} 0 1 = cc in absurd (omega arith)

found_sized : (s : List ℕ) (f : Option Entry) (a : Amount) → Bytes s → field_of s f ≡ figure a → Sized a
found_sized s (Some e) a h q = kind_sized (eqb e.kind 1) (eqb e.kind 3) (part_of s e) a (take_bytes e.len (drop e.offset s) (drop_bytes e.offset s h)) q
found_sized s None a h q = let z : ◌≡◌ {A = ℕ} 0 1 = cc in absurd (omega arith)

pub field_sized : (s : List ℕ) → Bytes s → (name : ℕ) (a : Amount) → field s name ≡ figure a → Sized a
unfolding field
field_sized s h name a q = found_sized s (lookup name (table s)) a h q
