-- Document 01's section "Operations" on worked readings and tests, by computation: what an amount's text is read as, the bounds of 15 and 16,
-- and which refusal comes first where two apply.
use mathlib.Core.Path.{◌≡◌, refl}
use mathlib.Core.Bool.{true, false}
use mathlib.Core.List.{[], ◌∷◌, ◌++◌, map}
use Prim.Native.Nat.{ℕ}
use lib.ListN.{replicate}
use Rattle.amount.specs.Numbers.{val, limit, halves, order_of}
use Rattle.amount.specs.Decimal.{all_digits, digits_after, decimal}
use Rattle.amount.specs.Amounts.{amount_if, read_of, compare_of}
use Rattle.amount.specs.declared.Amount.{Amount}
use Rattle.sheet.specs.Walk.{every, sum, prior}
use Rattle.sheet.specs.Sheet.{entry_at, is_field, is_form, sound_as}
use Rattle.sheet.specs.Fields.{Field, absent, text, figure, other, Sight, quantity, amount}
use Rattle.registry.specs.Readers.{marked, parsed, amount_by, amount_in, amount_of, text_in}
use Rattle.registry.specs.Tests.{state_absent, above_zero, held_by, up_to, first, draws_on, creates}
use Rattle.registry.specs.Call.{operation_of, called}
use Rattle.registry.specs.declared.error.ProfileError.TheVariants.{TornState, TornInput, UnknownProfile, UnknownOperation, Missing, NotWhole, FloatForbidden, NoField, NonPositiveAmount, InsufficientQuantity, OverMaximum}
use Rattle.std.specs.Prelude.{Ok, Err}

abbrev whole_of : ℕ → Amount
whole_of n = record { mantissa = record { hi = 0; lo = n }; scale = 0 }

-- `5`; 49 digits and a point; `1e3` and `1E3`; 40 digits; no bytes; no string; nothing. 11 comes before 10, however long the text
amounts : map (amount_in amount)
    (text (53 ∷ []) ∷ text (replicate 49 48 ++ (46 ∷ [])) ∷ text (49 ∷ 101 ∷ 51 ∷ []) ∷ text (49 ∷ 69 ∷ 51 ∷ []) ∷ text (replicate 40 48) ∷ text [] ∷ other ∷ absent ∷ [])
    ≡ Ok (whole_of 5) ∷ Err (FloatForbidden 7) ∷ Err (FloatForbidden 7) ∷ Err (FloatForbidden 7) ∷ Err (NotWhole 7) ∷ Err (NotWhole 7) ∷ Err (NotWhole 7)
    ∷ Err (Missing 7) ∷ []
unfolding val limit halves all_digits digits_after decimal amount_if read_of marked parsed amount_by
amounts = refl

-- all that is held may be asked, and a meter be created full; 15 says what is held and what is asked, in this order
bounds : (map (held_by (whole_of 5)) (whole_of 5 ∷ whole_of 6 ∷ []) ≡ Ok tt ∷ Err (InsufficientQuantity (whole_of 5) (whole_of 6)) ∷ [])
    × (map (λ a. up_to a (whole_of 5)) (whole_of 5 ∷ whole_of 6 ∷ []) ≡ Ok tt ∷ Err OverMaximum ∷ [])
unfolding val order_of compare_of held_by up_to
bounds = (refl, refl)

-- a state without the field, and one that holds 5; an input of nothing, and of one text under every name
abbrev bare : Sight
bare = record { there = true; at = λ n. absent }

abbrev holding : Sight
holding = record { there = true; at = λ n. figure (whole_of 5) }

abbrev nothing : ℕ → Field
nothing n = absent

abbrev asking : ℕ → ℕ → Field
asking digit n = text (digit ∷ [])

-- 12 before 7; 7 before 14; 14 before 15; and 15
taken : (first amount_in bare nothing (draws_on quantity quantity) ≡ Err (NoField 3))
    × (first amount_in holding nothing (draws_on quantity quantity) ≡ Err (Missing 3))
    × (first amount_in holding (asking 48) (draws_on quantity quantity) ≡ Err NonPositiveAmount)
    × (first amount_in holding (asking 54) (draws_on quantity quantity) ≡ Err (InsufficientQuantity (whole_of 5) (whole_of 6)))
    × (first amount_in holding (asking 53) (draws_on quantity quantity) ≡ Ok tt)
unfolding val limit halves order_of all_digits digits_after decimal amount_if read_of compare_of marked parsed amount_by amount_of above_zero held_by
taken = (refl, refl, refl, refl, refl)

-- a create asks for the subject first
created : first amount_in (record { there = false; at = λ n. absent }) nothing (creates quantity) ≡ Err (Missing 1)
unfolding state_absent text_in
created = refl

-- 1 before 2, 2 before 3, 3 before 4; the byte 0 is no state, and no bytes are no input
called_first : (called 9 0 (0 ∷ []) [] ≡ Err (TornState 1)) × (called 9 0 [] [] ≡ Err TornInput) × (called 9 0 [] (0 ∷ []) ≡ Err UnknownProfile)
    × (called 1 11 [] (0 ∷ []) ≡ Err UnknownOperation) × (called 2 11 [] (0 ∷ []) ≡ Ok tt)
unfolding every sum prior entry_at is_field is_form sound_as operation_of called
called_first = (refl, refl, refl, refl, refl)
