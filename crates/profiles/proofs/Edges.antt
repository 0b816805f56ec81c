-- Document 01's starred edges, proved together as one table: each row is a case and its answer. The last two rows are check's
-- part of the section's "Mistakes to exclude".
use Prim.Native.Nat.{ℕ, ◌-◌, ◌^◌}
use Prim.Native.Char.{code}
use Prim.Native.String.{String}
use Prim.Native.String as Str
use mathlib.Core.Path.{◌≡◌, refl}
use mathlib.Core.List.{List, [], ◌∷◌, map}
use Rattle.amount.specs.Numbers.{val, limit, halves, order_of}
use Rattle.amount.specs.Decimal.{all_digits, digits_after, decimal}
use Rattle.amount.specs.Amounts.{amount_if, read_of, mantissa_at, compare_of, sum_of, difference_of, refused_of}
use Rattle.amount.specs.Amounts as Amounts
use Rattle.amount.specs.Canonical.{strip, last_digits, width_up_to, width_of, whole_text, decimal_text, canonical_text}
use Rattle.amount.specs.declared.Amount.{Amount}
use Rattle.amount.specs.declared.Given.{Given}
use Rattle.std.specs.declared.cmp.Ordering.{Ordering}
use Rattle.std.specs.declared.cmp.Ordering.TheVariants.{Equal}
use Rattle.sheet.specs.Walk.{every, sum, prior}
use Rattle.sheet.specs.Sheet.{entry_at, is_field, is_form, sound_as, entries_from, lookup}
use Rattle.sheet.specs.Amounts.{amount_at}
use Rattle.writer.specs.Encode.{encode, item, stack_sheet, balance_sheet, meter_sheet}
use Rattle.sheet.specs.Fields.{field, subject, quantity, remaining, maximum, amount}
use Rattle.registry.specs.Refusals.{numbered, answer_of}
use Rattle.registry.specs.Readers.{text_in, marked, parsed, amount_by, amount_of}
use Rattle.registry.specs.Tests.{above_zero, held_by, up_to, state_there, state_absent}
use Rattle.registry.specs.Call.{operation_of, called}
use Rattle.registry.specs.declared.error.Answer as Check
use Rattle.profiles.specs.Stack.{stack_rules}
use Rattle.profiles.specs.Balance.{balance_rules}
use Rattle.profiles.specs.Meter.{meter_rules}
use Rattle.profiles.specs.Check.{check_of}

pub data Case : Type 0 where
  reading : List ℕ → Case
  printing : Amount → Case
  comparing : Amount → Amount → Case
  adding : Amount → Amount → Case
  subtracting : Amount → Amount → Case
  checking : (profile operation : ℕ) (state input : List ℕ) → Case

pub data Answer : Type 0 where
  gives : Given → Answer
  text : List ℕ → Answer
  stands : Ordering → Answer
  says : Check.Answer → Answer

abbrev pub answer : Case → Answer
answer (reading s) = gives (Amounts.given_of (read_of s))
answer (printing a) = text (canonical_text a)
answer (comparing a b) = stands (compare_of a b)
answer (adding a b) = gives (Amounts.given_of (sum_of a b))
answer (subtracting a b) = gives (Amounts.given_of (difference_of a b))
answer (checking profile operation s i) = says (answer_of (check_of profile operation s i))

-- the bytes of a text of two characters or more
abbrev pub bytes : String → List ℕ
bytes Str.[] = []
bytes (Str.◌∷◌ c s) = code c ∷ bytes s

-- the amount with mantissa m at a scale, and the answers that a call on amounts gives
abbrev pub at : ℕ → ℕ → Amount
at m s = record { mantissa = halves m; scale = s }

abbrev pub ok : ℕ → ℕ → Answer
ok m s = gives (record { number = 0; detail = 0; amount = at m s })

abbrev pub refused : ℕ → Answer
refused number = gives (refused_of number)

-- the states, of the subject N1 and the unit rd
abbrev pub stack : List ℕ
stack = stack_sheet (bytes "N1") (bytes "rd") (at 5 0)

abbrev pub balance : List ℕ
balance = balance_sheet (bytes "N1") (bytes "rd") (at 5 0)

abbrev pub meter : List ℕ
meter = meter_sheet (bytes "N1") (at 5 0) (at 5 0)

-- an input of one text, and a meter's create
abbrev pub one : ℕ → List ℕ → List ℕ
one name t = encode (item name 1 t ∷ [])

abbrev pub metered : List ℕ → List ℕ → List ℕ
metered r m = encode (item subject 1 (bytes "N1") ∷ item remaining 1 r ∷ item maximum 1 m ∷ [])

pub table : List (Case × Answer)
table =
    (reading (code "0" ∷ []), ok 0 0)
    ∷ (reading (bytes "000000000000000000000000000000000000001"), ok 1 0)
    ∷ (reading (bytes "0000000000000000000000000000000000000001"), refused 10)
    ∷ (reading (bytes "340282366920938463463374607431768211455"), ok (2 ^ 128 - 1) 0)
    ∷ (reading (bytes "340282366920938463463374607431768211456"), refused 10)
    ∷ (checking 2 13 balance (one amount (bytes "1e3")), says (numbered 11 amount))
    ∷ (printing (at 1200 3), text (bytes "1.2"))
    ∷ (printing (at 5 3), text (bytes "0.005"))
    ∷ (printing (at 0 255), text (code "0" ∷ []))
    ∷ (comparing (at 10 1) (at 1 0), stands Equal)
    ∷ (adding (at (2 ^ 128 - 1) 0) (at 0 1), refused 17)
    ∷ (subtracting (at 15 1) (at 1 0), ok 5 1)
    ∷ (checking 1 2 stack (one quantity (code "0" ∷ [])), says (numbered 0 0))
    ∷ (checking 2 13 balance (one amount (code "0" ∷ [])), says (numbered 14 0))
    ∷ (checking 3 21 [] (metered (code "5" ∷ []) (code "5" ∷ [])), says (numbered 0 0))
    ∷ (checking 3 21 [] (metered (code "6" ∷ []) (code "5" ∷ [])), says (numbered 16 0))
    ∷ (checking 2 14 balance (one amount (bytes "0000000000000000000000000000000000000000000000001.")), says (numbered 11 amount))
    ∷ (checking 1 2 meter (one quantity (code "1" ∷ [])), says (numbered 0 0))
    ∷ []

pub edges : map (λ r. answer r.0) table ≡ map (λ r. r.1) table
unfolding table read_of amount_if all_digits digits_after decimal limit halves val strip last_digits width_up_to width_of whole_text decimal_text canonical_text compare_of order_of sum_of mantissa_at difference_of every sum prior entry_at is_field is_form sound_as entries_from lookup amount_at encode stack_sheet balance_sheet meter_sheet field text_in marked parsed amount_by amount_of above_zero held_by up_to state_there state_absent stack_rules balance_rules meter_rules operation_of called check_of
edges = refl
