-- Document 01, section "Operations", refusals 7 to 13: what a field is read as, or why it is not.
use Rattle.std.specs.Prelude.{Bool, false, cond, ◌||◌, List, [], ◌∷◌, ℕ, eqb, length, Result, Ok, Err}
use Rattle.amount.specs.Amounts.{read_of}
use Rattle.amount.specs.declared.Amount.{Amount}
use Rattle.sheet.specs.Fields.{Field, absent, text, figure, other}
use Rattle.registry.specs.Refusals.{zero_amount, Outcome, Reading}
use Rattle.registry.specs.declared.error.ProfileError.{ProfileError}
use Rattle.registry.specs.declared.error.ProfileError.TheVariants.{Missing, NotText, Empty, NotWhole, FloatForbidden, NoField, Blank}
use Rattle.amount.specs.declared.AmountError.{AmountError}
use Rattle.std.specs.Result.{result_or}

-- an input text: 7 missing, 8 not text, 9 empty
unfoldable pub text_in : ℕ → Field → Outcome
text_in n absent = Err (Missing n)
text_in n (text t) = cond (eqb (length t) 0) (Err (Empty n)) (Ok tt)
text_in n (figure a) = Err (NotText n)
text_in n other = Err (NotText n)

-- a state's text: 12 no field, 13 blank
unfoldable pub text_of : ℕ → Field → Outcome
text_of n absent = Err (NoField n)
text_of n (text t) = cond (eqb (length t) 0) (Err (Blank n)) (Ok tt)
text_of n (figure a) = Err (NoField n)
text_of n other = Err (NoField n)

-- the bytes of a text; none where there is no text
unfoldable pub bytes_of : Field → List ℕ
bytes_of absent = []
bytes_of (text t) = t
bytes_of (figure a) = []
bytes_of other = []

-- `.`, `e` or `E`
abbrev pub is_mark : ℕ → Bool
is_mark b = eqb b 46 || eqb b 101 || eqb b 69

unfoldable pub marked : List ℕ → Bool
marked [] = false
marked (b ∷ s) = is_mark b || marked s

-- an amount that was made, or why there is none
abbrev pub given_or : ProfileError → Result Amount AmountError → Reading
given_or e o = result_or o (Err e)

-- how document 01 reads the text of an amount: 11 where it holds a mark of a fraction, else 10 where it is not readable
unfoldable pub parsed : ℕ → List ℕ → Reading
parsed n t = cond (marked t) (Err (FloatForbidden n)) (given_or (NotWhole n) (read_of t))

-- an input amount whose text is read in some way: 7 missing, 10 no string
unfoldable pub amount_by : (ℕ → List ℕ → Reading) → ℕ → Field → Reading
amount_by parse n absent = Err (Missing n)
amount_by parse n (text t) = parse n t
amount_by parse n (figure a) = Err (NotWhole n)
amount_by parse n other = Err (NotWhole n)

abbrev pub amount_in : ℕ → Field → Reading
amount_in = amount_by parsed

-- a state's amount: 12 no field
unfoldable pub amount_of : ℕ → Field → Reading
amount_of n absent = Err (NoField n)
amount_of n (text t) = Err (NoField n)
amount_of n (figure a) = Ok a
amount_of n other = Err (NoField n)

-- whether an amount could be read
abbrev pub readable : Reading → Outcome
readable (Ok a) = Ok tt
readable (Err e) = Err e

-- a test of an amount that was read; where none was, why
abbrev pub on_amount : Reading → (Amount → Outcome) → Outcome
on_amount (Ok a) f = f a
on_amount (Err e) f = Err e

-- the amount that was read; zero where none was
abbrev pub read_amount : Reading → Amount
read_amount (Ok a) = a
read_amount (Err e) = zero_amount
