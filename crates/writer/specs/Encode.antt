-- Document 01, section "Sheets": the bytes of a state sheet that is written, and the buffer after it.
use Rattle.std.specs.Prelude.{cond, List, [], ◌∷◌, ◌++◌, Option, Some, None, ℕ, ◌+◌, ◌*◌, ◌/◌, ◌%◌, length, drop, leb}
use Rattle.amount.specs.declared.Amount.{Amount}
use Rattle.sheet.specs.Amounts.{amount_bytes}
use Rattle.sheet.specs.Sheet.{stack_form, balance_form, meter_form}
use Rattle.sheet.specs.declared.Form.{Form}

-- a field to be written
pub record Item : Type 0 where
  pub name : ℕ
  pub kind : ℕ
  pub body : List ℕ

-- a table entry: name, kind, and the body's offset and length, 16 bits each; then `rest`
abbrev pub entry_bytes : ℕ → ℕ → ℕ → ℕ → List ℕ → List ℕ
entry_bytes name kind offset len rest = name ∷ kind ∷ offset % 256 ∷ offset / 256 % 256 ∷ len % 256 ∷ len / 256 % 256 ∷ rest

-- the table, the first body starting at `at`, and then `rest`
abbrev pub table_bytes : ℕ → List Item → List ℕ → List ℕ
table_bytes at [] rest = rest
table_bytes at (i ∷ is) rest = entry_bytes i.name i.kind at (length i.body) (table_bytes (at + length i.body) is rest)

abbrev pub bodies : List Item → List ℕ
bodies [] = []
bodies (i ∷ is) = i.body ++ bodies is

-- the sheet of these fields
unfoldable pub encode : List Item → List ℕ
encode is = length is ∷ table_bytes (1 + 6 * length is) is (bodies is)

abbrev pub item : ℕ → ℕ → List ℕ → Item
item name kind body = record { name = name; kind = kind; body = body }

-- the three fields of a state
abbrev pub form_items : Form → List ℕ → List ℕ → List ℕ → List Item
form_items f x y z = item 1 1 x ∷ item f.second f.kind y ∷ item f.third 3 z ∷ []

-- a state of a subject, a unit and an amount
abbrev pub holding_sheet : Form → List ℕ → List ℕ → Amount → List ℕ
holding_sheet f subject unit amount = encode (form_items f subject unit (amount_bytes amount))

-- the three states
unfoldable pub stack_sheet : List ℕ → List ℕ → Amount → List ℕ
stack_sheet subject unit quantity = holding_sheet stack_form subject unit quantity

unfoldable pub balance_sheet : List ℕ → List ℕ → Amount → List ℕ
balance_sheet subject unit balance = holding_sheet balance_form subject unit balance

unfoldable pub meter_sheet : List ℕ → Amount → Amount → List ℕ
meter_sheet subject remaining maximum = encode (form_items meter_form subject (amount_bytes remaining) (amount_bytes maximum))

-- a buffer that `w` is written into: the bytes, then the old rest
abbrev pub over : List ℕ → List ℕ → List ℕ
over w old = w ++ drop (length w) old

-- what a writer leaves and answers: nothing changes where the buffer is too short
unfoldable pub put_into : List ℕ → List ℕ → List ℕ
put_into w old = cond (leb (length w) (length old)) (over w old) old

unfoldable pub put_answer : List ℕ → List ℕ → Option ℕ
put_answer w old = cond (leb (length w) (length old)) (Some (length w)) None
