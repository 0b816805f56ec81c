-- Document 01, section "Sheets": a sheet as rules see it, by the names of its fields.
use Rattle.std.specs.Prelude.{Bool, cond, not, List, Option, Some, None, ℕ, eqb, length}
use Rattle.amount.specs.declared.Amount.{Amount}
use Rattle.sheet.specs.Amounts.{amount_at}
use Rattle.sheet.specs.Sheet.{lookup, table, body_of}
use Rattle.sheet.specs.declared.Entry.{Entry}

-- the names
abbrev pub subject : ℕ
subject = 1

abbrev pub unit : ℕ
unit = 2

abbrev pub quantity : ℕ
quantity = 3

abbrev pub balance : ℕ
balance = 4

abbrev pub remaining : ℕ
remaining = 5

abbrev pub maximum : ℕ
maximum = 6

abbrev pub amount : ℕ
amount = 7

abbrev pub to_subject : ℕ
to_subject = 8

abbrev pub to_unit : ℕ
to_unit = 9

abbrev pub authorized_by : ℕ
authorized_by = 10

-- what a name has: nothing, a text (kind 1), a figure, which is an amount (kind 3), or a value that is no string (kind 2)
pub data Field : Type 0 where
  absent : Field
  text : (bytes : List ℕ) → Field
  figure : (a : Amount) → Field
  other : Field

abbrev pub field_of_kind : ℕ → List ℕ → Field
field_of_kind kind body = cond (eqb kind 1) (text body) (cond (eqb kind 3) (figure (amount_at body 0)) other)

abbrev pub field_of : List ℕ → Option Entry → Field
field_of s (Some e) = field_of_kind e.kind (body_of s (Some e))
field_of s None = absent

-- the field of that name
unfoldable pub field : List ℕ → ℕ → Field
field s name = field_of s (lookup name (table s))

-- a view that has three names and no other
abbrev pub three : ℕ → Field → ℕ → Field → ℕ → Field → ℕ → Field
three a x b y c z name = cond (eqb a name) x (cond (eqb b name) y (cond (eqb c name) z absent))

-- a state: whether there is one, and its fields
pub record Sight : Type 0 where
  pub there : Bool
  pub at : ℕ → Field

-- a sheet of no bytes is an absent state
abbrev pub sight_of : List ℕ → Sight
sight_of s = record { there = not (eqb (length s) 0); at = field s }
