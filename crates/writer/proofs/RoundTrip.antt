-- "The sheet written is of the profile's kind": a written state sheet is sound and of its kind, and its fields are what was
-- written, for texts up to 256 bytes. The theorems are `stack_back`, `balance_back` and `meter_back`.
use mathlib.Core.Path.{◌≡◌, refl, sym, ap, ◌∙◌}
use mathlib.Core.List.{List, [], ◌∷◌, ◌++◌}
use mathlib.Core.Bool.{true}
use Prim.Native.Nat.{ℕ, ◌+◌, ◌*◌, ◌/◌, ◌%◌, ◌≤◌, ◌<◌, ◌^◌}
use native.Mathlib.Omega.{arith}
use lib.ListN.{length, take, drop}
use lib.Seq.{take-append_seam, drop-append_seam, drop-drop}
use borrow.Author.Tests.{le-leb, eq-eqb}
use Rattle.amount.specs.declared.Amount.{Amount}
use Rattle.sheet.specs.declared.Entry.{Entry}
use Rattle.sheet.specs.declared.Form.{Form}
use Rattle.sheet.specs.declared.State.{State}
use Rattle.sheet.specs.Sheet.{entry_at, entries_from, table, part_of, length_fits, is_form, sound_as, state_of, stack_form, balance_form, meter_form}
use Rattle.sheet.specs.Amounts.{amount_at, amount_bytes}
use Rattle.sheet.specs.Fields.{Field, text, figure, field_of_kind, field, three}
use Rattle.writer.specs.Encode.{encode, form_items, holding_sheet, stack_sheet, balance_sheet, meter_sheet}
use Rattle.writer.proofs.Copying.{three_length}
use Rattle.writer.proofs.AmountBytes.{amount_back}
use Rattle.sheet.proofs.Three.{three_fields, stack_is, balance_is, meter_is}
use Rattle.sheet.proofs.Forms.{formed_is}

-- two bytes, low first, read back
u16_back : (n : ℕ) → n < 65536 → n % 256 + 256 * (n / 256 % 256) ≡ n
u16_back n h = omega arith

abbrev entry : ℕ → ℕ → ℕ → ℕ → Entry
entry name kind offset len = record { name = name; kind = kind; offset = offset; len = len }

-- the bodies of a form, short enough for 16 bits
module _ (f : Form) (x y z : List ℕ) (low : 19 + length x + length y < 65536) (lz : length z < 65536) where
  abbrev sheet : List ℕ
  sheet = encode (form_items f x y z)

  -- the three entries, as they were written
  abbrev first : Entry
  first = entry 1 1 19 (length x)

  abbrev second : Entry
  second = entry f.second f.kind (19 + length x) (length y)

  abbrev third : Entry
  third = entry f.third 3 (19 + length x + length y) (length z)

  first_back : entry_at sheet 0 ≡ first
  unfolding entry_at encode
  first_back = rw (u16_back (length x) (omega arith))

  second_back : entry_at sheet 1 ≡ second
  unfolding entry_at encode
  second_back = rw (u16_back (19 + length x) (omega arith), u16_back (length y) (omega arith))

  third_back : entry_at sheet 2 ≡ third
  unfolding entry_at encode
  third_back = rw (u16_back (19 + length x + length y) low, u16_back (length z) lz)

  table_back : table sheet ≡ first ∷ second ∷ third ∷ []
  unfolding entries_from encode
  table_back = rw (first_back, second_back, third_back)

  -- the three bodies, where the table says they are
  first_body : part_of sheet first ≡ x
  unfolding encode
  first_body = take-append_seam x (y ++ (z ++ []))

  behind_first : drop (19 + length x) sheet ≡ y ++ (z ++ [])
  unfolding encode
  behind_first = sym (drop-drop (length x) 19 sheet) ∙ drop-append_seam x (y ++ (z ++ []))

  second_body : part_of sheet second ≡ y
  second_body = ap (take (length y)) behind_first ∙ take-append_seam y (z ++ [])

  third_body : part_of sheet third ≡ z
  third_body =
      ap (take (length z)) (sym (drop-drop (length y) (19 + length x) sheet) ∙ ap (drop (length y)) behind_first ∙ drop-append_seam y (z ++ []))
      ∙ take-append_seam z []

  -- every name's field
  pub fields_back : (name : ℕ) → field sheet name ≡ three 1 (text x) f.second (field_of_kind f.kind y) f.third (figure (amount_at z 0)) name
  fields_back name = three_fields sheet first second third table_back name ∙ rw (first_body, second_body, third_body)

  -- sound where each body has a length of its kind
  sound_back : length x ≤ 256 → length_fits f.kind (length y) ≡ true → length z ≡ 17 → is_form f sheet ≡ true
  unfolding encode
  sound_back lx ly l17 =
      formed_is f sheet record {
        counted = refl;
        first = rw first_back record { named = refl; kinded = refl; long = le-leb (length x) 256 lx; place = refl };
        second = rw (second_back, first_back) record { named = refl; kinded = refl; long = ly; place = refl };
        third = rw (third_back, second_back, first_back) record { named = refl; kinded = refl; long = eq-eqb (length z) 17 l17; place = refl };
        ends = rw (third_back, second_back, first_back) (sym (three_length f x y z));
      }

-- an amount whose halves have 64 bits, as each that code holds
pub record Sized (a : Amount) : Type 0 where
  pub lo : a.mantissa.lo < 2 ^ 64
  pub hi : a.mantissa.hi < 2 ^ 64

read_back : (a : Amount) → Sized a → amount_at (amount_bytes a) 0 ≡ a
read_back a h = amount_back a [] h.lo h.hi

-- WHAT IS READ of a state sheet: its kind, and every name's field
pub record Back (s : List ℕ) (kind : State) (view : ℕ → Field) : Type 0 where
  pub is : state_of s ≡ kind
  pub fields : (name : ℕ) → field s name ≡ view name

module _ (x : List ℕ) (lx : length x ≤ 256) where
  module _ (y : List ℕ) (ly : length y ≤ 256) (a : Amount) (ha : Sized a) where
    -- of a form whose second field is a text, and that is of one kind where it is sound
    holding_back : (f : Form) (kind : State) → f.kind ≡ 1 → ((s : List ℕ) → is_form f s ≡ true → state_of s ≡ kind)
        → Back (holding_sheet f x y a) kind (three 1 (text x) f.second (text y) f.third (figure a))
    holding_back f kind t known =
        let z : List ℕ = amount_bytes a in
        record {
          is = known _ (sound_back f x y z (omega arith) (omega arith) lx (rw t (le-leb _ _ ly)) refl);
          fields = λ name. fields_back f x y z (omega arith) (omega arith) name ∙ rw (t, read_back a ha);
        }

    pub stack_back : Back (stack_sheet x y a) State.Stack (three 1 (text x) 2 (text y) 3 (figure a))
    unfolding stack_sheet sound_as
    stack_back = holding_back stack_form State.Stack refl stack_is

    pub balance_back : Back (balance_sheet x y a) State.Balance (three 1 (text x) 2 (text y) 4 (figure a))
    unfolding balance_sheet sound_as
    balance_back = holding_back balance_form State.Balance refl balance_is

  pub meter_back : (r m : Amount) → Sized r → Sized m → Back (meter_sheet x r m) State.Meter (three 1 (text x) 5 (figure r) 6 (figure m))
  unfolding meter_sheet sound_as
  meter_back r m hr hm =
      let y : List ℕ = amount_bytes r in
      let z : List ℕ = amount_bytes m in
      record {
        is = meter_is _ (sound_back meter_form x y z (omega arith) (omega arith) lx refl refl);
        fields = λ name. fields_back meter_form x y z (omega arith) (omega arith) name ∙ rw (read_back r hr, read_back m hm);
      }
