-- Document 01, section "Book": a place seen as a balance state, so that the steps of the book are the balance profile's rules.
use Rattle.std.specs.Prelude.{true, false, cond, List, ℕ, eqb}
use Rattle.amount.specs.declared.Amount.{Amount}
use Rattle.sheet.specs.Fields.{Field, absent, text, figure, Sight, subject, unit, balance}

abbrev pub place_field : List ℕ → List ℕ → Amount → ℕ → Field
place_field s u b n = cond (eqb n subject) (text s) (cond (eqb n unit) (text u) (cond (eqb n balance) (figure b) absent))

-- an open place: its subject, the book's unit, its balance
abbrev pub place_view : List ℕ → List ℕ → Amount → Sight
place_view s u b = record { there = true; at = place_field s u b }

-- a closed one
abbrev pub closed_view : Sight
closed_view = record { there = false; at = λ n. absent }

-- an input with one field put in: begin's to_subject is the destination's subject, whether or not the sheet has one
abbrev pub put_field : (ℕ → Field) → ℕ → Field → ℕ → Field
put_field view name f n = cond (eqb n name) f (view n)
