-- Document 01, section "Rust habits": "a reader that holds the sheet and the next entry". Document 02, request 3: "However the reader now
-- finds where a body must start, it is to keep that place as the table is walked: after k entries found sound it is shown to be 1 + 6n
-- plus the lengths of their bodies, and each entry adds only its own length." Shown in proofs/Walking.antt.
use Rattle.std.specs.Prelude.{Bool, cond, not, ◌&&◌, List, Option, Some, None, ℕ, zero, suc, ◌+◌, ◌*◌, length, eqb, ltb}
use Rattle.std.specs.Borrow.{Bor}
use Rattle.sheet.specs.Sheet.{count, entry_at, entry_fits, name_before}
use Rattle.sheet.specs.declared.Entry.{Entry}
use Rattle.sheet.specs.declared.reader.Reader.{Reader}

-- entry k, if the table has it and it fits above the name `last` with its body at `at`
abbrev pub fitting_at : List ℕ → ℕ → ℕ → ℕ → Option Entry
fitting_at s k last at = cond (ltb k (count s) && entry_fits (entry_at s k) last at) (Some (entry_at s k)) None

-- before the first entry: the first body starts behind the table
abbrev pub reader_of : Bor (List ℕ) → Reader
reader_of s = record { sheet = s; next = 0; at = 1 + 6 * count s.now }

-- a reader's next entry, if it fits
abbrev pub next_fitting : Reader → ℕ → Option Entry
next_fitting r last = fitting_at r.sheet.now r.next last r.at

-- behind an entry found sound: its own length is added. Where there is none the reader stays
abbrev pub behind : Reader → Option Entry → Reader
behind r (Some e) = record { sheet = r.sheet; next = r.next + 1; at = r.at + e.len }
behind r None = r

-- after k steps, each above the name before the reader's entry
unfoldable pub reader_after : Bor (List ℕ) → ℕ → Reader
reader_after s zero = reader_of s
reader_after s (suc k) =
    let r : Reader = reader_after s k in
    behind r (next_fitting r (name_before s.now r.next))

-- behind the last entry, its place the sheet's end
abbrev pub at_end : Reader → Bool
at_end r = not (ltb r.next (count r.sheet.now)) && eqb r.at (length r.sheet.now)
